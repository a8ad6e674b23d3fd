use Rattle.std.proofs.Common.{List, length, ap, sym, ◌∙◌, arith}
use Rattle.compat_check.specs.Meshes.{across_in}
use Rattle.mesh_names.specs.Names.{Name}
use Rattle.forest_plain.proofs.Counting.{all_left, one_counted, one_skipped, next_member, none_left}
use Rattle.forest_plain.proofs.delta.count_patches.Goals as goal

pub loop-name-init : goal.loop-name-init
loop-name-init c = all_left (across_in c.args.mesh.now) c.into_iter-name-iterator.result c.members.inside.names.keys c.args.members.now (c.into_iter-name-iterator.ensures.into_iter_gives ∙ c.iter-name-items.ensures.rest) c.members.view_is c.iter-name-items.ensures.ordered c.iter-name-items.ensures.fits

pub is_owner-requires : goal.is_owner-requires
is_owner-requires c = c.requires c.in-Some.name.now (next_member (across_in c.args.mesh.now) c.args.members.now c.loop-name.count c.loop-name.name-iterator c.next.new.self c.in-Some.name.now c.loop-name.invariant c.in-Some.ensures.steps)

pub overflow_add-count : goal.overflow_add-count
overflow_add-count c = let l = ap (λ (ks : List Name). length ks) c.in-Some.ensures.steps in omega (arith, c.loop-name.invariant.small, l)

pub loop-name-preserved-then-is_owner : goal.loop-name-preserved-then-is_owner
loop-name-preserved-then-is_owner c = one_counted (across_in c.args.mesh.now) c.args.members.now c.loop-name.count c.loop-name.name-iterator c.next.new.self c.in-Some.name.now c.loop-name.invariant c.in-Some.ensures.steps (sym c.if-is_owner.ensures)

pub loop-name-preserved : goal.loop-name-preserved
loop-name-preserved c = one_skipped (across_in c.args.mesh.now) c.args.members.now c.loop-name.count c.loop-name.name-iterator c.next.new.self c.in-Some.name.now c.loop-name.invariant c.in-Some.ensures.steps (sym c.if-is_owner.ensures)

pub returns : goal.returns
returns c = none_left (across_in c.args.mesh.now) c.args.members.now c.loop-name.count c.loop-name.name-iterator c.loop-name.invariant c.in-None.ensures.steps.0
