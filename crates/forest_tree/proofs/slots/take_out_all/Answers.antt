use Rattle.std.proofs.Common.{◌∙◌, ap, List}
use Rattle.std.specs.FinSet.{difference, from_list}
use Rattle.std.proofs.lemmas.List.{take_all}
use Rattle.mesh_names.specs.Names.{Name}
use Rattle.name_tree.specs.Held.{held}
use Rattle.forest_tree.proofs.HeldSets.{difference-none, held-taken, taken-next}
use Rattle.forest_tree.proofs.slots.take_out_all.Goals as goal

pub loop-name-init : goal.loop-name-init
loop-name-init c = difference-none (held c.args.tree.now)

pub loop-name-preserved : goal.loop-name-preserved
loop-name-preserved c = taken-next (held c.args.tree.now) (held c.loop-name.tree) (held c.take_out.new.self) c.args.names.now c.loop-name.name-index c.name-item.result _ c.loop-name-test.true c.name-item.is c.loop-name.invariant (held-taken c.loop-name.tree c.take_out.new.self c.name-item.result c.take_out.ensures.live)

pub returns : goal.returns
returns c = c.loop-name.invariant ∙ ap (λ (l : List Name). difference (held c.args.tree.now) (from_list l)) (take_all c.loop-name.name-index c.args.names.now c.loop-name-test.false)
