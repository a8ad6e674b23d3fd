use Rattle.std.proofs.Common.{◌≡◌, ap, ◌∙◌, sym, subst, arith, Bool, true, List, ℕ, length, replicate}
use Rattle.std.proofs.lemmas.List.{length-replicate}
use Rattle.std.specs.Vec.{vec_len}
use Rattle.std.specs.BinaryHeap.{heap_items}
use Rattle.dof_admin.specs.Administration.{Administration, used_count}
use Rattle.dof_admin.specs.Holes.{AreHoles}
use Rattle.dof_admin.proofs.HoleHeaps.{heap-count, heap-all_used}
use Rattle.dof_admin.proofs.Renumbering.{used_count-replicate}
use Rattle.dof_admin.proofs.admin.DofAdmin.compress.Goals as goal

pub overflow_sub-used : goal.overflow_sub-used
overflow_sub-used c = omega (arith, heap-count c.self.inside.flags.items _ c.self.invariant.0)

-- what is left is as long as there are used ones, and all used
filled : (c : goal.After-fill) → c.fill.new.self.items ≡ replicate (used_count c.self.inside.flags.items) true
filled c =
    let size : vec_len c.truncate.new.self ≡ used_count c.self.inside.flags.items = omega (arith, c.self.inside.holes.data.ok, heap-count c.self.inside.flags.items _ c.self.invariant.0) in
    c.fill.ensures.items (λ y e. e) ∙ ap (λ (n : ℕ). replicate n true) size

pub invariant_of-self : goal.invariant_of-self
invariant_of-self c = (
  subst (λ (l : List Bool). AreHoles l (heap_items c.clear.new.self)) (sym (filled c)) (heap-all_used _ _ c.clear.ensures.items c.clear.ensures.heap_order),
  record {
    within = omega (arith, ap length (filled c), length-replicate (used_count c.self.inside.flags.items) true, heap-count c.self.inside.flags.items _ c.self.invariant.0);
    numbered = omega arith;
    flags = omega arith;
    holes = omega arith;
  },
)

pub returns-clause-flags : goal.returns-clause-flags
returns-clause-flags c = filled c ∙ ap (λ (a : Administration). replicate (used_count a.flags) true) c.self.view_is

pub returns-clause-spare : goal.returns-clause-spare
returns-clause-spare c =
    let spare = ap (λ (a : Administration). a.spare) c.self.view_is in
    omega (arith, spare, ap used_count (filled c), used_count-replicate (used_count c.self.inside.flags.items))
