use Rattle.std.proofs.Common.{◌≡◌, ap, ◌∙◌, sym, subst, arith, Bool, true, List, length, length-append, ℕ, ◌∷◌, []}
use Rattle.std.specs.declared.cmp.Reverse.{Reverse}
use Rattle.dof_admin.specs.Holes.{AreHoles}
use Rattle.std.proofs.lemmas.List.{length-set}
use Rattle.dof_admin.specs.Administration.{Administration, IsLeastUnused, with_used}
use Rattle.dof_admin.proofs.HoleLists.{set-with_used}
use Rattle.dof_admin.proofs.HoleHeaps.{heap-count, heap-top, heap-used, heap-pushed, top-least, end-least}
use Rattle.dof_admin.proofs.admin.DofAdmin.get.Goals as goal

pub index_mut-requires : goal.index_mut-requires
index_mut-requires c =
    let top = heap-top c.self.inside.flags.items _ _ c.in-Some.field-0 c.self.invariant.0 c.in-Some.ensures.permutation c.in-Some.ensures.heap_order in
    omega arith

pub invariant_of-self : goal.invariant_of-self
invariant_of-self c = (
  heap-used c.self.inside.flags.items _ _ c.in-Some.field-0 c.self.invariant.0 c.in-Some.ensures.permutation c.in-Some.ensures.heap_order,
  record {
    within = omega (arith, length-set c.self.inside.flags.items c.in-Some.field-0.0 true);
    numbered = omega arith;
    flags = omega arith;
    holes = omega arith;
  },
)

pub push_reserved-requires : goal.push_reserved-requires
push_reserved-requires c =
    let spare = ap (λ (a : Administration). a.spare) c.self.view_is in
    omega (arith, spare, c.in-None.ensures.none, c.self.inside.holes.data.ok, heap-count c.self.inside.flags.items _ c.self.invariant.0)

pub invariant_of-self-in-None : goal.invariant_of-self-in-None
invariant_of-self-in-None c =
    let spare = ap (λ (a : Administration). a.spare) c.self.view_is in
    let pushed = heap-pushed c.self.inside.flags.items _ c.self.invariant.0 in (
      subst (λ (x : List Bool × List (Reverse ℕ)). AreHoles x.0 x.1) (λ i. (sym c.push_reserved.ensures.items i, sym c.in-None.ensures.unchanged.0 i)) pushed,
      record {
        within = omega (arith, spare, c.in-None.ensures.none, c.self.inside.holes.data.ok, heap-count c.self.inside.flags.items _ c.self.invariant.0, ap length c.push_reserved.ensures.items, length-append c.self.inside.flags.items (true ∷ []));
        numbered = omega arith;
        flags = omega arith;
        holes = omega (arith, c.pop.ensures.capacity);
      },
    )

pub returns-in-Some-clause-least : goal.returns-in-Some-clause-least
returns-in-Some-clause-least c =
    subst (λ (a : Administration). IsLeastUnused a.flags c.in-Some.field-0.0) c.self.view_is
    (top-least _ _ (heap-top c.self.inside.flags.items _ _ c.in-Some.field-0 c.self.invariant.0 c.in-Some.ensures.permutation c.in-Some.ensures.heap_order))

pub returns-in-Some-clause-flags : goal.returns-in-Some-clause-flags
returns-in-Some-clause-flags c =
    let top = heap-top c.self.inside.flags.items _ _ c.in-Some.field-0 c.self.invariant.0 c.in-Some.ensures.permutation c.in-Some.ensures.heap_order in
    set-with_used c.self.inside.flags.items c.in-Some.field-0.0 top.within ∙ ap (λ (a : Administration). with_used a.flags c.in-Some.field-0.0) c.self.view_is

pub returns-in-None-clause-least : goal.returns-in-None-clause-least
returns-in-None-clause-least c =
    let at_end : IsLeastUnused c.self.inside.flags.items (length c.self.inside.flags.items) = end-least _ _ c.self.invariant.0 (omega (arith, c.in-None.ensures.none, c.self.inside.holes.data.ok)) in
    let size : length c.self.inside.flags.items ≡ c.len-size.result = omega arith in
    subst (λ (x : List Bool × ℕ). IsLeastUnused x.0 x.1) (λ i. ((c.self.view_is i).flags, size i)) at_end
