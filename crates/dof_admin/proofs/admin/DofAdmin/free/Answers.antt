use Rattle.std.proofs.Common.{◌≡◌, ap, ◌∙◌, arith, true, false, get_or}
use Rattle.std.proofs.lemmas.List.{length-set}
use Rattle.dof_admin.specs.Administration.{Administration}
use Rattle.dof_admin.proofs.HoleHeaps.{heap-given, heap-below, used-within}
use Rattle.dof_admin.proofs.admin.DofAdmin.free.Goals as goal

pub unwrap-requires : goal.unwrap-requires
unwrap-requires c =
    let used : get_or c.self.inside.flags.items c.args.index false ≡ true = ap (λ (a : Administration). get_or a.flags c.args.index false) c.self.view_is ∙ c.requires in
    c.push.ensures.succeeds (omega (arith, heap-below c.self.inside.flags.items _ c.args.index c.self.invariant.0 used))

pub invariant_of-self : goal.invariant_of-self
invariant_of-self c =
    let used : get_or c.self.inside.flags.items c.args.index false ≡ true = ap (λ (a : Administration). get_or a.flags c.args.index false) c.self.view_is ∙ c.requires in (
      heap-given c.self.inside.flags.items _ _ (record { 0 = c.args.index }) c.self.invariant.0 (used-within _ _ used) used (rw c.unwrap.ensures at c.push.ensures.permutation) (rw c.unwrap.ensures at c.push.ensures.heap_order),
      record {
        within = omega (arith, length-set c.self.inside.flags.items c.args.index false);
        numbered = omega arith;
        flags = omega arith;
        holes = omega arith;
      },
    )
