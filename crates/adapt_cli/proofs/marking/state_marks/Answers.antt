use Rattle.std.proofs.Common.{List, ◌∙◌, ap, map, subst, sym}
use Rattle.std.specs.List.Sorted.{IsStrictlySortedBy}
use Rattle.mesh_names.specs.Names.{Name, name_cmp}
use Rattle.mark_strategy.specs.Leaves.{AreLeaves, Leaf}
use Rattle.dof_transfer.specs.Held.{worth_of}
use Rattle.mesh_rounds.specs.Adaptive.{state_of}
use Rattle.adapt_cli.proofs.MarkOutcomes.{names-valued}
use Rattle.adapt_cli.proofs.marking.state_marks.Goals as goal

pub choose-requires : goal.choose-requires
choose-requires c =
    let held = (state_of c.leaves.new.self).elements in
    let list = c.in-Ok.leaves.items in
    subst (λ (ps : List Leaf). AreLeaves ps) (sym (c.deref-2.ensures.value ∙ c.in_ok-leaves.ensures ∙ ap (map (λ (n : Name). (n, worth_of held n))) c.deref.ensures.value))
    (subst (IsStrictlySortedBy name_cmp) (sym (names-valued held list)) c.in-Ok.ensures.ok.in_order)
