use Rattle.std.proofs.Common.{sym, ◌∙◌, ◌^◌, ap, subst, arith, length}
use Rattle.std.proofs.lemmas.Int.{to_z-of_z}
use mir.Syntax.{w64}
use Rattle.macro_file.specs.Limits.{AtMost}
use Rattle.macro_file.proofs.AssemblyLemmas.{number_in}
use Rattle.macro_file.proofs.assembly.element_at.Goals as goal

pub invariant_of-result-clause-corners_in_range : goal.invariant_of-result-clause-corners_in_range
invariant_of-result-clause-corners_in_range c = c.corners_at.ensures.range

pub invariant_of-result-clause-neighbours_in_range : goal.invariant_of-result-clause-neighbours_in_range
invariant_of-result-clause-neighbours_in_range c = c.neighbours_at.ensures.range

pub invariant_of-result-clause-value_in_range : goal.invariant_of-result-clause-value_in_range
invariant_of-result-clause-value_in_range c =
    subst (AtMost (2 ^ 55)) (sym (to_z-of_z w64 c.number_at.result (record { sfits = c.number_at.type_inv }) ∙ c.number_at.ensures))
    (number_in (AtMost (2 ^ 55)) c.args.values.now c.args.e (omega arith) c.requires.values)

pub invariant_of-result-clause-labels_in_range : goal.invariant_of-result-clause-labels_in_range
invariant_of-result-clause-labels_in_range c = c.labels_at.ensures.range

pub invariant_of-result-clause-three : goal.invariant_of-result-clause-three
invariant_of-result-clause-three c = (ap length c.corners_at.ensures.value, ap length c.labels_at.ensures.value, ap length c.neighbours_at.ensures.value)
