use Rattle.compat_check.specs.Parts.{AreSettled}
use Rattle.compat_check.specs.Grading.{rules_before}
use Rattle.compat_check.proofs.grading.ask_all.Given as goal

abbrev pub invariant-loop-place : goal.invariant-loop-place
invariant-loop-place l = AreSettled l.count (rules_before l.sides l.place) l.parts
