use Rattle.std.proofs.Common.{ℕ}
use Rattle.std.specs.Prelude.{ℤ}
use Rattle.compat_check.specs.Parts.{Leads, size}
use Rattle.compat_check.specs.Grading.{AreLows}
use Rattle.compat_check.proofs.grading.lowest.Given as goal

abbrev pub invariant-loop-element : goal.invariant-loop-element
invariant-loop-element l = (head : ℕ → ℕ) (height : ℕ → ℤ) → Leads (size l.parts) l.parts head height → AreLows (size l.parts) l.element head height l.lows.items
