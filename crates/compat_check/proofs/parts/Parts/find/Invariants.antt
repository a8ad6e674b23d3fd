use Rattle.std.proofs.Common.{◌≡◌, ℕ, ◌-◌, ◌<◌, length}
use Rattle.std.specs.Prelude.{ℤ, ◌+ℤ◌}
use Rattle.compat_check.specs.Parts.{Leads, rank_of}
use Rattle.compat_check.proofs.parts.Parts.find.Given as goal

abbrev pub invariant-loop-at : goal.invariant-loop-at
invariant-loop-at l = record {
  within : l.at < length l.self.parents.items;
  tells : (head : ℕ → ℕ) (height : ℕ → ℤ) → Leads (length l.self.parents.items) l.self head height → (head l.at ≡ head l.element) × (height l.element ≡ l.height +ℤ height l.at);
}

abbrev pub decreases-loop-at : goal.decreases-loop-at
decreases-loop-at l = length l.self.parents.items - rank_of l.self l.at
