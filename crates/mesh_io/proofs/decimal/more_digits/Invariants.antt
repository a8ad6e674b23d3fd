use Rattle.std.proofs.Common.{◌≡◌, ℕ, ◌+◌, ◌≤◌, length}
use Rattle.mesh_io.specs.Decimals.{digits_at, after_digits, number}
use Rattle.mesh_io.specs.Heads.{Heads}
use Rattle.mesh_io.proofs.decimal.more_digits.Given as goal

abbrev pub invariant-loop-rest : goal.invariant-loop-rest
invariant-loop-rest l = record {
  heads : (m : ℕ) → Heads m l.fn.start.kept l.fn.start.dropped → (n : ℕ) × Heads n l.head.kept l.head.dropped × (number n (digits_at l.rest) ≡ number m (digits_at l.bytes));
  rest : after_digits l.rest ≡ after_digits l.bytes;
  room : l.head.dropped + length l.rest ≤ l.fn.start.dropped + length l.bytes;
}

abbrev pub decreases-loop-rest : goal.decreases-loop-rest
decreases-loop-rest l = length l.rest
