use Rattle.std.proofs.Common.{◌≡◌, ◌≤◌, ◌<◌, ◌*◌, ℕ, sum, take}
use Rattle.mark_strategy.proofs.bulk.enough.Given as goal

abbrev pub invariant-loop-count : goal.invariant-loop-count
invariant-loop-count l = record {
  so_far : l.sum ≡ sum (take l.count l.sizes);
  small : l.sum ≤ l.count * 18446744073709551615;
  short : (k : ℕ) → k < l.count → sum (take k l.sizes) < l.least;
}
