use Rattle.std.proofs.Common.{◌≡◌, ◌≤◌, ◌*◌, sum, take}
use Rattle.mark_strategy.proofs.bulk.sum_of.Given as goal

abbrev pub invariant-loop-size : goal.invariant-loop-size
invariant-loop-size l = record { so_far : l.sum ≡ sum (take l.size-index l.sizes); small : l.sum ≤ l.size-index * 18446744073709551615 }
