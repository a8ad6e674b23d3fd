use Rattle.std.proofs.Common.{◌≡◌, map}
use Rattle.std.specs.List.{range_with_len}
use Rattle.table_passes.specs.Shares.{every}
use Rattle.table_passes.proofs.shares.shares.Given as goal

abbrev pub invariant-loop-first : goal.invariant-loop-first
invariant-loop-first l = map (λ w. w.items) l.shares.items ≡ map (λ first. every l.workers first l.names) (range_with_len 0 l.first)
