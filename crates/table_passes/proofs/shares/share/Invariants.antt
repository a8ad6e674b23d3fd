use Rattle.std.proofs.Common.{◌≡◌, ◌++◌, drop}
use Rattle.table_passes.specs.Shares.{every}
use Rattle.table_passes.proofs.shares.share.Given as goal

abbrev pub invariant-loop-name : goal.invariant-loop-name
invariant-loop-name l = l.share.items ++ every l.workers l.left (drop l.name-index l.names) ≡ every l.workers l.fn.first l.names
