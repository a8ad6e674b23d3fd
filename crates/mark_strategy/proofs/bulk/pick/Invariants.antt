use Rattle.std.proofs.Common.{◌≡◌, ◌++◌, drop}
use Rattle.mark_strategy.specs.Leaves.{names_of}
use Rattle.mark_strategy.specs.Picks.{picked}
use Rattle.mark_strategy.proofs.bulk.pick.Given as goal

abbrev pub invariant-loop-name : goal.invariant-loop-name
invariant-loop-name l = l.names.items ++ names_of (picked l.cut.size l.ties (drop l.name-index l.values)) ≡ names_of (picked l.cut.size l.fn.cut.ties l.values)
