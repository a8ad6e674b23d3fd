use Rattle.std.proofs.Common.{◌≡◌, map, take}
use Rattle.dof_transfer.specs.Held.{worth_of}
use Rattle.mesh_rounds.specs.Adaptive.{state_of}
use Rattle.adapt_cli.proofs.marking.with_their_values.Given as goal

abbrev pub invariant-loop-at : goal.invariant-loop-at
invariant-loop-at l = l.pairs.items ≡ map (λ n. (n, worth_of (state_of l.mesh).elements n)) (take l.at l.leaves)
