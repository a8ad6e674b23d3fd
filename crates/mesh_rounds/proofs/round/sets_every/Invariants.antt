use Rattle.std.proofs.Common.{All, take}
use Rattle.mesh_rounds.specs.State.{SetsEvery}
use Rattle.mesh_rounds.proofs.round.sets_every.Given as goal

abbrev pub invariant-loop-row : goal.invariant-loop-row
invariant-loop-row l = All (λ row. SetsEvery row → ⊥) (take l.row-index l.rows)
