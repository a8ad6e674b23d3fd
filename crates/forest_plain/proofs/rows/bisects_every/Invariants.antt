use Rattle.std.proofs.Common.{take}
use Rattle.std.specs.Prelude.{All}
use Rattle.forest_plain.specs.Rounds.{BisectsEvery}
use Rattle.forest_plain.proofs.rows.bisects_every.Given as goal

abbrev pub invariant-loop-row : goal.invariant-loop-row
invariant-loop-row l = All (λ row. BisectsEvery row → ⊥) (take l.row-index l.rows)
