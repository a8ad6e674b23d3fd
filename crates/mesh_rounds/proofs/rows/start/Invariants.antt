use Rattle.std.proofs.Common.{◌≤◌, length}
use Rattle.mesh_rounds.specs.Taking.{IsStart}
use Rattle.mesh_rounds.proofs.rows.start.Given as goal

abbrev pub invariant-loop-at : goal.invariant-loop-at
invariant-loop-at l = record {
  start : IsStart l.what l.rows l.start;
  within : l.start ≤ length l.rows;
}
