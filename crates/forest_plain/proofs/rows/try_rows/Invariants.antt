use Rattle.std.proofs.Common.{◌≡◌, take}
use Rattle.std.specs.Prelude.{All}
use Rattle.compat_check.specs.Meshes.{shape_of}
use Rattle.forest_plain.specs.Rounds.{IsFine}
use Rattle.forest_plain.proofs.rows.try_rows.Given as goal

abbrev pub invariant-loop-row : goal.invariant-loop-row
invariant-loop-row g l = record {
  fine : All (IsFine (shape_of l.mesh) (g.S.Asked.names l.fn.members)) (take l.row-index l.rows);
  same : g.S.Asked.names l.members ≡ g.S.Asked.names l.fn.members;
}
