use Rattle.std.proofs.Common.{take}
use Rattle.mesh_rounds.specs.Taking.{VerticesSet}
use Rattle.mesh_rounds.proofs.rows.set_vertex_rows.Given as goal

abbrev pub invariant-loop-row : goal.invariant-loop-row
invariant-loop-row l = VerticesSet l.mesh l.leaves (take l.row-index l.rows) l.fn.vertices l.vertices
