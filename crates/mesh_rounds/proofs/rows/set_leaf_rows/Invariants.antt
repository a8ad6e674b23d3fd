use Rattle.std.proofs.Common.{take}
use Rattle.mesh_rounds.specs.Taking.{LeavesSet}
use Rattle.mesh_rounds.proofs.rows.set_leaf_rows.Given as goal

abbrev pub invariant-loop-row : goal.invariant-loop-row
invariant-loop-row l = LeavesSet l.leaves (take l.row-index l.rows) l.fn.elements l.elements
