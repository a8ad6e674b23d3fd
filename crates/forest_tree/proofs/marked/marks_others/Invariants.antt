use Rattle.std.proofs.Common.{take}
use Rattle.forest_tree.proofs.RowNames.{OthersMarked}
use Rattle.forest_tree.proofs.marked.marks_others.Given as goal

abbrev pub invariant-loop-row : goal.invariant-loop-row
invariant-loop-row l = OthersMarked (take l.row-index l.rows) l.marked
