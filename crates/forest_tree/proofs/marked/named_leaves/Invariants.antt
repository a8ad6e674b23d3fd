use Rattle.std.proofs.Common.{◌≡◌, take}
use Rattle.forest_tree.specs.Marked.{marked_names}
use Rattle.forest_tree.proofs.marked.named_leaves.Given as goal

abbrev pub invariant-loop-row : goal.invariant-loop-row
invariant-loop-row l = l.found.items ≡ marked_names (take l.row-index l.rows)
