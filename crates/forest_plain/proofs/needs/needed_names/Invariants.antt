use Rattle.std.proofs.Common.{◌≡◌, take}
use Rattle.forest_plain.specs.MarkMaps.{mark_in}
use Rattle.forest_plain.specs.Needed.{names_of, work_by}
use Rattle.forest_plain.proofs.needs.needed_names.Given as goal

abbrev pub invariant-loop-leaf : goal.invariant-loop-leaf
invariant-loop-leaf l = l.needed.items ≡ names_of (work_by (mark_in l.marks) (take l.leaf-index l.leaves))
