-- What the marks of leaves that are kept for coarsening say.
use Rattle.std.specs.Prelude.{ℤ, pos, ◌&&◌, cond, false, true, Option, Some, None, unwrap_or}
use Rattle.std.specs.Int.{is_negative}
use Rattle.std.specs.BTreeMap.{get}
use Rattle.mesh_names.specs.Names.{Name, name_cmp}
use Rattle.mesh_names.specs.Forests.{Names}
use Rattle.mesh_names.specs.Coarsening.{MarkedForest, child_at, joined_mark}
use Rattle.forest_plain.specs.declared.leaf_marks.LeafMarks.{LeafMarks}

-- the mark that is kept of a leaf, and 0 where none is
abbrev pub leaf_mark : LeafMarks → Name → ℤ
leaf_mark marks n = unwrap_or (get name_cmp marks.marks n) (pos 0)

-- the members, with the marks that are kept
abbrev pub marked_so : Names → LeafMarks → MarkedForest
marked_so members marks = record { forest = members; marks = leaf_mark marks }

-- the joined mark of both children, where both have marks below 0
abbrev pub joined_in : (Name → ℤ) → Name → Option ℤ
joined_in mark n = cond (is_negative (mark (child_at n false)) && is_negative (mark (child_at n true))) (Some (joined_mark (mark (child_at n false)) (mark (child_at n true)))) None
