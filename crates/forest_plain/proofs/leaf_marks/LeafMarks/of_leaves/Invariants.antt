use Rattle.std.proofs.Common.{◌≡◌, ◌<◌, Bool, ◌&&◌, not, cond, take}
use Rattle.std.specs.FinSet.{contains, from_list}
use Rattle.mesh_names.specs.Names.{Name, name_cmp}
use Rattle.mesh_names.specs.Forests.{Has}
use Rattle.mesh_names.specs.Coarsening.{allowance, child_at}
use Rattle.forest_plain.specs.LeafMarks.{leaf_mark}
use Rattle.forest_plain.specs.MarkMaps.{mark_in}
use Rattle.forest_plain.proofs.leaf_marks.LeafMarks.of_leaves.Given as goal

abbrev pub invariant-loop-leaf : goal.invariant-loop-leaf
invariant-loop-leaf l = record {
  marks : (n : Name) → allowance (leaf_mark l.found n) ≡ cond (contains {R = name_cmp} (from_list (take l.leaf-index l.leaves)) n && not (contains l.refined n)) (allowance (mark_in l.marks n)) 0;
  parents : (n : Name) (side : Bool) → 0 < allowance (leaf_mark l.found (child_at n side)) → Has (from_list l.found.parents.items) n;
}
