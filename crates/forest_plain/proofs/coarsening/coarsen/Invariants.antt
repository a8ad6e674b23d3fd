use Rattle.std.specs.Prelude.{◌≡◌}
use Rattle.compat_check.specs.Meshes.{across_in, shape_of}
use Rattle.mesh_names.specs.Coarsening.{MarkedForest}
use Rattle.forest_plain.specs.LeafMarks.{marked_so}
use Rattle.forest_plain.specs.Coarsening.{IsReached, IsUnderway}
use Rattle.forest_plain.specs.Tried.{turns_left}
use Rattle.forest_plain.proofs.coarsening.coarsen.Given as goal

abbrev pub invariant-loop-name : goal.invariant-loop-name
invariant-loop-name g l = record {
  underway : IsUnderway (shape_of l.mesh) (across_in l.mesh) (marked_so (g.S.Shrinking.left l.members) l.marks) l.marks.parents.items;
  reached : (first : MarkedForest) → IsReached (across_in l.mesh) first (marked_so (g.S.Shrinking.left l.fn.members) l.fn.marks) → IsReached (across_in l.mesh) first (marked_so (g.S.Shrinking.left l.members) l.marks);
  whole : g.S.Shrinking.whole l.members ≡ g.S.Shrinking.whole l.fn.members;
}

abbrev pub decreases-loop-name : goal.decreases-loop-name
decreases-loop-name g l = turns_left (marked_so (g.S.Shrinking.left l.members) l.marks) l.marks.parents.items
