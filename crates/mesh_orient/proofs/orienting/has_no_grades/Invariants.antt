use Rattle.std.proofs.Common.{◌≡◌, ℕ, ◌<◌}
use Rattle.mesh_names.specs.Triangles.{grade_of}
use Rattle.compat_check.specs.Meshes.{shape_of}
use Rattle.mesh_orient.proofs.orienting.has_no_grades.Given as goal

abbrev pub invariant-loop-element : goal.invariant-loop-element
invariant-loop-element l = (q : ℕ) → q < l.element → grade_of (shape_of l.mesh) q ≡ 0
