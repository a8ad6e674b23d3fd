use Rattle.std.proofs.Common.{◌≡◌, ℕ, ◌<◌, ◌≤◌}
use Rattle.mesh_names.specs.Leaves.{children, tops}
use Rattle.mesh_names.specs.Triangles.{grade_of}
use Rattle.compat_check.specs.Meshes.{shape_of}
use Rattle.locate_point.proofs.place_tests.halves.Given as goal

abbrev pub invariant-loop-root : goal.invariant-loop-root
invariant-loop-root l = (l.names.items ≡ children (tops l.root)) × ((r : ℕ) → r < l.root → grade_of (shape_of l.mesh) r ≤ 23)
