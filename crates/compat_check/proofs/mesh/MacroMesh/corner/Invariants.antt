use Rattle.std.proofs.Common.{◌≡◌, ◌≤◌, ◌<◌, length}
use Rattle.mesh_names.specs.Triangles.{triangle}
use Rattle.compat_check.specs.Climbing.{vertex_at}
use Rattle.compat_check.specs.Meshes.{shape_of}
use Rattle.compat_check.proofs.mesh.MacroMesh.corner.Given as goal

abbrev pub invariant-loop-parent : goal.invariant-loop-parent
invariant-loop-parent l = record {
  root : l.at.0 ≡ l.fn.name.0;
  above : length l.at.1 ≤ length l.fn.name.1;
  small : l.place < 3;
  same : vertex_at (triangle (shape_of l.self) l.at) l.place ≡ vertex_at (triangle (shape_of l.self) l.fn.name) l.corner;
}

abbrev pub decreases-loop-parent : goal.decreases-loop-parent
decreases-loop-parent l = length l.at.1
