use Rattle.std.proofs.Common.{◌≡◌, map, take}
use Rattle.macro_file.specs.Text.{vertex_of}
use Rattle.mesh_orient.proofs.turning.vertices.Given as goal

abbrev pub invariant-loop-vertex : goal.invariant-loop-vertex
invariant-loop-vertex l = map vertex_of l.copies.items ≡ map vertex_of (take l.vertex-index l.vertices)
