use Rattle.std.proofs.Common.{◌≡◌, ◌≤◌, ◌++◌, List, length, drop}
use Rattle.mesh_names.specs.Triangles.{size}
use Rattle.compat_check.specs.Meshes.{shape_of}
use Rattle.restart_file.specs.Trees.{Tree, lines, members_from}
use Rattle.restart_file.specs.Files.{file_of}
use Rattle.restart_file.proofs.writing.put_restart.Given as goal

abbrev pub invariant-loop-root : goal.invariant-loop-root
invariant-loop-root l = record {
  within : l.next ≤ length l.members;
  left : (trees : List Tree) → length trees ≡ size (shape_of l.mesh) → l.members ≡ members_from 0 trees → drop l.next l.members ≡ members_from l.root (drop l.root trees);
  written : (trees : List Tree) → length trees ≡ size (shape_of l.mesh) → l.members ≡ members_from 0 trees → l.to.items ++ lines (drop l.root trees) ≡ file_of l.macro_bytes trees;
}
