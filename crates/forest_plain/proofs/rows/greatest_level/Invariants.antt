use Rattle.std.proofs.Common.{◌≡◌, ◌<◌, ◌≤◌, ℕ, [], take, length, slice_index_or}
use Rattle.std.specs.Prelude.{All}
use Rattle.mesh_names.specs.Triangles.{level}
use Rattle.compat_check.specs.Meshes.{shape_of}
use Rattle.forest_plain.proofs.rows.greatest_level.Given as goal

abbrev pub invariant-loop-leaf : goal.invariant-loop-leaf
invariant-loop-leaf l = (place : ℕ) × (place < length l.leaves) × (level (shape_of l.mesh) (slice_index_or l.leaves place (0, [])) ≡ l.greatest) × All (λ n. level (shape_of l.mesh) n ≤ l.greatest) (take l.leaf-index l.leaves)
