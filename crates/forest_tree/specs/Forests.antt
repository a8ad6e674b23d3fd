-- A forest in a tree, as contracts see it.
use Rattle.std.specs.Prelude.{ℕ, false, None}
use Rattle.mesh_names.specs.Forests.{Names}
use Rattle.mesh_names.specs.Triangles.{Shape}
use Rattle.mesh_names.specs.Partners.{Across}
use Rattle.compat_check.specs.Meshes.{shape_of, across_in}
use Rattle.forest_plain.specs.AnyForest.{Seen}
use Rattle.forest_tree.specs.declared.forest.TreeForest.{TreeForest}

-- the bisected elements
abbrev pub members_of : TreeForest → Names
members_of forest = forest.members

-- how many patches it may hold
abbrev pub pool_of : TreeForest → ℕ
pool_of forest = forest.pool

-- the triples and grades of the macro mesh
abbrev pub mesh_of : TreeForest → Shape
mesh_of forest = shape_of forest.mesh.now

-- what lies across its edges
abbrev pub sides_of : TreeForest → Across
sides_of forest = across_in forest.mesh.now

-- the same, as of any forest: its rounds are not limited, and none is open between calls
abbrev pub seen_of : TreeForest → Seen
seen_of forest = record { members = members_of forest; pool = pool_of forest; left = None; made_for = 0; is_open = false; mesh = mesh_of forest; sides = sides_of forest }
