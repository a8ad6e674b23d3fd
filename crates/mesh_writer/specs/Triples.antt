-- The leaves by the numbers of their corners.
use Rattle.std.specs.Prelude.{ℕ, List, [], ◌∷◌}
use Rattle.mesh_names.specs.Names.{Name}
use Rattle.mesh_names.specs.Triangles.{Shape, Vertex, triangle}
use Rattle.mesh_writer.specs.Numbering.{number_of}

-- the numbers of a leaf's corners
abbrev pub numbers : Shape → List Vertex → Name → List ℕ
numbers mesh written n = let t = triangle mesh n in number_of t.0 written ∷ number_of t.1 written ∷ number_of t.2 written ∷ []
