-- The written vertices: those of the macro file, and then the others as they first appear in the leaves' triangles.
use Rattle.std.specs.Prelude.{ℕ, zero, suc, ◌+◌, Bool, false, cond, ◌||◌, List, [], ◌∷◌, ◌++◌}
use Rattle.mesh_names.specs.Names.{Name}
use Rattle.mesh_names.specs.Triangles.{Shape, Vertex, Corner, same, triangle}

-- the macro vertices, as in the file
abbrev pub macro_vertices : ℕ → List Vertex
macro_vertices zero = []
macro_vertices (suc k) = macro_vertices k ++ Corner k ∷ []

-- the corners of the leaves' triangles, leaf by leaf
abbrev pub corners_of : Shape → List Name → List Vertex
corners_of mesh [] = []
corners_of mesh (n ∷ ns) = let t = triangle mesh n in t.0 ∷ t.1 ∷ t.2 ∷ corners_of mesh ns

-- whether the vertex is one of these
abbrev pub is_among : Vertex → List Vertex → Bool
is_among v [] = false
is_among v (u ∷ us) = same v u || is_among v us

-- what was seen, and then each further vertex once, where it stands first
abbrev pub with_new : List Vertex → List Vertex → List Vertex
with_new seen [] = seen
with_new seen (v ∷ vs) = with_new (cond (is_among v seen) seen (seen ++ v ∷ [])) vs

-- the vertices of a mesh with this many macro vertices, in written order
abbrev pub vertices : Shape → ℕ → List Name → List Vertex
vertices mesh count leaves = with_new (macro_vertices count) (corners_of mesh leaves)

-- the number of a vertex: how many are written before it
abbrev pub number_of : Vertex → List Vertex → ℕ
number_of v [] = 0
number_of v (u ∷ us) = cond (same v u) 0 (number_of v us + 1)
