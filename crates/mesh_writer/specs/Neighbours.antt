-- The neighbours of a leaf: the other leaves that have the two vertices of one of its edges.
use Rattle.std.specs.Prelude.{ℕ, ℤ, pos, negsuc, Bool, not, ◌&&◌, ◌||◌, List, [], ◌∷◌, Option, Some, None}
use Rattle.std.specs.List.{position_from}
use Rattle.mesh_names.specs.Names.{Name, name_eq}
use Rattle.mesh_names.specs.Triangles.{Shape, Triangle, Vertex, same, triangle}

-- whether the vertex is a corner of the triangle
abbrev pub has_corner : Triangle → Vertex → Bool
has_corner t v = same v t.0 || same v t.1 || same v t.2

-- whether m is another leaf than n, and has both vertices
abbrev pub is_across : Shape → Name → Vertex → Vertex → Name → Bool
is_across mesh n a b m = not (name_eq m n) && has_corner (triangle mesh m) a && has_corner (triangle mesh m) b

-- a leaf's number, or -1
abbrev pub number_or_none : Option ℕ → ℤ
number_or_none None = negsuc 0
number_or_none (Some k) = pos k

-- the number of the leaf across the edge between two vertices of n; in a conforming forest no more than one other leaf has both
abbrev pub neighbour : Shape → List Name → Name → Vertex → Vertex → ℤ
neighbour mesh leaves n a b = number_or_none (position_from (is_across mesh n a b) 0 leaves)

-- the neighbours across edges 0, 1 and 2
abbrev pub neighbours : Shape → List Name → Name → List ℤ
neighbours mesh leaves n = let t = triangle mesh n in neighbour mesh leaves n t.1 t.2 ∷ neighbour mesh leaves n t.2 t.0 ∷ neighbour mesh leaves n t.0 t.1 ∷ []
