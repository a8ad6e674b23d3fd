-- Two small meshes that are valid and compatible: a square of two triangles that share their refinement edges, and the same with element 1 turned.
use Rattle.std.specs.Prelude.{◌≡◌, true, false, [], ◌∷◌, Some}
use Rattle.mesh_names.specs.Triangles.{Shape}
use Rattle.mesh_names.specs.Partners.{Tells, partner}
use Rattle.mesh_names.specs.Validity.{IsValid, IsCompatible, across_of}

-- elements (2, 0, 1) and (0, 2, 3): the shared edge is the refinement edge of both
abbrev pub square : Shape
square = record { triples = (2 ∷ 0 ∷ 1 ∷ []) ∷ (0 ∷ 2 ∷ 3 ∷ []) ∷ []; grades = 0 ∷ 0 ∷ [] }

-- elements (2, 0, 1) and (2, 3, 0): the shared edge is the refinement edge of element 0 alone
abbrev pub turned_square : Shape
turned_square = record { triples = (2 ∷ 0 ∷ 1 ∷ []) ∷ (2 ∷ 3 ∷ 0 ∷ []) ∷ []; grades = 1 ∷ 0 ∷ [] }

-- the mesh is valid and compatible, and its neighbours are what `across_of` tells
abbrev pub Fits : Shape → Type 0
Fits mesh = IsValid mesh × IsCompatible mesh × Tells mesh (across_of mesh)

-- the law that both fit, and what lies across element 0's refinement edge
abbrev pub SquaresFit : Type 0
SquaresFit = Fits square × Fits turned_square × (partner (across_of square) 0 [] ≡ Some ((1, []), true)) × (partner (across_of turned_square) 0 [] ≡ Some ((1, false ∷ []), true)) × (partner (across_of turned_square) 1 (false ∷ []) ≡ Some ((0, []), true))
