-- Worked rounds on two small squares: what their rows ask for, the least forest with it, and its leaves with their triangles.
use Rattle.std.specs.Prelude.{◌≡◌, ℕ, eqb, List, [], ◌∷◌, map, reverse, ℤ, pos, negsuc}
use Rattle.std.specs.FinSet.{from_list}
use Rattle.mesh_names.specs.Names.{Name}
use Rattle.mesh_names.specs.Triangles.{Shape, Vertex, Corner, Mid, Triangle, triangle}
use Rattle.mesh_names.specs.Forests.{IsListOf}
use Rattle.mesh_names.specs.Leaves.{leaves}
use Rattle.mesh_names.specs.LeastForest.{IsLeast}
use Rattle.mesh_names.specs.Marks.{AreNeeds}
use Rattle.mesh_names.specs.Coarsening.{IsCoarsened, marked_by}
use Rattle.mesh_names.specs.Validity.{across_of}
use Rattle.mesh_names.specs.Squares.{square, turned_square}
use Rattle.mesh_names.specs.declared.rows.MarkRow.{MarkRow}
use Rattle.mesh_names.specs.declared.rows.What.TheVariants.{Mark}
use Rattle.mesh_names.specs.declared.rows.Place.TheVariants.{EveryLeaf, Elem}

-- the name of a macro element's index and its letters, the first letter first
abbrev pub element : ℕ → List ℕ → Name
element root sides = (root, reverse (map (λ side. eqb side 1) sides))

-- a row that gives one element this number
abbrev pub gives_one : Name → ℤ → MarkRow
gives_one n z = record { row = 2; what = Mark; place = Elem n; number = z }

-- a row that gives every leaf this number
abbrev pub gives_all : ℤ → MarkRow
gives_all z = record { row = 2; what = Mark; place = EveryLeaf; number = z }

-- a row that marks one element this often
abbrev pub marks_one : Name → ℕ → MarkRow
marks_one n k = gives_one n (pos k)

-- a row that marks every leaf this often
abbrev pub marks_all : ℕ → MarkRow
marks_all k = gives_all (pos k)

-- on the forest of the old members the rows need these names, and the least forest with them has the new members
pub record Refines (mesh : Shape) (old : List Name) (rows : List MarkRow) (needed new : List Name) : Type 0 where
  pub are_needs : AreNeeds mesh (from_list old) rows (from_list needed)
  pub least : IsLeast mesh (from_list old) (from_list needed) (from_list new)

-- the forest of these members has these leaves in order, with these triangles
pub record HasLeaves (mesh : Shape) (members list : List Name) (triangles : List Triangle) : Type 0 where
  pub are_leaves : IsListOf (leaves mesh (from_list members)) list
  pub shown : map (triangle mesh) list ≡ triangles

-- the middle of the square, where its two elements are bisected
abbrev pub centre : Vertex
centre = Mid (Corner 0) (Corner 2)

-- both elements of the square
abbrev pub both : List Name
both = element 0 [] ∷ element 1 [] ∷ []

-- the law of one mark on the square: the unmarked partner is bisected too
abbrev pub SquareRefined : Type 0
SquareRefined =
    Refines square [] (marks_one (element 0 []) 1 ∷ []) (element 0 [] ∷ []) both
    × HasLeaves square both (element 0 (0 ∷ []) ∷ element 0 (1 ∷ []) ∷ element 1 (0 ∷ []) ∷ element 1 (1 ∷ []) ∷ [])
    ((Corner 1, Corner 2, centre) ∷ (Corner 0, Corner 1, centre) ∷ (Corner 3, Corner 0, centre) ∷ (Corner 2, Corner 3, centre) ∷ [])

-- the members where element 0 of the square was bisected twice
abbrev pub twice : List Name
twice = element 0 [] ∷ element 1 [] ∷ element 0 (0 ∷ []) ∷ element 0 (1 ∷ []) ∷ []

-- the law of three rows on the square, of which the last that names element 0 marks it by 2: its children are bisected too, at the boundary
abbrev pub SquareMarkedTwice : Type 0
SquareMarkedTwice =
    Refines square [] (marks_one (element 0 []) 1 ∷ marks_all 0 ∷ marks_one (element 0 []) 2 ∷ []) (element 0 [] ∷ element 0 (0 ∷ []) ∷ element 0 (1 ∷ []) ∷ []) twice
    × HasLeaves square twice (element 0 (0 ∷ 0 ∷ []) ∷ element 0 (0 ∷ 1 ∷ []) ∷ element 0 (1 ∷ 0 ∷ []) ∷ element 0 (1 ∷ 1 ∷ []) ∷ element 1 (0 ∷ []) ∷ element 1 (1 ∷ []) ∷ [])
    ((centre, Corner 1, Mid (Corner 1) (Corner 2)) ∷ (Corner 2, centre, Mid (Corner 1) (Corner 2))
    ∷ (centre, Corner 0, Mid (Corner 0) (Corner 1)) ∷ (Corner 1, centre, Mid (Corner 0) (Corner 1))
    ∷ (Corner 3, Corner 0, centre) ∷ (Corner 2, Corner 3, centre) ∷ [])

-- the members after a second round on the square, which marks 0.0 by 2: what is needed, and then in turn the partner and the parent of each
abbrev pub second : List Name
second = element 0 [] ∷ element 1 [] ∷ element 0 (0 ∷ []) ∷ element 0 (0 ∷ 0 ∷ []) ∷ element 0 (0 ∷ 1 ∷ []) ∷ element 0 (1 ∷ 1 ∷ []) ∷ element 0 (1 ∷ []) ∷ element 1 (1 ∷ 0 ∷ []) ∷ element 1 (1 ∷ []) ∷ []

-- its eleven leaves
abbrev pub leaves_of_second : List Name
leaves_of_second =
    element 0 (0 ∷ 0 ∷ 0 ∷ []) ∷ element 0 (0 ∷ 0 ∷ 1 ∷ []) ∷ element 0 (0 ∷ 1 ∷ 0 ∷ []) ∷ element 0 (0 ∷ 1 ∷ 1 ∷ []) ∷ element 0 (1 ∷ 0 ∷ []) ∷ element 0 (1 ∷ 1 ∷ 0 ∷ []) ∷ element 0 (1 ∷ 1 ∷ 1 ∷ [])
    ∷ element 1 (0 ∷ []) ∷ element 1 (1 ∷ 0 ∷ 0 ∷ []) ∷ element 1 (1 ∷ 0 ∷ 1 ∷ []) ∷ element 1 (1 ∷ 1 ∷ []) ∷ []

-- the law of that second round: closure reaches over to element 1
abbrev pub SquareSecondRound : Type 0
SquareSecondRound =
    Refines square both (marks_one (element 0 (0 ∷ [])) 2 ∷ []) (element 0 (0 ∷ []) ∷ element 0 (0 ∷ 0 ∷ []) ∷ element 0 (0 ∷ 1 ∷ []) ∷ []) second
    × IsListOf (leaves square (from_list second)) leaves_of_second

-- the members where element 0 of the turned square was bisected: its partner is a child of element 1
abbrev pub over_child : List Name
over_child = element 0 [] ∷ element 1 (0 ∷ []) ∷ element 1 [] ∷ []

-- the law of one mark on the turned square: element 1 and its child at the shared edge are bisected too
abbrev pub TurnedSquareRefined : Type 0
TurnedSquareRefined =
    Refines turned_square [] (marks_one (element 0 []) 1 ∷ []) (element 0 [] ∷ []) over_child
    × HasLeaves turned_square over_child (element 0 (0 ∷ []) ∷ element 0 (1 ∷ []) ∷ element 1 (0 ∷ 0 ∷ []) ∷ element 1 (0 ∷ 1 ∷ []) ∷ element 1 (1 ∷ []) ∷ [])
    ((Corner 1, Corner 2, centre) ∷ (Corner 0, Corner 1, centre)
    ∷ (Mid (Corner 2) (Corner 3), Corner 0, centre) ∷ (Corner 2, Mid (Corner 2) (Corner 3), centre) ∷ (Corner 3, Corner 0, Mid (Corner 2) (Corner 3)) ∷ [])

-- the rows of a round that bisects nothing coarsen the forest of these members to that of the fewer
abbrev pub Coarsens : Shape → List Name → List MarkRow → List Name → Type 0
Coarsens mesh members rows fewer = IsCoarsened (across_of mesh) (marked_by mesh (from_list members) rows (from_list members)) (from_list fewer)

-- the members where both elements of the square and all their children are bisected
abbrev pub four : List Name
four = element 0 [] ∷ element 0 (0 ∷ []) ∷ element 0 (1 ∷ []) ∷ element 1 [] ∷ element 1 (0 ∷ []) ∷ element 1 (1 ∷ []) ∷ []

-- the law of four rounds on the square that coarsen: all leaves by -1; the same with `1.1` by 0; the eight leaves by -2; the same with `0.00` by -1
abbrev pub SquareCoarsened : Type 0
SquareCoarsened =
    Coarsens square both (gives_all (negsuc 0) ∷ []) []
    × Coarsens square both (gives_all (negsuc 0) ∷ gives_one (element 1 (1 ∷ [])) (pos 0) ∷ []) both
    × Coarsens square four (gives_all (negsuc 1) ∷ []) []
    × Coarsens square four (gives_all (negsuc 1) ∷ gives_one (element 0 (0 ∷ 0 ∷ [])) (negsuc 0) ∷ []) both
