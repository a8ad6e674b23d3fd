-- Valid and graded macro meshes, and what lies across their edges.
use Rattle.std.specs.Prelude.{◌≡◌, ◌<◌, ◌≤◌, ◌+◌, ℕ, zero, suc, Bool, true, false, cond, eqb, ◌&&◌, List, [], ◌∷◌, Option, Some, None, ◌⊎◌, length}
use Rattle.mesh_names.specs.Triangles.{Triple, Shape, size, grade_of, triple_of, corner_of}
use Rattle.mesh_names.specs.Partners.{Edge, Edge0, Edge1, Edge2, Across, Tells}

-- the two vertex numbers of an edge, in the sense of the triple
abbrev pub ends_of : Triple → Edge → ℕ × ℕ
ends_of t Edge0 = (corner_of t 1, corner_of t 2)
ends_of t Edge1 = (corner_of t 2, corner_of t 0)
ends_of t Edge2 = (corner_of t 0, corner_of t 1)

-- the two pairs are one, as unordered pairs
abbrev pub IsSamePair : ℕ × ℕ → ℕ × ℕ → Type 0
IsSamePair p q = ((p.0 ≡ q.0) × (p.1 ≡ q.1)) ⊎ ((p.0 ≡ q.1) × (p.1 ≡ q.0))

-- edge e of element r is edge f of element s
abbrev pub Shares : Shape → ℕ → Edge → ℕ → Edge → Type 0
Shares mesh r e s f = IsSamePair (ends_of (triple_of mesh r) e) (ends_of (triple_of mesh s) f)

-- v is one of the triple's vertices
abbrev pub HasCorner : Triple → ℕ → Type 0
HasCorner t v = (v ≡ corner_of t 0) ⊎ (v ≡ corner_of t 1) ⊎ (v ≡ corner_of t 2)

-- u has the three vertices of t
abbrev pub IsTwin : Triple → Triple → Type 0
IsTwin t u = HasCorner u (corner_of t 0) × HasCorner u (corner_of t 1) × HasCorner u (corner_of t 2)

-- no element has a vertex twice, no two have the same three vertices, and no edge is in three
pub record IsValid (mesh : Shape) : Type 0 where
  pub distinct : (r : ℕ) → r < size mesh → let t = triple_of mesh r in (corner_of t 0 ≡ corner_of t 1 → ⊥) × (corner_of t 1 ≡ corner_of t 2 → ⊥) × (corner_of t 0 ≡ corner_of t 2 → ⊥)
  pub no_twins : (r s : ℕ) → r < size mesh → s < size mesh → (r ≡ s → ⊥) → IsTwin (triple_of mesh r) (triple_of mesh s) → ⊥
  pub no_third : (r s q : ℕ) (e f g : Edge) → r < size mesh → s < size mesh → q < size mesh → (r ≡ s → ⊥) → (r ≡ q → ⊥) → Shares mesh r e s f → Shares mesh r e q g → s ≡ q

-- whether this is the refinement edge
abbrev pub is_refined : Edge → Bool
is_refined Edge0 = false
is_refined Edge1 = false
is_refined Edge2 = true

-- two elements that share an edge have equal grades where it is the refinement edge of both or of neither; where it is that of one side only, this side's grade is one more
pub record IsGraded (mesh : Shape) : Type 0 where
  pub equal : (r s : ℕ) (e f : Edge) → r < size mesh → s < size mesh → (r ≡ s → ⊥) → Shares mesh r e s f → is_refined e ≡ is_refined f → grade_of mesh r ≡ grade_of mesh s
  pub more : (r s : ℕ) (e f : Edge) → r < size mesh → s < size mesh → (r ≡ s → ⊥) → Shares mesh r e s f → is_refined e ≡ true → is_refined f ≡ false → grade_of mesh r ≡ grade_of mesh s + 1

-- from element to element over shared edges
abbrev pub IsWalk : Shape → ℕ → List ℕ → ℕ → Type 0
IsWalk mesh r [] s = r ≡ s
IsWalk mesh r (q ∷ qs) s = (q < size mesh) × ((e : Edge) × (f : Edge) × Shares mesh r e q f) × IsWalk mesh q qs s

-- the mesh is compatible with its grades, of which the least in each part that hangs together is 0 and none is above 24
pub record IsCompatible (mesh : Shape) : Type 0 where
  pub each : length mesh.grades ≡ size mesh
  pub graded : IsGraded mesh
  pub least : (r : ℕ) → r < size mesh → (qs : List ℕ) × (s : ℕ) × (s < size mesh) × IsWalk mesh r qs s × (grade_of mesh s ≡ 0)
  pub low : (r : ℕ) → r < size mesh → grade_of mesh r ≤ 24

-- whether two pairs are one, and whether it is the other way round there
abbrev pub match_pair : ℕ × ℕ → ℕ × ℕ → Option Bool
match_pair p q = cond (eqb p.0 q.0 && eqb p.1 q.1) (Some false) (cond (eqb p.0 q.1 && eqb p.1 q.0) (Some true) None)

-- the first of these that is there
abbrev pub first_edge : Option Bool → Option Bool → Option Bool → Option (Edge × Bool)
first_edge (Some t) b c = Some (Edge0, t)
first_edge None (Some t) c = Some (Edge1, t)
first_edge None None (Some t) = Some (Edge2, t)
first_edge None None None = None

-- which edge of the triple has these ends, and whether they are the other way round there
abbrev pub edge_in : ℕ × ℕ → Triple → Option (Edge × Bool)
edge_in p t = first_edge (match_pair p (ends_of t Edge0)) (match_pair p (ends_of t Edge1)) (match_pair p (ends_of t Edge2))

-- what was found in element s, or else the rest
abbrev pub found_in : ℕ → Option (Edge × Bool) → Option (ℕ × Edge × Bool) → Option (ℕ × Edge × Bool)
found_in s (Some a) rest = Some (s, a.0, a.1)
found_in s None rest = rest

-- the last element before the k-th, other than r, that has an edge of these ends
abbrev pub across_before : Shape → ℕ → ℕ × ℕ → ℕ → Option (ℕ × Edge × Bool)
across_before mesh r p zero = None
across_before mesh r p (suc k) = cond (eqb k r) (across_before mesh r p k) (found_in k (edge_in p (triple_of mesh k)) (across_before mesh r p k))

-- what lies across the edges of a mesh
abbrev pub across_of : Shape → Across
across_of mesh r e = across_before mesh r (ends_of (triple_of mesh r) e) (size mesh)

-- the law that a valid and graded mesh tells what its neighbours are
abbrev pub ValidTells : Type 0
ValidTells = (mesh : Shape) → IsValid mesh → IsGraded mesh → Tells mesh (across_of mesh)

-- the law that a mesh has at most one list of grades
abbrev pub GradesAreOne : Type 0
GradesAreOne = (triples : List Triple) (grades others : List ℕ) → IsCompatible (record { triples = triples; grades = grades }) → IsCompatible (record { triples = triples; grades = others }) → grades ≡ others
