-- The partner of a name, by a recursion on its letters, over what lies across the edges of the macro mesh.
use Rattle.std.specs.Prelude.{◌≡◌, ◌<◌, ℕ, Bool, true, false, cond, not, List, [], ◌∷◌, Option, Some, None, ◌⊎◌}
use Rattle.mesh_names.specs.Names.{Name}
use Rattle.mesh_names.specs.Triangles.{Vertex, Triangle, Shape, size, level, triangle, top_of, midpoint}

-- the edges of a triangle, each opposite the local vertex of its number; edge 2 is the refinement edge
pub data Edge : Type 0 where
  Edge0 : Edge
  Edge1 : Edge
  Edge2 : Edge

-- an edge, as its two ends in the sense of the triangle
abbrev pub edge_at : Edge → Triangle → Vertex × Vertex
edge_at Edge0 t = (t.1, t.2)
edge_at Edge1 t = (t.2, t.0)
edge_at Edge2 t = (t.0, t.1)

-- the word of the name, at or below a macro element, whose refinement edge this edge of the element is
abbrev pub edge_word : Edge → List Bool
edge_word Edge0 = true ∷ []
edge_word Edge1 = false ∷ []
edge_word Edge2 = []

-- the edge of a macro element that is the refinement edge of its child on this side
abbrev pub side_edge : Bool → Edge
side_edge true = Edge0
side_edge false = Edge1

-- an edge, the other way round where told so
abbrev pub turned_by : Bool → Vertex × Vertex → Vertex × Vertex
turned_by t p = (cond t p.1 p.0, cond t p.0 p.1)

-- for each macro element and each of its edges: the other element there, which of its edges it is, and whether it runs the other way there
abbrev pub Across : Type 0
Across = ℕ → Edge → Option (ℕ × Edge × Bool)

-- a name for an edge of a macro element
abbrev pub top_partner : Option (ℕ × Edge × Bool) → Option (Name × Bool)
top_partner None = None
top_partner (Some a) = Some ((a.0, edge_word a.1), a.2)

-- across a half of the refinement edge of a name with this partner: `c` is the last letter
abbrev pub half_partner : Bool → Option (Name × Bool) → Option (Name × Bool)
half_partner c None = None
half_partner c (Some m) = Some ((m.0.0, (cond m.1 (not c) c) ∷ (cond m.1 c (not c)) ∷ m.0.1), m.1)

-- the name across the refinement edge, and whether the edge runs the other way there; letters last first
abbrev pub partner : Across → ℕ → List Bool → Option (Name × Bool)
partner x r [] = top_partner (x r Edge2)
partner x r (c ∷ []) = top_partner (x r (side_edge c))
partner x r (false ∷ false ∷ w) = Some ((r, true ∷ true ∷ w), true)
partner x r (true ∷ true ∷ w) = Some ((r, false ∷ false ∷ w), true)
partner x r (true ∷ false ∷ w) = half_partner true (partner x r w)
partner x r (false ∷ true ∷ w) = half_partner false (partner x r w)

-- no two corners are equal
abbrev pub Distinct : Triangle → Type 0
Distinct t = (t.0 ≡ t.1 → ⊥) × (t.1 ≡ t.2 → ⊥) × (t.0 ≡ t.2 → ⊥)

-- the middle of an edge of a macro element
abbrev pub edge_middle : Shape → ℕ → Edge → Vertex
edge_middle mesh r e = midpoint (triangle mesh (r, edge_word e))

-- `across` tells all that two macro elements share, and names of macro elements and their children with one refinement edge have one level
pub record Tells (mesh : Shape) (across : Across) : Type 0 where
  pub distinct : (r : ℕ) → r < size mesh → Distinct (top_of mesh r)
  pub same : (r s : ℕ) (e f : Edge) (t : Bool) → across r e ≡ Some (s, f, t) → edge_at f (top_of mesh s) ≡ turned_by t (edge_at e (top_of mesh r))
  pub within : (r s : ℕ) (e f : Edge) (t : Bool) → across r e ≡ Some (s, f, t) → s < size mesh
  pub apexes : (r s : ℕ) (e f : Edge) (t : Bool) → r < size mesh → across r e ≡ Some (s, f, t) → (triangle mesh (r, edge_word e)).2 ≡ (triangle mesh (s, edge_word f)).2 → ⊥
  pub graded : (r s : ℕ) (e f : Edge) → r < size mesh → s < size mesh → edge_middle mesh r e ≡ edge_middle mesh s f → level mesh (r, edge_word e) ≡ level mesh (s, edge_word f)
  pub all : (r s : ℕ) (e f : Edge) → r < size mesh → s < size mesh → edge_middle mesh r e ≡ edge_middle mesh s f → ((r ≡ s) × (e ≡ f)) ⊎ ((t : Bool) × (across r e ≡ Some (s, f, t)))

-- the law that a partner has the same refinement edge
abbrev pub PartnersShare : Type 0
PartnersShare = (mesh : Shape) (across : Across) → Tells mesh across → (r : ℕ) (w : List Bool) (n : Name) (t : Bool) → partner across r w ≡ Some (n, t) → midpoint (triangle mesh n) ≡ midpoint (triangle mesh (r, w))

-- the law that names with one refinement edge have one level
abbrev pub LevelsApart : Type 0
LevelsApart = (mesh : Shape) (across : Across) → Tells mesh across → (m n : Name) → m.0 < size mesh → n.0 < size mesh → midpoint (triangle mesh m) ≡ midpoint (triangle mesh n) → level mesh m ≡ level mesh n

-- the law that a name has at most one other name with its refinement edge, its partner
abbrev pub PartnerIsOnly : Type 0
PartnerIsOnly = (mesh : Shape) (across : Across) → Tells mesh across → (r s : ℕ) (v w : List Bool) → r < size mesh → s < size mesh → midpoint (triangle mesh (r, v)) ≡ midpoint (triangle mesh (s, w)) →
    ((r ≡ s) × (v ≡ w)) ⊎ ((t : Bool) × (partner across r v ≡ Some ((s, w), t)))

-- m is another name of the mesh and of the same level as n, and has n as its partner
pub record IsPartner (mesh : Shape) (across : Across) (n m : Name) : Type 0 where
  pub rooted : m.0 < size mesh
  pub other : m ≡ n → ⊥
  pub level : level mesh m ≡ level mesh n
  pub back : (t : Bool) × (partner across m.0 m.1 ≡ Some (n, t))

-- the law that a partner is another name of the mesh and of the same level, and that a name is the partner of its partner
abbrev pub PartnersPair : Type 0
PartnersPair = (mesh : Shape) (across : Across) → Tells mesh across → (n m : Name) (t : Bool) → n.0 < size mesh → partner across n.0 n.1 ≡ Some (m, t) → IsPartner mesh across n m

-- q is p, or is its partner
abbrev pub InPatch : Across → Name → Name → Type 0
InPatch across p q = (q ≡ p) ⊎ ((t : Bool) × (partner across p.0 p.1 ≡ Some (q, t)))
