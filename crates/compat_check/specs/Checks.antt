-- What the check answers: the mesh of a text, or its first fault.
use Rattle.std.specs.Prelude.{◌≡◌, ℕ, ◌<◌, ◌⊎◌, ℤ, pos, negsuc, ◌+ℤ◌, Bool, true, false, List, [], map, length, Option, Some, None, slice_get, slice_index_or}
use Rattle.macro_file.specs.declared.text.MacroText.{MacroText}
use Rattle.macro_file.specs.declared.text.MacroElem.{MacroElem}
use Rattle.mesh_names.specs.Triangles.{Triple, Shape, size}
use Rattle.mesh_names.specs.Partners.{Edge}
use Rattle.mesh_names.specs.Validity.{IsValid, IsGraded, IsCompatible, IsTwin, IsWalk, Shares, across_of, is_refined}
use Rattle.compat_check.specs.Meshes.{Mesh, across_in, edge_of, label_of}
use Rattle.compat_check.specs.Faults.{AreSound, IsFirst, IsFlat, IsOutside, IsRepeated, triple_in}
use Rattle.compat_check.specs.Twins.{TwinFree}
use Rattle.compat_check.specs.declared.refusal.CheckRefusal.{CheckRefusal}
use Rattle.compat_check.specs.declared.refusal.CheckRefusal.TheVariants.{VertexRange, RepeatedVertex, Flat, TwinElements, EdgeOfThree, NeighboursDiffer, Incompatible, GradeTooHigh, Memory}

-- the triples of a text's elements
abbrev pub triples_of : MacroText → List Triple
triples_of text = map (λ (e : MacroElem). e.corners) text.elements.items

-- how many elements a text has
abbrev pub count_of : MacroText → ℕ
count_of text = length (triples_of text)

-- 1 on the boundary, and 0 inside
abbrev pub made_label : Option (ℕ × Edge × Bool) → ℤ
made_label None = pos 1
made_label (Some a) = pos 0

-- the mesh has exactly what the text says, and the grades that fit it
pub record IsMeshOf (text : MacroText) (mesh : Mesh) : Type 0 where
  pub vertices : mesh.vertices ≡ text.vertices.items
  pub triples : mesh.shape.triples ≡ triples_of text
  pub values : mesh.values ≡ map (λ (e : MacroElem). e.value) text.elements.items
  pub given : text.labels_given ≡ true → mesh.labels ≡ map (λ (e : MacroElem). e.labels) text.elements.items
  pub made : text.labels_given ≡ false → (length mesh.labels ≡ size mesh.shape) × ((r k : ℕ) → r < size mesh.shape → k < 3 → label_of mesh r k ≡ made_label (across_in mesh r (edge_of k)))
  pub valid : IsValid mesh.shape
  pub compatible : IsCompatible mesh.shape

-- the mesh with these triples, of which the grades do not matter yet
abbrev pub bare : List Triple → Shape
bare triples = record { triples = triples; grades = [] }

-- edge j of element q comes before edge k of element r
abbrev pub IsEdgeBefore : ℕ → ℕ → ℕ → ℕ → Type 0
IsEdgeBefore q j r k = (q < r) ⊎ ((q ≡ r) × (j < k))

-- edge k of element r is the first where P holds, by element and then by edge
pub record IsFirstEdge (n : ℕ) (P : ℕ → ℕ → Type 0) (r k : ℕ) : Type 0 where
  pub element : r < n
  pub edge : k < 3
  pub holds : P r k
  pub first : (q j : ℕ) → j < 3 → IsEdgeBefore q j r k → P q j → ⊥

-- P holds at no edge
abbrev pub AtNoEdge : ℕ → (ℕ → ℕ → Type 0) → Type 0
AtNoEdge n P = (r k : ℕ) → r < n → k < 3 → P r k → ⊥

-- an earlier element has the three vertices of s
abbrev pub HasTwinBefore : List Triple → ℕ → Type 0
HasTwinBefore triples s = (r : ℕ) × (r < s) × IsTwin (triple_in triples r) (triple_in triples s)

-- of the elements with a twin before them b is the first, and a is its first twin
pub record AreFirstTwins (triples : List Triple) (a b : ℕ) : Type 0 where
  pub second : IsFirst (length triples) (HasTwinBefore triples) (Some b)
  pub first : IsFirst b (λ r. IsTwin (triple_in triples r) (triple_in triples b)) (Some a)

-- two elements of smaller index have edge k of element r
pub record IsEdgeOfThree (triples : List Triple) (r k : ℕ) : Type 0 where
  pub one : ℕ
  pub two : ℕ
  pub edge_one : Edge
  pub edge_two : Edge
  pub apart : one < two
  pub before : two < r
  pub shares_one : Shares (bare triples) r (edge_of k) one edge_one
  pub shares_two : Shares (bare triples) r (edge_of k) two edge_two

-- the number of the neighbour across an edge, or -1
abbrev pub neighbour_number : Option (ℕ × Edge × Bool) → ℤ
neighbour_number None = negsuc 0
neighbour_number (Some a) = pos a.0

abbrev pub neighbours_of : Option MacroElem → List ℤ
neighbours_of None = []
neighbours_of (Some e) = e.neighbours

-- the neighbour that the text gives at edge k of element r is not the one that has this edge
abbrev pub NeighbourDiffers : List MacroElem → List Triple → ℕ → ℕ → Type 0
NeighbourDiffers elements triples r k = slice_index_or (neighbours_of (slice_get elements r)) k (pos 0) ≡ neighbour_number (across_of (bare triples) r (edge_of k)) → ⊥

-- the grades of two elements fit at an edge that is e of the one and f of the other
pub record Fits (g : ℕ → ℤ) (q : ℕ) (e : Edge) (s : ℕ) (f : Edge) : Type 0 where
  pub equal : is_refined e ≡ is_refined f → g q ≡ g s
  pub more : is_refined e ≡ true → is_refined f ≡ false → g q ≡ g s +ℤ pos 1
  pub less : is_refined e ≡ false → is_refined f ≡ true → g s ≡ g q +ℤ pos 1

-- the grades fit at each shared edge up to edge k of element r
abbrev pub FitsUpTo : List Triple → (ℕ → ℤ) → ℕ → ℕ → Type 0
FitsUpTo triples g r k = (q j s : ℕ) (f : Edge) → q < length triples → j < 3 → s < length triples → (q ≡ s → ⊥) → Shares (bare triples) q (edge_of j) s f → IsEdgeBefore q j r k ⊎ ((q ≡ r) × (j ≡ k)) → Fits g q (edge_of j) s f

-- the edge is shared, and no grades fit at it and at all shared edges before it
pub record IsUngradable (triples : List Triple) (r k : ℕ) : Type 0 where
  pub other : ℕ
  pub edge : Edge
  pub inside : other < length triples
  pub apart : r ≡ other → ⊥
  pub shares : Shares (bare triples) r (edge_of k) other edge
  pub none : (g : ℕ → ℤ) → FitsUpTo triples g r k → ⊥

-- the grades of a mesh, however great: they fit, and the least in each part that hangs together is 0
pub record AreGradesOf (triples : List Triple) (grades : List ℕ) : Type 0 where
  pub each : length grades ≡ length triples
  pub graded : IsGraded (record { triples = triples; grades = grades })
  pub least : (r : ℕ) → r < length triples → (qs : List ℕ) × (s : ℕ) × (s < length triples) × IsWalk (bare triples) r qs s × (slice_index_or grades s 0 ≡ 0)

-- the element's grade is the first above 24
pub record IsTooHigh (triples : List Triple) (r grade : ℕ) : Type 0 where
  pub grades : List ℕ
  pub are : AreGradesOf triples grades
  pub first : IsFirst (length triples) (λ q. 24 < slice_index_or grades q 0) (Some r)
  pub told : grade ≡ slice_index_or grades r 0

-- the text has none of the first five faults
pub record IsValidText (text : MacroText) : Type 0 where
  pub sound : AreSound text.vertices.items (triples_of text)
  pub twin_free : TwinFree (triples_of text)
  pub two_at_most : AtNoEdge (count_of text) (IsEdgeOfThree (triples_of text))

-- nor the sixth
pub record IsFaultless (text : MacroText) : Type 0 where
  pub valid : IsValidText text
  pub neighbours : text.neighbours_given ≡ true → AtNoEdge (count_of text) (NeighbourDiffers text.elements.items (triples_of text))

-- faults of a single element of a text
abbrev pub HasOutside : MacroText → ℕ → Type 0
HasOutside text r = IsOutside (length text.vertices.items) (triple_in (triples_of text) r)

abbrev pub HasRepeated : MacroText → ℕ → Type 0
HasRepeated text r = IsRepeated (triple_in (triples_of text) r)

abbrev pub HasNoArea : MacroText → ℕ → Type 0
HasNoArea text r = IsFlat text.vertices.items (triple_in (triples_of text) r)

-- when each refusal comes: a kind only where no earlier kind does, and of a kind the first
abbrev pub IsCheckRefusal : MacroText → CheckRefusal → Type 0
IsCheckRefusal text (VertexRange r) = IsFirst (count_of text) (HasOutside text) (Some r)
IsCheckRefusal text (RepeatedVertex r) = IsFirst (count_of text) (HasOutside text) None × IsFirst (count_of text) (HasRepeated text) (Some r)
IsCheckRefusal text (Flat r) = IsFirst (count_of text) (HasOutside text) None × IsFirst (count_of text) (HasRepeated text) None × IsFirst (count_of text) (HasNoArea text) (Some r)
IsCheckRefusal text (TwinElements a b) = AreSound text.vertices.items (triples_of text) × AreFirstTwins (triples_of text) a b
IsCheckRefusal text (EdgeOfThree r k) = AreSound text.vertices.items (triples_of text) × TwinFree (triples_of text) × IsFirstEdge (count_of text) (IsEdgeOfThree (triples_of text)) r k
IsCheckRefusal text (NeighboursDiffer r k) = IsValidText text × (text.neighbours_given ≡ true) × IsFirstEdge (count_of text) (NeighbourDiffers text.elements.items (triples_of text)) r k
IsCheckRefusal text (Incompatible r k) = IsFaultless text × IsFirstEdge (count_of text) (IsUngradable (triples_of text)) r k
IsCheckRefusal text (GradeTooHigh r grade) = IsFaultless text × IsTooHigh (triples_of text) r grade
IsCheckRefusal text Memory = Unit {0}

-- the refusal is of the triangulation, and not of its refinement edges
abbrev pub AsksNoGrades : CheckRefusal → Type 0
AsksNoGrades (Incompatible r k) = ⊥
AsksNoGrades (GradeTooHigh r grade) = ⊥
AsksNoGrades refusal = Unit {0}

-- the labels of the edges: those that are given, or else 1 on the boundary and 0 inside
pub record AreEdgeLabels (text : MacroText) (labels : List (List ℤ)) : Type 0 where
  pub given : text.labels_given ≡ true → labels ≡ map (λ (e : MacroElem). e.labels) text.elements.items
  pub each : text.labels_given ≡ false → length labels ≡ count_of text
  pub made : text.labels_given ≡ false → (r k : ℕ) → r < count_of text → k < 3 → slice_index_or (slice_index_or labels r []) k (pos 0) ≡ made_label (across_of (bare (triples_of text)) r (edge_of k))
