-- Texts that say the same are refused alike.
use Rattle.std.proofs.Common.{◌≡◌, ℕ, zero, suc, List, [], ◌∷◌, map, length, get_or, refl, sym, ap, ◌∙◌, subst}
use Rattle.std.specs.Prelude.{ℤ, pos, Some, None, slice_get, slice_index_or}
use Rattle.std.proofs.lemmas.List.{length-map}
use Rattle.macro_file.specs.declared.text.MacroElem.{MacroElem}
use Rattle.macro_file.specs.declared.text.MacroVertex.{MacroVertex}
use Rattle.macro_file.specs.declared.text.MacroText.{MacroText}
use Rattle.macro_file.specs.Meaning.{Vertex, Element, Macro}
use Rattle.macro_file.specs.Text.{element_of, macro_of, vertex_of}
use Rattle.mesh_names.specs.Triangles.{Triple, corner_of}
use Rattle.mesh_names.specs.Validity.{across_of}
use Rattle.compat_check.specs.Meshes.{edge_of}
use Rattle.compat_check.specs.Checks.{AreFirstTwins, AtNoEdge, IsCheckRefusal, IsEdgeOfThree, IsFaultless, IsFirstEdge, IsTooHigh, IsUngradable, IsValidText, bare, neighbour_number, neighbours_of, triples_of}
use Rattle.compat_check.specs.Faults.{AreSound, IsFirst, IsOutside, IsRepeated, doubled_area, point_at, triple_in}
use Rattle.compat_check.specs.Twins.{TwinFree}
use Rattle.compat_check.specs.declared.refusal.CheckRefusal.{CheckRefusal}
use Rattle.compat_check.specs.declared.refusal.CheckRefusal.TheVariants.{VertexRange, RepeatedVertex, Flat, TwinElements, EdgeOfThree, NeighboursDiffer, Incompatible, GradeTooHigh, Memory}

corners_in : (items : List MacroElem) → map (λ (e : MacroElem). e.corners) items ≡ map (λ (e : Element). e.corners) (map element_of items)
corners_in [] = refl
corners_in (e ∷ es) = ap (λ (ts : List Triple). e.corners ∷ ts) (corners_in es)

neighbours_in : (items : List MacroElem) (r : ℕ) → neighbours_of (slice_get items r) ≡ get_or (map (λ (e : Element). e.neighbours) (map element_of items)) r []
neighbours_in [] r = refl
neighbours_in (e ∷ es) zero = refl
neighbours_in (e ∷ es) (suc r) = neighbours_in es r

abbrev place : Vertex → ℤ × ℤ
place v = (v.x, v.y)

abbrev nowhere : Vertex
nowhere = record { x = pos 0; y = pos 0; value = pos 0 }

point_in : (vs : List MacroVertex) (i : ℕ) → point_at vs i ≡ place (get_or (map vertex_of vs) i nowhere)
point_in [] i = refl
point_in (v ∷ vs) zero = refl
point_in (v ∷ vs) (suc i) = point_in vs i

-- no three corners on a line, by where vertices lie
abbrev IsFlatBy : (ℕ → ℤ × ℤ) → Triple → Type 0
IsFlatBy p t = doubled_area (p (corner_of t 0)) (p (corner_of t 1)) (p (corner_of t 2)) ≡ pos 0

-- the given neighbour differs, by what is given
abbrev DiffersBy : (ℕ → List ℤ) → List Triple → ℕ → ℕ → Type 0
DiffersBy rows triples r k = slice_index_or (rows r) k (pos 0) ≡ neighbour_number (across_of (bare triples) r (edge_of k)) → ⊥

module _ (a b : MacroText) (same : macro_of a ≡ macro_of b) where
  pub triples_same : triples_of a ≡ triples_of b
  triples_same = corners_in a.elements.items ∙ ap (λ (m : Macro). map (λ (e : Element). e.corners) m.elements) same ∙ sym (corners_in b.elements.items)

  count : length a.vertices.items ≡ length b.vertices.items
  count = sym (length-map a.vertices.items vertex_of) ∙ ap (λ (m : Macro). length m.vertices) same ∙ length-map b.vertices.items vertex_of

  point : (i : ℕ) → point_at a.vertices.items i ≡ point_at b.vertices.items i
  point i = point_in a.vertices.items i ∙ ap (λ (m : Macro). place (get_or m.vertices i nowhere)) same ∙ sym (point_in b.vertices.items i)

  row : (r : ℕ) → neighbours_of (slice_get a.elements.items r) ≡ neighbours_of (slice_get b.elements.items r)
  row r = neighbours_in a.elements.items r ∙ ap (λ (m : Macro). get_or (map (λ (e : Element). e.neighbours) m.elements) r []) same ∙ sym (neighbours_in b.elements.items r)

  pub given_same : a.neighbours_given ≡ b.neighbours_given
  given_same = ap (λ (m : Macro). m.neighbours_given) same

  sound_same : AreSound a.vertices.items (triples_of a) → AreSound b.vertices.items (triples_of b)
  sound_same h = record {
    inside = subst (λ (y : ℕ × List Triple). IsFirst (length y.1) (λ q. IsOutside y.0 (triple_in y.1 q)) None) (λ i. (count i, triples_same i)) h.inside;
    distinct = subst (λ (y : List Triple). IsFirst (length y) (λ q. IsRepeated (triple_in y q)) None) triples_same h.distinct;
    thick = subst (λ (y : (ℕ → ℤ × ℤ) × List Triple). IsFirst (length y.1) (λ q. IsFlatBy y.0 (triple_in y.1 q)) None) (λ i. (λ n. point n i, triples_same i)) h.thick;
  }

  valid_same : IsValidText a → IsValidText b
  valid_same h = record {
    sound = sound_same h.sound;
    twin_free = subst TwinFree triples_same h.twin_free;
    two_at_most = subst (λ (y : List Triple). AtNoEdge (length y) (IsEdgeOfThree y)) triples_same h.two_at_most;
  }

  pub faultless_same : IsFaultless a → IsFaultless b
  faultless_same h = record {
    valid = valid_same h.valid;
    neighbours = λ g. subst (λ (y : (ℕ → List ℤ) × List Triple). AtNoEdge (length y.1) (DiffersBy y.0 y.1)) (λ i. (λ n. row n i, triples_same i)) (h.neighbours (given_same ∙ g));
  }

  pub refused_same : (refusal : CheckRefusal) → IsCheckRefusal a refusal → IsCheckRefusal b refusal
  refused_same (VertexRange r) h = subst (λ (y : ℕ × List Triple). IsFirst (length y.1) (λ q. IsOutside y.0 (triple_in y.1 q)) (Some r)) (λ i. (count i, triples_same i)) h
  refused_same (RepeatedVertex r) h = (
    subst (λ (y : ℕ × List Triple). IsFirst (length y.1) (λ q. IsOutside y.0 (triple_in y.1 q)) None) (λ i. (count i, triples_same i)) h.0,
    subst (λ (y : List Triple). IsFirst (length y) (λ q. IsRepeated (triple_in y q)) (Some r)) triples_same h.1,
  )
  refused_same (Flat r) h = (
    subst (λ (y : ℕ × List Triple). IsFirst (length y.1) (λ q. IsOutside y.0 (triple_in y.1 q)) None) (λ i. (count i, triples_same i)) h.0,
    subst (λ (y : List Triple). IsFirst (length y) (λ q. IsRepeated (triple_in y q)) None) triples_same h.1,
    subst (λ (y : (ℕ → ℤ × ℤ) × List Triple). IsFirst (length y.1) (λ q. IsFlatBy y.0 (triple_in y.1 q)) (Some r)) (λ i. (λ n. point n i, triples_same i)) h.2,
  )
  refused_same (TwinElements x y) h = (sound_same h.0, subst (λ (ts : List Triple). AreFirstTwins ts x y) triples_same h.1)
  refused_same (EdgeOfThree r k) h = (sound_same h.0, subst TwinFree triples_same h.1, subst (λ (ts : List Triple). IsFirstEdge (length ts) (IsEdgeOfThree ts) r k) triples_same h.2)
  refused_same (NeighboursDiffer r k) h = (valid_same h.0, sym given_same ∙ h.1, subst (λ (y : (ℕ → List ℤ) × List Triple). IsFirstEdge (length y.1) (DiffersBy y.0 y.1) r k) (λ i. (λ n. row n i, triples_same i)) h.2)
  refused_same (Incompatible r k) h = (faultless_same h.0, subst (λ (ts : List Triple). IsFirstEdge (length ts) (IsUngradable ts) r k) triples_same h.1)
  refused_same (GradeTooHigh r grade) h = (faultless_same h.0, subst (λ (ts : List Triple). IsTooHigh ts r grade) triples_same h.1)
  refused_same Memory h = h
