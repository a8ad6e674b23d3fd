-- Pieces without area, by their numbers and by element and edge.
use Rattle.std.proofs.Common.{◌≡◌, ℕ, ◌+◌, ◌*◌, ◌/◌, ◌%◌, ◌<◌, List, map, length, sym, ap, ◌∙◌, subst, arith}
use Rattle.std.specs.Prelude.{pos, Some, None}
use Rattle.std.proofs.lemmas.List.{length-map}
use Rattle.macro_file.specs.declared.text.MacroElem.{MacroElem}
use Rattle.macro_file.specs.declared.text.MacroVertex.{MacroVertex}
use Rattle.macro_file.specs.declared.text.MacroText.{MacroText}
use Rattle.compat_check.specs.Checks.{AtNoEdge, IsFirstEdge, count_of, triples_of}
use Rattle.compat_check.specs.Faults.{IsFirst, triple_in}
use Rattle.compat_check.specs.Meshes.{edge_of}
use Rattle.compat_check.proofs.Firsts.{first_edge_of}
use Rattle.mesh_mend.specs.Refusals.{IsFlatPiece, piece_area}

-- the piece of this number has no area
abbrev pub FlatAt : List MacroVertex → List MacroElem → ℕ → Type 0
FlatAt vertices elements n = piece_area vertices (triple_in (map (λ (e : MacroElem). e.corners) elements) (n / 3)) (edge_of (n % 3)) ≡ pos 0

module _ (text : MacroText) where
  abbrev own : ℕ → Type 0
  own = FlatAt text.vertices.items text.elements.items

  to_number : (r k : ℕ) → k < 3 → IsFlatPiece text r k → own (r * 3 + k)
  to_number r k hk p =
      let element : (r * 3 + k) / 3 ≡ r = omega (arith, hk) in
      let edge : (r * 3 + k) % 3 ≡ k = omega (arith, hk) in
      (λ i. piece_area text.vertices.items (triple_in (triples_of text) (element i)) (edge_of (edge i))) ∙ p

  counted : length text.elements.items ≡ count_of text
  counted = sym (length-map text.elements.items (λ (e : MacroElem). e.corners))

  pub no_flat : (vertices : List MacroVertex) (elements : List MacroElem) → vertices ≡ text.vertices.items → elements ≡ text.elements.items → IsFirst (length elements * 3) (FlatAt vertices elements) None → AtNoEdge (count_of text) (IsFlatPiece text)
  no_flat vertices elements hv he none r k hr hk p =
      let here : IsFirst (length text.elements.items * 3) own None = subst (λ (y : List MacroVertex × List MacroElem). IsFirst (length y.1 * 3) (FlatAt y.0 y.1) None) (λ i. (hv i, he i)) none in
      here (r * 3 + k) (omega (arith, hr, hk, counted)) (to_number r k hk p)

  pub first_flat_edge : (vertices : List MacroVertex) (elements : List MacroElem) → vertices ≡ text.vertices.items → elements ≡ text.elements.items → (n : ℕ) → IsFirst (length elements * 3) (FlatAt vertices elements) (Some n) → IsFirstEdge (count_of text) (IsFlatPiece text) (n / 3) (n % 3)
  first_flat_edge vertices elements hv he n some =
      let here : IsFirst (length text.elements.items * 3) own (Some n) = subst (λ (y : List MacroVertex × List MacroElem). IsFirst (length y.1 * 3) (FlatAt y.0 y.1) (Some n)) (λ i. (hv i, he i)) some in
      first_edge_of (count_of text) own (IsFlatPiece text) n (subst (λ (m : ℕ). IsFirst (m * 3) own (Some n)) counted here) (λ p. p) (λ q j hq hj p. to_number q j hj p)
