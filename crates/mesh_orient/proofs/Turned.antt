-- Turned elements and texts.
use Rattle.std.proofs.Common.{◌≡◌, ℕ, zero, suc, ◌+◌, ◌%◌, ◌<◌, ◌≤◌, All, List, [], ◌∷◌, map, length, get_or, refl, sym, ap, ◌∙◌, subst, ext_get_or, arith}
use Rattle.std.specs.Prelude.{ℤ, pos, slice_index_or}
use Rattle.std.specs.List.{range_with_len}
use Rattle.std.proofs.Math.ListN.{get_or-map}
use Rattle.std.proofs.lemmas.List.{length-map}
use Rattle.std.proofs.lemmas.List.FromFn.{get_or-map-range_with_len, length-map-range_with_len}
use Rattle.macro_file.proofs.AssemblyLemmas.{made_length}
use Rattle.macro_file.specs.declared.text.MacroElem.{MacroElem}
use Rattle.macro_file.specs.declared.text.MacroText.{MacroText}
use Rattle.macro_file.specs.Meaning.{Element, Macro}
use Rattle.macro_file.specs.Text.{element_of, macro_of, vertex_of}
use Rattle.mesh_orient.specs.Turns.{EdgesStay, IsSameEdge, element_in, shift_in, turned_element, turned_row, turned_text}

pub edges_stay : EdgesStay
edges_stay zero zero e hk hi = (0, omega arith, record { ends = refl; label = refl; neighbour = refl })
edges_stay zero (suc zero) e hk hi = (1, omega arith, record { ends = refl; label = refl; neighbour = refl })
edges_stay zero (suc (suc zero)) e hk hi = (2, omega arith, record { ends = refl; label = refl; neighbour = refl })
edges_stay zero (suc (suc (suc i))) e hk hi = absurd (omega arith)
edges_stay (suc zero) zero e hk hi = (2, omega arith, record { ends = refl; label = refl; neighbour = refl })
edges_stay (suc zero) (suc zero) e hk hi = (0, omega arith, record { ends = refl; label = refl; neighbour = refl })
edges_stay (suc zero) (suc (suc zero)) e hk hi = (1, omega arith, record { ends = refl; label = refl; neighbour = refl })
edges_stay (suc zero) (suc (suc (suc i))) e hk hi = absurd (omega arith)
edges_stay (suc (suc zero)) zero e hk hi = (1, omega arith, record { ends = refl; label = refl; neighbour = refl })
edges_stay (suc (suc zero)) (suc zero) e hk hi = (2, omega arith, record { ends = refl; label = refl; neighbour = refl })
edges_stay (suc (suc zero)) (suc (suc zero)) e hk hi = (0, omega arith, record { ends = refl; label = refl; neighbour = refl })
edges_stay (suc (suc zero)) (suc (suc (suc i))) e hk hi = absurd (omega arith)
edges_stay (suc (suc (suc k))) i e hk hi = absurd (omega arith)

-- ---- a text that is not turned
whole_row : {A : Type 0} (d : A) (row : List A) → length row ≡ 3 → turned_row d 0 row ≡ row
whole_row d [] h = absurd (omega arith)
whole_row d (x ∷ []) h = absurd (omega arith)
whole_row d (x ∷ y ∷ []) h = absurd (omega arith)
whole_row d (x ∷ y ∷ z ∷ []) h = refl
whole_row d (x ∷ y ∷ z ∷ w ∷ row) h = absurd (omega arith)

abbrev nothing : Element
nothing = record { corners = []; labels = []; neighbours = []; value = pos 0 }

whole_element : (xs : List MacroElem) (r : ℕ) → r < length xs → turned_element 0 (get_or (map element_of xs) r nothing) ≡ get_or (map element_of xs) r nothing
whole_element [] r h = absurd (omega arith)
whole_element (x ∷ xs) zero h = λ i. record { corners = whole_row 0 x.corners x.three.0 i; labels = whole_row (pos 0) x.labels x.three.1 i; neighbours = whole_row (pos 0) x.neighbours x.three.2 i; value = x.value }
whole_element (x ∷ xs) (suc r) h = whole_element xs r (omega arith)

pub not_turned : (text : MacroText) → turned_text [] text ≡ macro_of text
not_turned text =
    let items = text.elements.items in
    let f = λ (r : ℕ). turned_element 0 (element_in text r) in
    let elements : map f (range_with_len 0 (length items)) ≡ map element_of items = ext_get_or nothing (map f (range_with_len 0 (length items))) (map element_of items)
    (length-map-range_with_len f 0 (length items) ∙ sym (length-map items element_of))
    (λ r hr.
    let less : r < length items = omega (arith, hr, length-map-range_with_len f 0 (length items)) in
    get_or-map-range_with_len f 0 (length items) r r nothing less (omega arith) ∙ whole_element items r less) in
    λ i. record { vertices = map vertex_of text.vertices.items; elements = elements i; labels_given = text.labels_given; neighbours_given = text.neighbours_given }

-- ---- entries of a turned text
pub entry : (es : List MacroElem) (r : ℕ) (d : MacroElem) → r < length es → get_or (map element_of es) r nothing ≡ element_of (get_or es r d)
entry [] r d h = absurd (omega arith)
entry (e ∷ es) zero d h = refl
entry (e ∷ es) (suc r) d h = entry es r d (omega arith)

abbrev zeros : List ℤ
zeros = pos 0 ∷ pos 0 ∷ pos 0 ∷ []

zeros_turned : (k : ℕ) → k < 3 → turned_row (pos 0) k zeros ≡ zeros
zeros_turned zero h = refl
zeros_turned (suc zero) h = refl
zeros_turned (suc (suc zero)) h = refl
zeros_turned (suc (suc (suc k))) h = absurd (omega arith)

module _ (text : MacroText) (shifts : List ℕ) (items : List MacroElem) where
  abbrev at : ℕ → Element
  at r = turned_element (shift_in shifts r) (element_in text r)

  pub turned_count : map element_of items ≡ map at (range_with_len 0 (length text.elements.items)) → length items ≡ length text.elements.items
  turned_count e = made_length element_of at items (length text.elements.items) e

  pub rows_zero : map element_of items ≡ map at (range_with_len 0 (length text.elements.items)) → (row : Element → List ℤ) → ((k : ℕ) (e : Element) → row (turned_element k e) ≡ turned_row (pos 0) k (row e)) →
      All (λ (x : MacroElem). row (element_of x) ≡ zeros) text.elements.items → All (λ (x : MacroElem). row (element_of x) ≡ zeros) items
  rows_zero e row turns all i d less =
      let n = length text.elements.items in
      let within : i < n = omega (arith, less, turned_count e) in
      ap row (sym (get_or-map element_of items i d) ∙ ap (λ es. get_or es i (element_of d)) e ∙ get_or-map-range_with_len at 0 n i i (element_of d) within (omega arith))
      ∙ turns (shift_in shifts i) (element_in text i)
      ∙ ap (turned_row (pos 0) (shift_in shifts i)) (ap row (entry text.elements.items i d within) ∙ all i d within)
      ∙ zeros_turned (shift_in shifts i) (omega arith)
