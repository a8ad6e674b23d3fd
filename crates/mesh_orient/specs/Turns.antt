-- Elements that are turned: their corners stay in their cyclic order, and edges take their labels and neighbours along.
use Rattle.std.specs.Prelude.{◌≡◌, ℕ, ◌+◌, ◌%◌, ◌<◌, ℤ, pos, List, [], ◌∷◌, length, map, slice_index_or}
use Rattle.std.specs.List.{range_with_len}
use Rattle.macro_file.specs.declared.text.MacroText.{MacroText}
use Rattle.macro_file.specs.Meaning.{Element, Macro}
use Rattle.macro_file.specs.Text.{element_of, macro_of, vertex_of}
use Rattle.mesh_names.specs.Validity.{ends_of}
use Rattle.compat_check.specs.Meshes.{edge_of}

-- the row that begins at entry k of a row of three, and goes round
abbrev pub turned_row : {A : Type 0} → A → ℕ → List A → List A
turned_row d k row = slice_index_or row (k % 3) d ∷ slice_index_or row ((k + 1) % 3) d ∷ slice_index_or row ((k + 2) % 3) d ∷ []

-- an element, turned
abbrev pub turned_element : ℕ → Element → Element
turned_element k e = record {
  corners = turned_row 0 k e.corners;
  labels = turned_row (pos 0) k e.labels;
  neighbours = turned_row (pos 0) k e.neighbours;
  value = e.value;
}

-- the element of this number
abbrev pub element_in : MacroText → ℕ → Element
element_in text r = slice_index_or (map element_of text.elements.items) r (record { corners = []; labels = []; neighbours = []; value = pos 0 })

-- by how much an element is turned
abbrev pub shift_in : List ℕ → ℕ → ℕ
shift_in shifts r = slice_index_or shifts r 0 % 3

-- the text with each element turned
abbrev pub turned_text : List ℕ → MacroText → Macro
turned_text shifts text = record {
  vertices = map vertex_of text.vertices.items;
  elements = map (λ r. turned_element (shift_in shifts r) (element_in text r)) (range_with_len 0 (length text.elements.items));
  labels_given = text.labels_given;
  neighbours_given = text.neighbours_given;
}

-- one text is another with each element turned
abbrev pub IsTurned : MacroText → MacroText → Type 0
IsTurned text made = (shifts : List ℕ) × (macro_of made ≡ turned_text shifts text)

-- edge j of an element is edge i of another: it has the same two ends in the same order, the same label and the same neighbour
pub record IsSameEdge (e : Element) (i : ℕ) (f : Element) (j : ℕ) : Type 0 where
  pub ends : ends_of f.corners (edge_of j) ≡ ends_of e.corners (edge_of i)
  pub label : slice_index_or f.labels j (pos 0) ≡ slice_index_or e.labels i (pos 0)
  pub neighbour : slice_index_or f.neighbours j (pos 0) ≡ slice_index_or e.neighbours i (pos 0)

-- the law that a turned element has each edge of the element, with its label and its neighbour
abbrev pub EdgesStay : Type 0
EdgesStay = (k i : ℕ) (e : Element) → k < 3 → i < 3 → (j : ℕ) × (j < 3) × IsSameEdge e i (turned_element k e) j
