-- The mended text: each element is cut at its centre into three, one at each of its edges.
use Rattle.std.specs.Prelude.{ℕ, ◌+◌, ◌*◌, ◌/◌, ◌%◌, ℤ, pos, negsuc, ◌+ℤ◌, ◌-ℤ◌, true, false, Bool, cond, List, [], ◌∷◌, ◌++◌, length, map, slice_index_or}
use Rattle.std.specs.List.{range_with_len}
use Rattle.macro_file.specs.declared.text.MacroText.{MacroText}
use Rattle.macro_file.specs.declared.text.MacroElem.{MacroElem}
use Rattle.macro_file.specs.Meaning.{Element, Macro}
use Rattle.macro_file.specs.Text.{vertex_of}
use Rattle.mesh_names.specs.Triangles.{Triple}
use Rattle.mesh_names.specs.Partners.{Edge, Edge0, Edge1, Edge2}
use Rattle.mesh_names.specs.Validity.{across_of, ends_of}
use Rattle.compat_check.specs.Meshes.{edge_of, edge_number}
use Rattle.compat_check.specs.Faults.{triple_in}
use Rattle.compat_check.specs.Checks.{bare, count_of, made_label, triples_of}
use Rattle.mesh_mend.specs.Centres.{centre_at}

-- the labels, and the value, of an element of a text
abbrev pub labels_in : MacroText → ℕ → List ℤ
labels_in text r = slice_index_or (map (λ (e : MacroElem). e.labels) text.elements.items) r []

abbrev pub value_in : MacroText → ℕ → ℤ
value_in text r = slice_index_or (map (λ (e : MacroElem). e.value) text.elements.items) r (pos 0)

-- the label of an edge: the one that is given, or else 1 on the boundary and 0 inside
abbrev pub label_in : MacroText → ℕ → Edge → ℤ
label_in text r e = cond text.labels_given (slice_index_or (labels_in text r) (edge_number e) (pos 0)) (made_label (across_of (bare (triples_of text)) r e))

-- the quarter of a number, rounded down
abbrev pub quarter : ℤ → ℤ
quarter (pos n) = pos (n / 4)
quarter (negsuc n) = negsuc (n / 4)

-- what the piece at an edge has of its element's value: a quarter at edges 0 and 1, and the rest at edge 2
abbrev pub share : ℤ → Edge → ℤ
share value Edge0 = quarter value
share value Edge1 = quarter value
share value Edge2 = value -ℤ (quarter value +ℤ quarter value)

-- the edge's ends and the centre, of this number: the edge is the refinement edge
abbrev pub piece_corners : Triple → ℕ → Edge → List ℕ
piece_corners t centre e = (ends_of t e).0 ∷ (ends_of t e).1 ∷ centre ∷ []

-- the piece of an element at an edge: this edge keeps its label, and the other two have 0
abbrev pub piece_of : Triple → ℕ → ℤ → ℤ → Edge → Element
piece_of t centre label value e = record {
  corners = piece_corners t centre e;
  labels = pos 0 ∷ pos 0 ∷ label ∷ [];
  neighbours = pos 0 ∷ pos 0 ∷ pos 0 ∷ [];
  value = share value e;
}

-- the number of the vertex at the centre of an element: centres stand after the vertices of the text
abbrev pub centre_number : MacroText → ℕ → ℕ
centre_number text r = length text.vertices.items + r

-- the piece of this number: the pieces of an element follow each other, by edge
abbrev pub piece : MacroText → ℕ → Element
piece text n = piece_of (triple_in (triples_of text) (n / 3)) (centre_number text (n / 3)) (label_in text (n / 3) (edge_of (n % 3))) (value_in text (n / 3)) (edge_of (n % 3))

-- the mended text
abbrev pub mended : MacroText → Macro
mended text = record {
  vertices = map vertex_of text.vertices.items ++ map (centre_at text.vertices.items) (triples_of text);
  elements = map (piece text) (range_with_len 0 (count_of text * 3));
  labels_given = true;
  neighbours_given = false;
}
