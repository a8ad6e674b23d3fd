-- Each value of the type is a macro text.
use Rattle.std.proofs.Common.{◌≡◌, pos, List, [], ◌∷◌, map, get_or, arith, All}
use Rattle.std.proofs.lemmas.Int.{ints}
use Rattle.std.proofs.lemmas.List.{length-map}
use Rattle.std.proofs.lemmas.List.Elements.{All-nil, All-cons, All-head, All-tail}
use Rattle.macro_file.specs.declared.text.MacroVertex.{MacroVertex}
use Rattle.macro_file.specs.declared.text.MacroElem.{MacroElem}
use Rattle.macro_file.specs.Meaning.{Element}
use Rattle.macro_file.specs.Text.{vertex_of, element_of}
use Rattle.macro_file.specs.ReadBack.{IsVertex, IsElement, TextIsMacro}

is_vertex : (v : MacroVertex) → IsVertex (vertex_of v)
is_vertex v = record { x = v.in_range.0; y = v.in_range.1; value = v.in_range.2 }

is_element : (e : MacroElem) → IsElement (element_of e)
is_element e = record {
  three_corners = e.three.0;
  three_labels = e.three.1;
  three_neighbours = e.three.2;
  corners = λ k d h. let top = e.corners_in_range k d h in (omega (arith, ints), omega (arith, ints, top));
  labels = e.labels_in_range;
  neighbours = e.neighbours_in_range;
  value = e.value_in_range;
}

-- what holds of each view holds of all
views_all : {A B : Type 0} (P : B → Type 0) (view : A → B) (xs : List A) → All (λ x. P (view x)) xs → All P (map view xs)
views_all P view [] h = All-nil P
views_all P view (x ∷ xs) h = All-cons P (view x) (map view xs) (All-head (λ y. P (view y)) x xs h) (views_all P view xs (All-tail (λ y. P (view y)) x xs h))

pub text_is_macro : TextIsMacro
text_is_macro t =
    let vs = length-map t.vertices.items vertex_of in
    let es = length-map t.elements.items element_of in
    record {
      some_vertices = (omega (arith, vs, t.some_vertices.0), omega (arith, vs, t.some_vertices.1));
      some_elements = (omega (arith, es, t.some_elements.0), omega (arith, es, t.some_elements.1));
      vertices = views_all IsVertex vertex_of t.vertices.items (λ k d _. is_vertex (get_or t.vertices.items k d));
      elements = views_all IsElement element_of t.elements.items (λ k d _. is_element (get_or t.elements.items k d));
      labels = λ e. views_all (λ (x : Element). x.labels ≡ pos 0 ∷ pos 0 ∷ pos 0 ∷ []) element_of t.elements.items (t.labels_zero e);
      neighbours = λ e. views_all (λ (x : Element). x.neighbours ≡ pos 0 ∷ pos 0 ∷ pos 0 ∷ []) element_of t.elements.items (t.neighbours_zero e);
    }
