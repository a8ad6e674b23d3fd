-- The lists of which the mended text is made.
use Rattle.std.proofs.Common.{◌≡◌, ℕ, ◌+◌, ◌*◌, ◌<◌, ◌≤◌, List, [], ◌∷◌, ◌++◌, map, length, get_or, refl, sym, ap, ◌∙◌, arith, Bool, true, false, cond, All}
use Rattle.std.specs.Prelude.{ℤ, pos, slice_index_or}
use Rattle.std.specs.List.{range_with_len}
use Rattle.std.proofs.Math.ListN.{get_or-map}
use Rattle.std.proofs.lemmas.List.{length-append, length-map}
use Rattle.std.proofs.lemmas.List.FromFn.{get_or-map-range_with_len}
use Rattle.macro_file.proofs.AssemblyLemmas.{made_length}
use Rattle.macro_file.specs.declared.text.MacroElem.{MacroElem}
use Rattle.macro_file.specs.declared.text.MacroVertex.{MacroVertex}
use Rattle.macro_file.specs.declared.text.MacroText.{MacroText}
use Rattle.macro_file.specs.Meaning.{Element}
use Rattle.macro_file.specs.Text.{element_of, vertex_of}
use Rattle.mesh_names.specs.Triangles.{Triple}
use Rattle.mesh_names.specs.Validity.{across_of}
use Rattle.compat_check.specs.Meshes.{edge_of, edge_number}
use Rattle.compat_check.specs.Checks.{AreEdgeLabels, bare, count_of, made_label, triples_of}
use Rattle.mesh_mend.specs.Centres.{centre_at}
use Rattle.mesh_mend.specs.Mended.{label_in, labels_in, piece}
use Rattle.mesh_mend.proofs.Edges.{number_back}

-- the label of an edge stands in the list of labels
pub label_is : (text : MacroText) (labels : List (List ℤ)) → AreEdgeLabels text labels → (r k : ℕ) → r < count_of text → k < 3 → slice_index_or (slice_index_or labels r []) k (pos 0) ≡ label_in text r (edge_of k)
label_is text labels are r k hr hk = by_case text.labels_given refl
  where
    by_case : (b : Bool) → text.labels_given ≡ b → slice_index_or (slice_index_or labels r []) k (pos 0) ≡ cond b (slice_index_or (labels_in text r) (edge_number (edge_of k)) (pos 0)) (made_label (across_of (bare (triples_of text)) r (edge_of k)))
    by_case true e = (λ i. slice_index_or (slice_index_or (are.given e i) r []) (sym (number_back k hk) i) (pos 0))
    by_case false e = are.made e r k hr hk

pub labels_counted : (text : MacroText) (labels : List (List ℤ)) → AreEdgeLabels text labels → length labels ≡ count_of text
labels_counted text labels are = by_case text.labels_given refl
  where
    by_case : (b : Bool) → text.labels_given ≡ b → length labels ≡ count_of text
    by_case true e = ap length (are.given e) ∙ length-map text.elements.items (λ (e : MacroElem). e.labels) ∙ sym (length-map text.elements.items (λ (e : MacroElem). e.corners))
    by_case false e = are.each e

-- how many vertices there are with the centres
pub joined_length : (all vertices centres : List MacroVertex) (triples : List Triple) → map vertex_of all ≡ map vertex_of vertices ++ map vertex_of centres → map vertex_of centres ≡ map (centre_at vertices) triples → length all ≡ length vertices + length triples
joined_length all vertices centres triples e c =
    sym (length-map all vertex_of) ∙ ap length e ∙ length-append (map vertex_of vertices) (map vertex_of centres)
    ∙ (λ i. length-map vertices vertex_of i + (ap length c ∙ length-map triples (centre_at vertices)) i)

pub pieces_length : (text : MacroText) (items : List MacroElem) → map element_of items ≡ map (piece text) (range_with_len 0 (count_of text * 3)) → length items ≡ count_of text * 3
pieces_length text items e = made_length element_of (piece text) items (count_of text * 3) e

-- pieces have no neighbours given
pub no_neighbours : (text : MacroText) (items : List MacroElem) → map element_of items ≡ map (piece text) (range_with_len 0 (count_of text * 3)) → All (λ (x : MacroElem). x.neighbours ≡ pos 0 ∷ pos 0 ∷ pos 0 ∷ []) items
no_neighbours text items e i d less =
    let within : i < count_of text * 3 = omega (arith, less, pieces_length text items e) in
    ap (λ (x : Element). x.neighbours) (sym (get_or-map element_of items i d) ∙ ap (λ es. get_or es i (element_of d)) e ∙ get_or-map-range_with_len (piece text) 0 (count_of text * 3) i i (element_of d) within (omega arith))
