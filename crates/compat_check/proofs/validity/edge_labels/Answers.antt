use Rattle.std.proofs.Common.{◌≡◌, ◌∙◌, ℕ, List, ap, sym, subst, length, map}
use Rattle.std.specs.Prelude.{ℤ, None, Option, true}
use Rattle.std.proofs.lemmas.List.{length-map}
use Rattle.std.proofs.lemmas.Result.{err_from_is_err_and}
use Rattle.macro_file.specs.declared.text.MacroText.{MacroText}
use Rattle.macro_file.specs.declared.text.MacroElem.{MacroElem}
use Rattle.macro_file.specs.declared.text.MacroVertex.{MacroVertex}
use Rattle.mesh_names.specs.Triangles.{Triple}
use Rattle.compat_check.specs.Checks.{triples_of}
use Rattle.compat_check.specs.Faults.{IsFirst}
use Rattle.compat_check.specs.Paired.{Passes}
use Rattle.compat_check.specs.Passes.{IsNeighbourFault, IsValidityFault}
use Rattle.compat_check.specs.Tables.{AreMadeLabels, Differs}
use Rattle.compat_check.specs.declared.mesh.Side.{Side}
use Rattle.compat_check.proofs.Causes.{faultless, neighbour_cause, validity_cause}
use Rattle.compat_check.proofs.AskingNoGrades.{edge_labels_are, neighbours_ask, validity_asks}
use Rattle.compat_check.proofs.validity.edge_labels.Goals as goal

-- the triples of the text, of what was read of it
text_triples : (elements es : List MacroElem) (ts : List Triple) → es ≡ elements → ts ≡ map (λ (e : MacroElem). e.corners) es → ts ≡ map (λ (e : MacroElem). e.corners) elements
text_triples elements es ts e h = h ∙ ap (map (λ (e : MacroElem). e.corners)) e

passes_of_text : (text : MacroText) (vs : List MacroVertex) (ts : List Triple) (sides : List (Option Side)) → vs ≡ text.vertices.items → ts ≡ triples_of text → Passes vs ts sides → Passes text.vertices.items (triples_of text) sides
passes_of_text text vs ts sides v t h = subst (λ (y : List MacroVertex × List Triple). Passes y.0 y.1 sides) (λ i. (v i, t i)) h

made_at : (n m : ℕ) (sides ss : List (Option Side)) (labels : List (List ℤ)) → n ≡ m → ss ≡ sides → AreMadeLabels n ss labels → AreMadeLabels m sides labels
made_at n m sides ss labels e s h = subst (λ (y : ℕ × List (Option Side)). AreMadeLabels y.0 y.1 labels) (λ i. (e i, s i)) h

pub returns-in_err-sides-clause-refused : goal.returns-in_err-sides-clause-refused
returns-in_err-sides-clause-refused c =
    let p = err_from_is_err_and c.from_residual-in_err-sides.result c.from_residual-in_err-sides.ensures.1 in
    let text = c.args.text.now in
    let triples = c.deref-3.ensures.value ∙ text_triples text.elements.items c.deref.result.now c.in_ok-triples.triples.items c.deref.ensures.value c.in_ok-triples.ensures in
    let fault : IsValidityFault text.vertices.items (triples_of text) c.in_err-sides.field-0.0 =
    subst (λ (y : List MacroVertex × List Triple). IsValidityFault y.0 y.1 c.in_err-sides.field-0.0) (λ i. (c.deref-2.ensures.value i, triples i)) c.in_err-sides.ensures.refused in
    rw (p.1, p.2) (validity_asks text.vertices.items (triples_of text) c.in_err-sides.field-0.0 fault, validity_cause text c.in_err-sides.field-0.0 fault)

pub returns-in_err-check_neighbours-clause-refused : goal.returns-in_err-check_neighbours-clause-refused
returns-in_err-check_neighbours-clause-refused c =
    let p = err_from_is_err_and c.from_residual-in_err-check_neighbours.result c.from_residual-in_err-check_neighbours.ensures.1 in
    let text = c.args.text.now in
    let triples = c.deref-3.ensures.value ∙ text_triples text.elements.items c.deref.result.now c.in_ok-triples.triples.items c.deref.ensures.value c.in_ok-triples.ensures in
    let passes = passes_of_text text c.deref-2.result.now c.deref-3.result.now c.in_ok-sides.sides.items c.deref-2.ensures.value triples c.in_ok-sides.ensures.ok in
    let fault : IsNeighbourFault text.neighbours_given text.elements.items c.in_ok-sides.sides.items c.in_err-check_neighbours.field-0.0 =
    subst (λ (y : List MacroElem × List (Option Side)). IsNeighbourFault text.neighbours_given y.0 y.1 c.in_err-check_neighbours.field-0.0) (λ i. (c.deref-4.ensures.value i, c.deref-5.ensures.value i)) c.in_err-check_neighbours.ensures.refused in
    rw (p.1, p.2) (neighbours_ask text c.in_ok-sides.sides.items c.in_err-check_neighbours.field-0.0 fault, neighbour_cause text c.in_ok-sides.sides.items passes c.in_err-check_neighbours.field-0.0 fault)

pub returns-clause-ok : goal.returns-clause-ok
returns-clause-ok c =
    let text = c.args.text.now in
    let triples = c.deref-3.ensures.value ∙ text_triples text.elements.items c.deref.result.now c.in_ok-triples.triples.items c.deref.ensures.value c.in_ok-triples.ensures in
    let passes = passes_of_text text c.deref-2.result.now c.deref-3.result.now c.in_ok-sides.sides.items c.deref-2.ensures.value triples c.in_ok-sides.ensures.ok in
    faultless text c.in_ok-sides.sides.items passes
    (subst (λ (y : List MacroElem × List (Option Side)). text.neighbours_given ≡ true → IsFirst (length y.1) (Differs y.0 y.1) None) (λ i. (c.deref-4.ensures.value i, c.deref-5.ensures.value i)) c.in_ok-check_neighbours.ensures.ok)

pub returns-clause-labels : goal.returns-clause-labels
returns-clause-labels c =
    let text = c.args.text.now in
    let triples = c.deref-3.ensures.value ∙ text_triples text.elements.items c.deref.result.now c.in_ok-triples.triples.items c.deref.ensures.value c.in_ok-triples.ensures in
    let passes = passes_of_text text c.deref-2.result.now c.deref-3.result.now c.in_ok-sides.sides.items c.deref-2.ensures.value triples c.in_ok-sides.ensures.ok in
    let elements = c.deref-6.ensures.value in
    edge_labels_are text c.in_ok-sides.sides.items passes c.in_ok-labels.labels.items
    (λ given. c.in_ok-labels.ensures.given given ∙ ap (map (λ (e : MacroElem). e.labels)) elements)
    (λ none. made_at (length c.deref-6.result.now) (length (triples_of text)) c.in_ok-sides.sides.items c.deref-7.result.now c.in_ok-labels.labels.items
    (ap length elements ∙ sym (length-map text.elements.items (λ (e : MacroElem). e.corners))) c.deref-7.ensures.value (c.in_ok-labels.ensures.made none))
