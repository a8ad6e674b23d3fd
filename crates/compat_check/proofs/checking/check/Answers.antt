use Rattle.std.proofs.Common.{◌≡◌, ◌*◌, ◌<◌, ◌≤◌, ◌∙◌, ℕ, List, [], ap, sym, subst, arith, length, map, refl}
use Rattle.std.specs.Prelude.{ℤ, None, Option, slice_index_or, true}
use Rattle.std.proofs.lemmas.Result.{err_from_is_err_and}
use Rattle.macro_file.specs.declared.text.MacroText.{MacroText}
use Rattle.compat_check.specs.Faults.{IsFirst}
use Rattle.compat_check.specs.Checks.{triples_of}
use Rattle.compat_check.specs.Passes.{IsGradeFault, IsNeighbourFault, IsValidityFault}
use Rattle.compat_check.proofs.Causes.{faultless, grade_cause, neighbour_cause, no_cause, validity_cause}
use Rattle.macro_file.specs.declared.text.MacroElem.{MacroElem}
use Rattle.macro_file.specs.declared.text.MacroVertex.{MacroVertex}
use Rattle.mesh_names.specs.Triangles.{Triple}
use Rattle.compat_check.specs.Paired.{Passes}
use Rattle.compat_check.specs.Parts.{InRange}
use Rattle.compat_check.specs.Grading.{AreGrades, rules_before}
use Rattle.compat_check.specs.Tables.{AreMadeLabels, Differs}
use Rattle.compat_check.specs.declared.mesh.Side.{Side}
use Rattle.compat_check.proofs.Graded.{told_of, rules_in}
use Rattle.compat_check.proofs.Whole.{Shown, either, compatible_of, stored_of, labels_made, length_of_map, sized_values}
use Rattle.compat_check.proofs.checking.check.Goals as goal

-- the facts of the passes, of the lists that the mesh keeps
passes_at : (vs vertices : List MacroVertex) (ts triples : List Triple) (sides : List (Option Side)) → vs ≡ vertices → ts ≡ triples → Passes vs ts sides → Passes vertices triples sides
passes_at vs vertices ts triples sides v t h = subst (λ (y : List MacroVertex × List Triple). Passes y.0 y.1 sides) (λ i. (v i, t i)) h

rules_at : (vertices : List MacroVertex) (triples : List Triple) (sides ss : List (Option Side)) (count : ℕ) → Passes vertices triples sides → ss ≡ sides → count ≡ length triples → InRange count (rules_before ss (length ss))
rules_at vertices triples sides ss count passes s n =
    let table = told_of vertices triples sides [] passes in
    let places : length ss ≡ length triples * 3 = ap length s ∙ table.each in
    subst (λ (y : ℕ × List (Option Side) × ℕ). InRange y.0 (rules_before y.1 y.2)) (λ i. (sym n i, sym s i, sym places i)) (rules_in _ sides table (length triples * 3) (omega arith))

shown_at : (vertices : List MacroVertex) (triples : List Triple) (sides ss : List (Option Side)) (grades : List ℕ) (count : ℕ) → Passes vertices triples sides → ss ≡ sides → count ≡ length triples →
    AreGrades count (rules_before ss (length ss)) grades → ((r : ℕ) → r < count → slice_index_or grades r 0 ≤ 24) → Shown vertices triples grades sides
shown_at vertices triples sides ss grades count passes s n are low =
    let places : length ss ≡ length triples * 3 = ap length s ∙ passes.table.sides_are.each in
    record {
      passes = passes;
      grades_are = subst (λ (y : ℕ × List (Option Side) × ℕ). AreGrades y.0 (rules_before y.1 y.2) grades) (λ i. (n i, s i, places i)) are;
      low = λ r hr. low r (omega (arith, n));
    }

made_at : (n m : ℕ) (sides ss : List (Option Side)) (labels : List (List ℤ)) → n ≡ m → ss ≡ sides → AreMadeLabels n ss labels → AreMadeLabels m sides labels
made_at n m sides ss labels e s h = subst (λ (y : ℕ × List (Option Side)). AreMadeLabels y.0 y.1 labels) (λ i. (e i, s i)) h

pub check_grades-requires-clause-rules : goal.check_grades-requires-clause-rules
check_grades-requires-clause-rules c =
    let passes = passes_at c.deref-2.result.now c.args.text.vertices.items c.deref-3.result.now c.in_ok-triples.triples.items c.in_ok-sides.sides.items c.deref-2.ensures.value c.deref-3.ensures.value c.in_ok-sides.ensures.ok in
    let count : c.len.result ≡ length c.in_ok-triples.triples.items = omega (arith, c.len.ensures) in
    rules_at c.args.text.vertices.items c.in_ok-triples.triples.items c.in_ok-sides.sides.items c.deref-6.result.now c.len.result passes c.deref-6.ensures.value count

pub invariant_of-result : goal.invariant_of-result
invariant_of-result c =
    let passes = passes_at c.deref-2.result.now c.args.text.vertices.items c.deref-3.result.now c.in_ok-triples.triples.items c.in_ok-sides.sides.items c.deref-2.ensures.value c.deref-3.ensures.value c.in_ok-sides.ensures.ok in
    let count : c.len.result ≡ length c.in_ok-triples.triples.items = omega (arith, c.len.ensures) in
    let shown = shown_at c.args.text.vertices.items c.in_ok-triples.triples.items c.in_ok-sides.sides.items c.deref-6.result.now c.in_ok-grades.grades.items c.len.result passes c.deref-6.ensures.value count c.in_ok-grades.ensures.ok.0 c.in_ok-grades.ensures.ok.1 in
    let elements = c.args.text.elements.items in
    let each : length c.in_ok-triples.triples.items ≡ length elements = length_of_map elements (List ℕ) (λ e. e.corners) c.in_ok-triples.triples.items (c.in_ok-triples.ensures ∙ ap (map (λ (e : MacroElem). e.corners)) c.deref.ensures.value) in
    let each_label : length c.in_ok-labels.labels.items ≡ length elements = either (length c.in_ok-labels.labels.items ≡ length elements) c.args.text.labels_given
    (λ given. length_of_map elements (List ℤ) (λ e. e.labels) c.in_ok-labels.labels.items (c.in_ok-labels.ensures.given given ∙ ap (map (λ (e : MacroElem). e.labels)) c.deref-7.ensures.value))
    (λ made. (c.in_ok-labels.ensures.made made).each ∙ ap length c.deref-7.ensures.value) in
    let each_value : length c.in_ok-values.values.items ≡ length elements = length_of_map elements ℤ (λ e. e.value) c.in_ok-values.values.items (c.in_ok-values.ensures ∙ ap (map (λ (e : MacroElem). e.value)) c.deref-9.ensures.value) in
    stored_of c.args.text.vertices.items c.in_ok-triples.triples.items c.in_ok-grades.grades.items c.in_ok-labels.labels.items c.in_ok-values.values.items c.in_ok-sides.sides.items c.valid_tells.ensures shown
    (omega (arith, c.args.text.some_vertices.1)) (omega (arith, each, c.args.text.some_elements.0)) (omega (arith, each, c.args.text.some_elements.1)) (each_label ∙ sym each) (each_value ∙ sym each) (sized_values c.deref-9.result.now c.in_ok-values.values.items c.in_ok-values.ensures)

pub returns-clause-ok : goal.returns-clause-ok
returns-clause-ok c =
    let passes = passes_at c.deref-2.result.now c.args.text.vertices.items c.deref-3.result.now c.in_ok-triples.triples.items c.in_ok-sides.sides.items c.deref-2.ensures.value c.deref-3.ensures.value c.in_ok-sides.ensures.ok in
    let count : c.len.result ≡ length c.in_ok-triples.triples.items = omega (arith, c.len.ensures) in
    let shown = shown_at c.args.text.vertices.items c.in_ok-triples.triples.items c.in_ok-sides.sides.items c.deref-6.result.now c.in_ok-grades.grades.items c.len.result passes c.deref-6.ensures.value count c.in_ok-grades.ensures.ok.0 c.in_ok-grades.ensures.ok.1 in
    let elements = c.args.text.elements.items in
    let triples = c.in_ok-triples.ensures ∙ ap (map (λ (e : MacroElem). e.corners)) c.deref.ensures.value in
    let each : length c.in_ok-triples.triples.items ≡ length elements = length_of_map elements (List ℕ) (λ e. e.corners) c.in_ok-triples.triples.items triples in
    let compatible = compatible_of c.args.text.vertices.items c.in_ok-triples.triples.items c.in_ok-grades.grades.items c.in_ok-sides.sides.items shown in
    record {
      vertices = refl;
      triples = triples;
      values = c.in_ok-values.ensures ∙ ap (map (λ (e : MacroElem). e.value)) c.deref-9.ensures.value;
      given = λ given. c.in_ok-labels.ensures.given given ∙ ap (map (λ (e : MacroElem). e.labels)) c.deref-7.ensures.value;
      made = λ made.
          let are = made_at (length c.deref-7.result.now) (length c.in_ok-triples.triples.items) c.in_ok-sides.sides.items c.deref-8.result.now c.in_ok-labels.labels.items (ap length c.deref-7.ensures.value ∙ sym each) c.deref-8.ensures.value (c.in_ok-labels.ensures.made made) in
          (are.each, labels_made c.args.text.vertices.items c.in_ok-triples.triples.items c.in_ok-grades.grades.items c.in_ok-sides.sides.items passes c.in_ok-labels.labels.items are);
      valid = (told_of c.args.text.vertices.items c.in_ok-triples.triples.items c.in_ok-sides.sides.items c.in_ok-grades.grades.items passes).valid;
      compatible = compatible;
    }

-- the facts of the passes, of the text itself
text_triples : (elements es : List MacroElem) (ts : List Triple) → es ≡ elements → ts ≡ map (λ (e : MacroElem). e.corners) es → ts ≡ map (λ (e : MacroElem). e.corners) elements
text_triples elements es ts e h = h ∙ ap (map (λ (e : MacroElem). e.corners)) e

passes_of_text : (text : MacroText) (vs : List MacroVertex) (ts : List Triple) (sides : List (Option Side)) → vs ≡ text.vertices.items → ts ≡ triples_of text → Passes vs ts sides → Passes text.vertices.items (triples_of text) sides
passes_of_text text vs ts sides v t h = passes_at vs text.vertices.items ts (triples_of text) sides v t h

pub returns-in_err-sides-clause-refused : goal.returns-in_err-sides-clause-refused
returns-in_err-sides-clause-refused c =
    let p = err_from_is_err_and c.from_residual-in_err-sides.result c.from_residual-in_err-sides.ensures.1 in
    let text = c.args.text in
    let triples = c.deref-3.ensures.value ∙ text_triples text.elements.items c.deref.result.now c.in_ok-triples.triples.items c.deref.ensures.value c.in_ok-triples.ensures in
    rw (p.1, p.2) (validity_cause text c.in_err-sides.field-0.0
    (subst (λ (y : List MacroVertex × List Triple). IsValidityFault y.0 y.1 c.in_err-sides.field-0.0) (λ i. (c.deref-2.ensures.value i, triples i)) c.in_err-sides.ensures.refused))

pub returns-in_err-check_neighbours-clause-refused : goal.returns-in_err-check_neighbours-clause-refused
returns-in_err-check_neighbours-clause-refused c =
    let p = err_from_is_err_and c.from_residual-in_err-check_neighbours.result c.from_residual-in_err-check_neighbours.ensures.1 in
    let text = c.args.text in
    let triples = c.deref-3.ensures.value ∙ text_triples text.elements.items c.deref.result.now c.in_ok-triples.triples.items c.deref.ensures.value c.in_ok-triples.ensures in
    let passes = passes_of_text text c.deref-2.result.now c.deref-3.result.now c.in_ok-sides.sides.items c.deref-2.ensures.value triples c.in_ok-sides.ensures.ok in
    rw (p.1, p.2) (neighbour_cause text c.in_ok-sides.sides.items passes c.in_err-check_neighbours.field-0.0
    (subst (λ (y : List MacroElem × List (Option Side)). IsNeighbourFault text.neighbours_given y.0 y.1 c.in_err-check_neighbours.field-0.0) (λ i. (c.deref-4.ensures.value i, c.deref-5.ensures.value i)) c.in_err-check_neighbours.ensures.refused))

pub returns-in_err-grades-clause-refused : goal.returns-in_err-grades-clause-refused
returns-in_err-grades-clause-refused c =
    let p = err_from_is_err_and c.from_residual-in_err-grades.result c.from_residual-in_err-grades.ensures.1 in
    let text = c.args.text in
    let triples = c.deref-3.ensures.value ∙ text_triples text.elements.items c.deref.result.now c.in_ok-triples.triples.items c.deref.ensures.value c.in_ok-triples.ensures in
    let passes = passes_of_text text c.deref-2.result.now c.deref-3.result.now c.in_ok-sides.sides.items c.deref-2.ensures.value triples c.in_ok-sides.ensures.ok in
    let none : text.neighbours_given ≡ true → IsFirst (length c.in_ok-sides.sides.items) (Differs text.elements.items c.in_ok-sides.sides.items) None =
    subst (λ (y : List MacroElem × List (Option Side)). text.neighbours_given ≡ true → IsFirst (length y.1) (Differs y.0 y.1) None) (λ i. (c.deref-4.ensures.value i, c.deref-5.ensures.value i)) c.in_ok-check_neighbours.ensures.ok in
    let counted : c.len.result ≡ length c.in_ok-triples.triples.items = omega (arith, c.len.ensures) in
    let count = counted ∙ ap length (text_triples text.elements.items c.deref.result.now c.in_ok-triples.triples.items c.deref.ensures.value c.in_ok-triples.ensures) in
    rw (p.1, p.2) (grade_cause text c.in_ok-sides.sides.items passes (faultless text c.in_ok-sides.sides.items passes none) c.in_err-grades.field-0.0
    (subst (λ (y : ℕ × List (Option Side)). IsGradeFault y.0 y.1 c.in_err-grades.field-0.0) (λ i. (count i, c.deref-6.ensures.value i)) c.in_err-grades.ensures.refused))

pub returns-clause-faultless : goal.returns-clause-faultless
returns-clause-faultless c =
    let text = c.args.text in
    let sides = c.in_ok-sides.sides.items in
    let own = text_triples text.elements.items c.deref.result.now c.in_ok-triples.triples.items c.deref.ensures.value c.in_ok-triples.ensures in
    let triples = c.deref-3.ensures.value ∙ own in
    let passes = passes_of_text text c.deref-2.result.now c.deref-3.result.now sides c.deref-2.ensures.value triples c.in_ok-sides.ensures.ok in
    let none : text.neighbours_given ≡ true → IsFirst (length sides) (Differs text.elements.items sides) None =
    subst (λ (y : List MacroElem × List (Option Side)). text.neighbours_given ≡ true → IsFirst (length y.1) (Differs y.0 y.1) None) (λ i. (c.deref-4.ensures.value i, c.deref-5.ensures.value i)) c.in_ok-check_neighbours.ensures.ok in
    let counted : c.len.result ≡ length c.in_ok-triples.triples.items = omega (arith, c.len.ensures) in
    let shown = shown_at text.vertices.items (triples_of text) sides c.deref-6.result.now c.in_ok-grades.grades.items c.len.result passes c.deref-6.ensures.value (counted ∙ ap length own) c.in_ok-grades.ensures.ok.0 c.in_ok-grades.ensures.ok.1 in
    no_cause text sides c.in_ok-grades.grades.items passes (faultless text sides passes none) shown.grades_are shown.low
