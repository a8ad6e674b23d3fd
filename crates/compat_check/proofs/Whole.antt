-- The mesh that the check makes, as a whole.
use Rattle.std.proofs.Common.{◌≡◌, ℕ, zero, suc, ◌+◌, ◌*◌, ◌^◌, ◌<◌, ◌≤◌, Bool, true, false, List, [], length, map, refl, sym, ap, ◌∙◌, subst, arith}
use Rattle.std.specs.Prelude.{ℤ, pos, Option, Some, None, slice_index_or}
use Rattle.std.proofs.lemmas.List.{length-map}
use Rattle.std.specs.List.{All}
use Rattle.std.proofs.lemmas.List.Elements.{All-map}
use Rattle.macro_file.specs.Limits.{AtMost}
use Rattle.macro_file.specs.declared.text.MacroVertex.{MacroVertex}
use Rattle.macro_file.specs.declared.text.MacroElem.{MacroElem}
use Rattle.mesh_names.specs.Triangles.{Triple, Shape, corner_of}
use Rattle.mesh_names.specs.Validity.{ValidTells, IsCompatible, across_of}
use Rattle.compat_check.specs.Meshes.{edge_of}
use Rattle.compat_check.specs.Sides.{IsStored, side_told}
use Rattle.compat_check.specs.Faults.{triple_in}
use Rattle.compat_check.specs.Paired.{Passes}
use Rattle.compat_check.specs.Grading.{AreGrades, rules_before}
use Rattle.compat_check.specs.Tables.{AreMadeLabels, label_by}
use Rattle.compat_check.specs.Checks.{made_label}
use Rattle.compat_check.specs.declared.mesh.Side.{Side}
use Rattle.compat_check.proofs.Areas.{corners_inside}
use Rattle.compat_check.proofs.Numbers.{number_back}
use Rattle.compat_check.proofs.Graded.{compatible_is, grades_of, told_of}

-- one of the two, whatever the test
pub either : (P : Type 0) (b : Bool) → (b ≡ true → P) → (b ≡ false → P) → P
either P true p q = p refl
either P false p q = q refl

one_corner : (t : Triple) (n k : ℕ) → (corner_of t 0 < n) × (corner_of t 1 < n) × (corner_of t 2 < n) → k < 3 → corner_of t k < n
one_corner t n zero h l = h.0
one_corner t n (suc zero) h l = h.1
one_corner t n (suc (suc zero)) h l = h.2
one_corner t n (suc (suc (suc k))) h l = absurd (omega arith)

label_is : (o : Option Side) → label_by o ≡ made_label (side_told o)
label_is None = refl
label_is (Some s) = refl

-- what the passes have shown
pub record Shown (vertices : List MacroVertex) (triples : List Triple) (grades : List ℕ) (sides : List (Option Side)) : Type 0 where
  pub passes : Passes vertices triples sides
  pub grades_are : AreGrades (length triples) (rules_before sides (length triples * 3)) grades
  pub low : (r : ℕ) → r < length triples → slice_index_or grades r 0 ≤ 24

pub compatible_of : (vertices : List MacroVertex) (triples : List Triple) (grades : List ℕ) (sides : List (Option Side)) → Shown vertices triples grades sides → IsCompatible (record { triples = triples; grades = grades })
compatible_of vertices triples grades sides shown = compatible_is triples grades (grades_of triples grades sides (told_of vertices triples sides grades shown.passes) shown.grades_are) shown.low

pub stored_of : (vertices : List MacroVertex) (triples : List Triple) (grades : List ℕ) (labels : List (List ℤ)) (values : List ℤ) (sides : List (Option Side)) → ValidTells → Shown vertices triples grades sides → length vertices ≤ 65535 → 0 < length triples → length triples ≤ 65535 → length labels ≡ length triples → length values ≡ length triples → All (AtMost (2 ^ 55)) values →
    IsStored (record { vertices = vertices; shape = record { triples = triples; grades = grades }; labels = labels; values = values }) sides
stored_of vertices triples grades labels values sides law shown few_vertices some few each_label each_value sized =
    let mesh : Shape = record { triples = triples; grades = grades } in
    let table = told_of vertices triples sides grades shown.passes in
    let compatible = compatible_of vertices triples grades sides shown in
    record {
      checked = record {
        valid = table.valid;
        graded = compatible.graded;
        tells = law mesh table.valid compatible.graded;
        low = shown.low;
        some = some;
        few = few;
        few_vertices = few_vertices;
        corners = λ r k hr hk. one_corner (triple_in triples r) (length vertices) k (corners_inside (length vertices) (triple_in triples r) (shown.passes.sound.inside r hr)) hk;
      };
      each = shown.grades_are.each;
      three = table.each;
      labels = each_label;
      values = each_value;
      sized = sized;
      told = table.told;
    }

pub labels_made : (vertices : List MacroVertex) (triples : List Triple) (grades : List ℕ) (sides : List (Option Side)) → Passes vertices triples sides → (labels : List (List ℤ)) → AreMadeLabels (length triples) sides labels → (r k : ℕ) → r < length triples → k < 3 →
    slice_index_or (slice_index_or labels r []) k (pos 0) ≡ made_label (across_of (record { triples = triples; grades = grades }) r (edge_of k))
labels_made vertices triples grades sides passes labels made r k hr hk =
    made.made r k hr hk ∙ label_is (slice_index_or sides (r * 3 + k) None) ∙ ap (λ (y : ℕ). made_label (side_told (slice_index_or sides (r * 3 + y) None))) (sym (number_back k hk)) ∙ ap made_label ((told_of vertices triples sides grades passes).told r (edge_of k) hr)

pub length_of_map : (elements : List MacroElem) (B : Type 0) (f : MacroElem → B) (ys : List B) → ys ≡ map f elements → length ys ≡ length elements
length_of_map elements B f ys e = ap length e ∙ length-map elements f

-- the values of a macro text's elements are within their range
pub sized_values : (elements : List MacroElem) (values : List ℤ) → values ≡ map (λ (e : MacroElem). e.value) elements → All (AtMost (2 ^ 55)) values
sized_values elements values is = subst (All (AtMost (2 ^ 55))) (sym is) (All-map (AtMost (2 ^ 55)) (λ (e : MacroElem). e.value) elements (λ k e within. (slice_index_or elements k e).value_in_range))
