-- Entries that are added name by name.
use Rattle.std.proofs.Common.{◌≡◌, ℕ, ◌+◌, ◌<◌, ◌≤◌, List, [], ◌∷◌, ◌++◌, length, take, get_or, sym, ap, subst, ◌∙◌, arith, inl, inr, ⊎_elim}
use Rattle.std.specs.Prelude.{Result, Ok, Err, OnOk}
use Rattle.std.specs.List.{Contains}
use Rattle.std.specs.List.Sorted.{IsPermutation}
use Rattle.std.proofs.lemmas.Bool.{cases_lt}
use Rattle.std.proofs.lemmas.List.{take_more}
use Rattle.std.proofs.lemmas.List.Elements.{Contains-append_left, Contains-push, Contains-push_cases}
use Rattle.std.proofs.lemmas.List.Sorted.{Contains-permutation}
use Rattle.mesh_names.specs.Names.{Name}
use Rattle.compat_check.specs.Meshes.{Mesh}
use Rattle.compat_check.specs.Points.{Point}
use Rattle.locate_point.specs.declared.axis.Axis.{Axis}
use Rattle.locate_point.specs.Covering.{IsAround}
use Rattle.locate_point.specs.Grids.{AddsOnly, AreEntries, Entry, cell, cell_at}

pub adds_none : (name : Name) (es : List Entry) → AddsOnly name es es
adds_none name es = record { kept = λ e h. h; only = λ e h. inl h }

pub adds_more : (name : Name) (old mid new : List Entry) → AddsOnly name old mid → AddsOnly name mid new → AddsOnly name old new
adds_more name old mid new f g = record { kept = λ e h. g.kept e (f.kept e h); only = λ e h. ⊎_elim (λ i. f.only e i) (λ same. inr same) (g.only e h) }

pub adds_one : (name : Name) (mid new : List Entry) (c : ℕ) → new ≡ mid ++ (c, name) ∷ [] → AddsOnly name mid new
adds_one name mid new c e = record {
  kept = λ x h. subst (λ ys. Contains ys x) (sym e) (Contains-append_left mid ((c, name) ∷ []) x h);
  only = λ x h. ⊎_elim (λ i. inl i) (λ (same : (c, name) ≡ x). inr (ap (λ (y : Entry). y.1) (sym same))) (Contains-push_cases mid (c, name) x (subst (λ ys. Contains ys x) e h));
}

-- one column more
pub column_more : (name : Name) (start from column : ℕ) (mid new : List Entry) → new ≡ mid ++ (start + column, name) ∷ [] → ((k : ℕ) → from ≤ k → k < column → Contains mid (start + k, name)) → (k : ℕ) → from ≤ k → k < column + 1 → Contains new (start + k, name)
column_more name start from column mid new e before k low high = ⊎_elim
    (λ (early : k < column). subst (λ ys. Contains ys (start + k, name)) (sym e) (Contains-append_left mid ((start + column, name) ∷ []) (start + k, name) (before k low early)))
    (λ (late : column ≤ k). let same : column ≡ k = omega (arith, high, late) in subst (λ j. Contains new (start + j, name)) same (subst (λ ys. Contains ys (start + column, name)) (sym e) (Contains-push mid (start + column, name))))
    (cases_lt k column)

-- one row more
pub row_more : (name : Name) (columns : Axis) (first row left right : ℕ) (mid new : List Entry) → AddsOnly name mid new → ((k : ℕ) → left ≤ k → k ≤ right → Contains new (cell_at columns row k, name)) →
    ((r k : ℕ) → first ≤ r → r < row → left ≤ k → k ≤ right → Contains mid (cell_at columns r k, name)) → (r k : ℕ) → first ≤ r → r < row + 1 → left ≤ k → k ≤ right → Contains new (cell_at columns r k, name)
row_more name columns first row left right mid new adds here before r k f h l g = ⊎_elim
    (λ (early : r < row). adds.kept (cell_at columns r k, name) (before r k f early l g))
    (λ (late : row ≤ r). let same : row ≡ r = omega (arith, h, late) in subst (λ j. Contains new (cell_at columns j k, name)) same (here k l g))
    (cases_lt r row)

pub ok_then : {X E : Type 0} (r : Result X E) (P Q : Type 0) → OnOk r P → (P → Q) → OnOk r Q
ok_then (Ok x) P Q h f = f h
ok_then (Err e) P Q h f = h

-- one name more
pub name_more : (mesh : Mesh) (columns rows : Axis) (names : List Name) (i : ℕ) (name : Name) (mid new : List Entry) → i < length names → name ≡ get_or names i name → AreEntries mesh columns rows (take i names) mid → AddsOnly name mid new →
    ((p : Point) → IsAround mesh p name → Contains new (cell columns rows p, name)) → AreEntries mesh columns rows (take (i + 1) names) new
name_more mesh columns rows names i name mid new inside at before adds here =
    let more : take (i + 1) names ≡ take i names ++ name ∷ [] = take_more names i name inside ∙ ap (λ n. take i names ++ n ∷ []) (sym at) in
    record {
      named = λ e h. subst (λ ns. Contains ns e.1) (sym more)
          (⊎_elim (λ (old : Contains mid e). Contains-append_left (take i names) (name ∷ []) e.1 (before.named e old)) (λ (same : e.1 ≡ name). subst (λ n. Contains (take i names ++ name ∷ []) n) (sym same) (Contains-push (take i names) name)) (adds.only e h));
      complete = λ p m there around. ⊎_elim
          (λ (old : Contains (take i names) m). adds.kept (cell columns rows p, m) (before.complete p m old around))
          (λ (same : name ≡ m). subst (λ n. Contains new (cell columns rows p, n)) same (here p (subst (IsAround mesh p) (sym same) around)))
          (Contains-push_cases (take i names) name m (subst (λ ns. Contains ns m) more there));
    }

pub no_names : (mesh : Mesh) (columns rows : Axis) (names : List Name) (es : List Entry) → length es ≡ 0 → AreEntries mesh columns rows (take 0 names) es
no_names mesh columns rows names es e = record { named = λ x h. absurd (omega (arith, e, h.1)); complete = λ p m h around. absurd (omega (arith, h.1)) }

-- entries in another order
pub reordered : (mesh : Mesh) (columns rows : Axis) (names : List Name) (es fs : List Entry) → IsPermutation es fs → IsPermutation fs es → AreEntries mesh columns rows names es → AreEntries mesh columns rows names fs
reordered mesh columns rows names es fs there back are = record {
  named = λ e h. are.named e (Contains-permutation fs es e back h);
  complete = λ p m h around. Contains-permutation es fs (cell columns rows p, m) there (are.complete p m h around);
}
