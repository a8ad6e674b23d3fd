-- Coordinates with at most ten decimals.
use Rattle.std.proofs.Common.{◌≡◌, ℕ, ◌+◌, ◌*◌, ◌/◌, ◌%◌, ◌<◌, ◌≤◌, nat_eq, refl, sym, ap, subst, ◌∙◌, arith, ⊎_elim, eq-eqb, eqb-true, length, below_more}
use Rattle.std.specs.Prelude.{ℤ, nat_abs, IsTrue, ◌↔◌, Some, List, slice_get}
use Rattle.std.proofs.lemmas.Bool.{cases_lt}
use Rattle.std.proofs.lemmas.Option.{slice_get_past}
use Rattle.std.specs.Int.{w64}
use Rattle.std.proofs.lemmas.Int.{to_z-of_z}
use mir.Val.{to_z, of_z, SFits}
use Rattle.macro_file.specs.declared.text.MacroVertex.{MacroVertex}
use Rattle.compat_check.specs.Faults.{point_at, point_of}
use Rattle.compat_check.specs.Points.{AreTenths, IsMultiple, LiesOn}

multiple_by : (z : ℤ) (n : ℕ) → n ≡ nat_abs z → (IsTrue (nat_eq (n % 4096) 0) ↔ IsMultiple 4096 z)
multiple_by z n e = (λ h. let zero : n % 4096 ≡ 0 = eqb-true (n % 4096) 0 h in (n / 4096, omega (arith, e, zero)), λ k. let m = k.0 in let q : nat_abs z ≡ m * 4096 = k.1 in eq-eqb (n % 4096) 0 (omega (arith, e, q)))

pub multiple_answer : (z : ℤ) (n : ℕ) → SFits w64 z → n ≡ nat_abs (to_z w64 (of_z w64 z)) → (IsTrue (nat_eq (n % 4096) 0) ↔ IsMultiple 4096 z)
multiple_answer z n f e = multiple_by z n (e ∙ ap nat_abs (to_z-of_z w64 z f))

-- where a vertex lies that the mesh has
at_vertex : (vertices : List MacroVertex) (i : ℕ) (v : MacroVertex) → slice_get vertices i ≡ Some v → point_at vertices i ≡ (v.x, v.y)
at_vertex vertices i v e = ap point_of e

pub none_at : (vertices : List MacroVertex) (i : ℕ) (v : MacroVertex) → slice_get vertices i ≡ Some v → (LiesOn 4096 (v.x, v.y) → ⊥) → AreTenths vertices → ⊥
none_at vertices i v e none all = none (subst (LiesOn 4096) (at_vertex vertices i v e) (all i))

pub more_tenths : (vertices : List MacroVertex) (n : ℕ) (v : MacroVertex) → slice_get vertices n ≡ Some v → LiesOn 4096 (v.x, v.y) → ((i : ℕ) → i < n → LiesOn 4096 (point_at vertices i)) → (i : ℕ) → i < n + 1 → LiesOn 4096 (point_at vertices i)
more_tenths vertices n v e here before = below_more _ n before (subst (LiesOn 4096) (sym (at_vertex vertices n v e)) here)

pub all_tenths : (vertices : List MacroVertex) (n : ℕ) → length vertices ≤ n → ((i : ℕ) → i < n → LiesOn 4096 (point_at vertices i)) → AreTenths vertices
all_tenths vertices n h before i = ⊎_elim (λ less. before i less) (λ past. subst (LiesOn 4096) (sym (ap point_of (slice_get_past vertices i (omega (arith, h, past))))) ((0, refl), (0, refl))) (cases_lt i n)
