-- Faults that are counted, and listed calls that are over.
use Rattle.std.proofs.Common.{◌≡◌, ℕ, ◌+◌, ◌-◌, ◌^◌, ◌<◌, ◌≤◌, inl, inr, min, Bool, true, false, cond, eqb, ltb, List, [], ◌∷◌, Option, Some, None, ⊎_elim, refl, ap, sym, subst, ◌∙◌, arith}
use Rattle.std.specs.List.{list_any, list_all}
use Rattle.std.proofs.lemmas.Bool.{cases_lt}
use Rattle.std.proofs.lemmas.Bool.Decides.{nat_tests}
use Rattle.mesh_io.specs.Faults.{Rose, Plan, is_listed, all_before, number_after, is_over, fails_next, after_call}

-- one more fault
rose_by_one : (count : ℕ) → count < 2 ^ 64 → Rose count (min (count + 1) (2 ^ 64 - 1))
rose_by_one count fits = ⊎_elim (λ below. inl (omega arith)) (λ above. inr (omega arith)) (cases_lt count (2 ^ 64 - 1))

all_before_next : (listed : List ℕ) (number : ℕ) → list_all (λ call. ltb call number) listed ≡ true → list_all (λ call. ltb call (number + 1)) listed ≡ true
all_before_next [] number before = refl
all_before_next (call ∷ calls) number before = grind (arith, nat_tests, all_before_next calls number)

all_before_after : (listed : List ℕ) (next : Option ℕ) → all_before listed next ≡ true → all_before listed (number_after next) ≡ true
all_before_after listed None before = refl
all_before_after listed (Some number) before = by (ltb (number + 1) (2 ^ 64))
  where
    by : (b : Bool) → all_before listed (cond b (Some (number + 1)) None) ≡ true
    by true = all_before_next listed number before
    by false = refl

-- what was before a number is before the next
over_after : (failed : Bool) (plan : Plan) → is_over plan ≡ true → is_over (after_call failed plan) ≡ true
over_after failed plan over = all_before_after plan.listed plan.next over

not_among : (listed : List ℕ) (number : ℕ) → list_all (λ call. ltb call number) listed ≡ true → list_any (λ call. eqb call number) listed ≡ false
not_among [] number before = refl
not_among (call ∷ calls) number before = grind (arith, nat_tests, not_among calls number)

not_listed : (listed : List ℕ) (next : Option ℕ) → all_before listed next ≡ true → is_listed listed next ≡ false
not_listed listed None before = refl
not_listed listed (Some number) before = not_among listed number before

-- then the next call does not fail
pub over_fails_not : (plan : Plan) → is_over plan ≡ true → fails_next plan ≡ false
over_fails_not plan over = not_listed plan.listed plan.next over

-- what a failed call does to the count of faults
pub failed_call : (old given now : Plan) (failed : Bool) → given ≡ old → now ≡ after_call failed given → failed ≡ true → given.faults < 2 ^ 64 → (old.faults ≤ now.faults) × Rose old.faults now.faults
failed_call old given now failed same counted fails fits =
    let more : now.faults ≡ min (old.faults + 1) (2 ^ 64 - 1) = ap (λ (p : Plan). p.faults) (counted ∙ (λ i. after_call (fails i) (same i))) in
    let small : old.faults < 2 ^ 64 = subst (λ (p : Plan). p.faults < 2 ^ 64) same fits in
    (omega (arith, more, small), subst (λ n. Rose old.faults n) (sym more) (rose_by_one old.faults small))

-- once no listed call is to come, none comes after one more call
pub stays_over : (old given now : Plan) (failed : Bool) → given ≡ old → now ≡ after_call failed given → is_over old ≡ true → is_over now ≡ true
stays_over old given now failed same counted over = ap is_over (counted ∙ ap (after_call failed) same) ∙ over_after failed old over
