-- A slot more in an order, and slots as vertices.
use Rattle.std.proofs.Common.{◌≡◌, ℕ, zero, suc, ◌+◌, ◌<◌, ◌≤◌, Bool, true, false, cond, eqb, refl, sym, ap, subst, ◌∙◌, List, [], ◌∷◌, ◌++◌, length, get_or, set, take, arith, ⊎_elim, eq-eqb, ne_eqb, take-suc, true≢false}
use Rattle.std.proofs.lemmas.Bool.{cases_eq}
use Rattle.std.proofs.lemmas.List.{get_or_default, length-append, length-set}
use Rattle.std.proofs.lemmas.Grind.{get_or-set_at}
use Rattle.std.specs.Prelude.{Option, Some, None}
use Rattle.std.specs.Option.{is_some, option_map}
use Rattle.mesh_writer.specs.Orders.{first_slots, place_in, slots_of, with_slots}
use Rattle.mesh_writer.specs.Owners.{first_of}
use Rattle.mesh_writer.specs.Slots.{slot_at}

pub in-push : (s : ℕ) (us : List ℕ) (u : ℕ) → place_in s (us ++ u ∷ []) ≡ first_of (place_in s us) (cond (eqb s u) (Some (length us)) None)
in-push s [] u = either (eqb s u)
  where
    either : (b : Bool) → cond b (Some 0) (option_map (λ k. k + 1) None) ≡ cond b (Some 0) None
    either true = refl
    either false = refl
in-push s (w ∷ us) u = ap (λ (o : Option ℕ). cond (eqb s w) (Some 0) (option_map (λ k. k + 1) o)) (in-push s us u) ∙ either (eqb s w) (place_in s us) (eqb s u)
  where
    either : (b : Bool) (o : Option ℕ) (c : Bool) →
        cond b (Some 0) (option_map (λ k. k + 1) (first_of o (cond c (Some (length us)) None))) ≡ first_of (cond b (Some 0) (option_map (λ k. k + 1) o)) (cond c (Some (length (w ∷ us))) None)
    either true o c = refl
    either false (Some k) c = refl
    either false None true = ap Some (omega arith)
    either false None false = refl

over_none : (o : Option ℕ) → first_of o None ≡ o
over_none (Some k) = refl
over_none None = refl

-- a slot that has no number is added
pub slot_added : (numbers : List (Option ℕ)) (slots news : List ℕ) (slot k : ℕ) → ((s : ℕ) → s < length numbers → get_or numbers s None ≡ place_in s slots) → slot < length numbers → get_or numbers slot None ≡ None → news ≡ slots ++ slot ∷ [] → k ≡ length slots →
    (s : ℕ) → s < length (set numbers slot (Some k)) → get_or (set numbers slot (Some k)) s None ≡ place_in s news
slot_added numbers slots news slot k order inside none is count s low =
    ⊎_elim
    (λ (e : s ≡ slot). get_or-set_at numbers slot s (Some k) None e inside ∙ ap Some count ∙ sym ((λ i. first_of (missing (sym e) i) (cond (eq-eqb s slot e i) (Some (length slots)) None))) ∙ sym (ap (place_in s) is ∙ in-push s slots slot))
    (λ (ne : s ≡ slot → ⊥). other numbers slot s ne ∙ order s (omega (arith, low, length-set numbers slot (Some k))) ∙ sym (over_none (place_in s slots)) ∙ sym (λ i. first_of (place_in s slots) (cond (ne_eqb s slot ne i) (Some (length slots)) None)) ∙ sym (ap (place_in s) is ∙ in-push s slots slot))
    (cases_eq s slot)
  where
    missing : slot ≡ s → place_in s slots ≡ None
    missing e = subst (λ (q : ℕ). place_in q slots ≡ None) e (sym (order slot inside) ∙ none)

    other : (xs : List (Option ℕ)) (i j : ℕ) → (j ≡ i → ⊥) → get_or (set xs i (Some k)) j None ≡ get_or xs j None
    other [] i j ne = refl
    other (x ∷ xs) zero zero ne = absurd (ne refl)
    other (x ∷ xs) zero (suc j) ne = refl
    other (x ∷ xs) (suc i) zero ne = refl
    other (x ∷ xs) (suc i) (suc j) ne = other xs i j (λ e. ne (ap suc e))

pub with_known : (seen : List ℕ) (s : ℕ) → is_some (place_in s seen) ≡ true → seen ≡ with_slots seen (s ∷ [])
with_known seen s h = sym (ap (λ (b : Bool). cond b seen (seen ++ s ∷ [])) h)

pub with_more : (seen : List ℕ) (s : ℕ) → place_in s seen ≡ None → seen ++ s ∷ [] ≡ with_slots seen (s ∷ [])
with_more seen s h = sym (ap (λ (b : Bool). cond b seen (seen ++ s ∷ [])) (ap is_some h))

first_count : (count : ℕ) → length (first_slots count) ≡ count
first_count zero = refl
first_count (suc k) = length-append (first_slots k) (k ∷ []) ∙ omega (arith, first_count k)

first_none : (i count : ℕ) → count ≤ i → place_in i (first_slots count) ≡ None
first_none i zero h = refl
first_none i (suc k) h = in-push i (first_slots k) k ∙ (λ j. first_of (first_none i k (omega arith) j) (cond (ne_eqb i k (λ e. omega arith) j) (Some (length (first_slots k))) None))

pub next_first : (seen new : List ℕ) (k : ℕ) → seen ≡ first_slots k → new ≡ with_slots seen (k ∷ []) → new ≡ first_slots (k + 1)
next_first seen new k is more = more ∙ ap (λ (l : List ℕ). with_slots l (k ∷ [])) is ∙ sym (with_more (first_slots k) k (first_none k k (omega arith))) ∙ ap first_slots one
  where
    one : suc k ≡ k + 1
    one = omega arith

with-append : (seen us vs : List ℕ) → with_slots seen (us ++ vs) ≡ with_slots (with_slots seen us) vs
with-append seen [] vs = refl
with-append seen (u ∷ us) vs = with-append (cond (is_some (place_in u seen)) seen (seen ++ u ∷ [])) us vs

slots-append : (ts us : List (List ℕ)) → slots_of (ts ++ us) ≡ slots_of ts ++ slots_of us
slots-append [] us = refl
slots-append (t ∷ ts) us = ap (λ (l : List ℕ). slot_at t 0 ∷ slot_at t 1 ∷ slot_at t 2 ∷ l) (slots-append ts us)

-- the corners of one leaf more
pub next_three : (first : List ℕ) (corners : List (List ℕ)) (i : ℕ) (t d : List ℕ) (seen new : List ℕ) → i < length corners → t ≡ get_or corners i d → seen ≡ with_slots first (slots_of (take i corners)) → new ≡ with_slots seen (slots_of (t ∷ [])) → new ≡ with_slots first (slots_of (take (i + 1) corners))
next_three first corners i t d seen new low is before more =
    let after : i + 1 ≡ suc i = omega arith in
    let front : take (i + 1) corners ≡ take i corners ++ t ∷ [] = ap (λ (k : ℕ). take k corners) after ∙ take-suc corners i d low ∙ (λ j. take i corners ++ sym is j ∷ []) in
    more ∙ ap (λ (l : List ℕ). with_slots l (slots_of (t ∷ []))) before ∙ sym (with-append first (slots_of (take i corners)) (slots_of (t ∷ []))) ∙ ap (with_slots first) (sym (slots-append (take i corners) (t ∷ [])))
    ∙ ap (λ (l : List (List ℕ)). with_slots first (slots_of l)) (sym front)

pub three_more : (a b c d : List ℕ) (t : List ℕ) (first second third : ℕ) → first ≡ slot_at t 0 → second ≡ slot_at t 1 → third ≡ slot_at t 2 → b ≡ with_slots a (first ∷ []) → c ≡ with_slots b (second ∷ []) → d ≡ with_slots c (third ∷ []) → d ≡ with_slots a (slots_of (t ∷ []))
three_more a b c d t first second third e0 e1 e2 one two three =
    three ∙ (λ i. with_slots (two i) (e2 i ∷ [])) ∙ (λ i. with_slots (with_slots (one i) (e1 i ∷ [])) (slot_at t 2 ∷ [])) ∙ (λ i. with_slots (with_slots (with_slots a (e0 i ∷ [])) (slot_at t 1 ∷ [])) (slot_at t 2 ∷ []))

-- what is read at a place where nothing is
pub none_read : (numbers : List (Option ℕ)) (slot : ℕ) (o : Option ℕ) (b : Bool) → slot < length numbers → o ≡ get_or numbers slot o → b ≡ is_some o → b ≡ false → get_or numbers slot None ≡ None
none_read numbers slot o b inside is test absent = get_or_default numbers slot None o inside ∙ sym is ∙ none o (sym test ∙ absent)
  where
    none : (p : Option ℕ) → is_some p ≡ false → p ≡ None
    none (Some k) h = absurd (true≢false h)
    none None h = refl
