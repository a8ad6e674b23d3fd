-- The zeros at the end of a fraction.
use Rattle.std.proofs.Common.{◌≡◌, ℕ, List, [], ◌∷◌, Bool, true, false, ◌==◌, cond, length, ◌+◌, ◌-◌, ◌*◌, ◌^◌, ◌∙◌, refl, sym, ap, subst, arith}
use Rattle.std.proofs.lemmas.Bool.Decides.{nat_tests}
use Rattle.mesh_io.specs.Decimals.{is_digit, number}
use Rattle.mesh_io.specs.Written.{before_trimmed, trimmed}
use Rattle.mesh_io.proofs.Numerals.{AllDigits}
use Rattle.mesh_io.proofs.Powers.{ten_suc}

-- the zeros that were trimmed: their number, and what they were worth
pub record Trims (xs ts : List ℕ) (dropped : ℕ) : Type 0 where
  pub worth : (m : ℕ) → number m xs ≡ number m ts * 10 ^ dropped
  pub long : length xs ≡ length ts + dropped

trim_first : (d : ℕ) (ds : List ℕ) (dropped : ℕ) → d ≡ 48 → Trims ds [] dropped → Trims (d ∷ ds) [] (dropped + 1)
trim_first d ds dropped e h = record {
  worth = λ m. h.worth (10 * m + (d - 48)) ∙ (let w : (10 * m + (d - 48)) * 10 ^ dropped ≡ m * 10 ^ (dropped + 1) = omega (arith, ap (λ c. (10 * m + (c - 48)) * 10 ^ dropped) e, ap (λ p. m * p) (ten_suc dropped)) in w);
  long = omega (arith, h.long);
}

trim_later : (d : ℕ) (ds ts : List ℕ) (dropped : ℕ) → Trims ds ts dropped → Trims (d ∷ ds) (d ∷ ts) dropped
trim_later d ds ts dropped h = record {
  worth = λ m. h.worth (10 * m + (d - 48));
  long = omega (arith, h.long);
}

trims_more : (d : ℕ) (ds ts : List ℕ) (b : Bool) → (d == 48) ≡ b → (dropped : ℕ) × Trims ds ts dropped → (dropped : ℕ) × Trims (d ∷ ds) (before_trimmed d ts) dropped
trims_more d ds [] true e h = (h.0 + 1, subst (λ b. Trims (d ∷ ds) (cond b [] (d ∷ [])) (h.0 + 1)) (sym e) (trim_first d ds h.0 (let z : d ≡ 48 = grind (arith, nat_tests) in z) h.1))
trims_more d ds [] false e h = (h.0, subst (λ b. Trims (d ∷ ds) (cond b [] (d ∷ [])) h.0) (sym e) (trim_later d ds [] h.0 h.1))
trims_more d ds (t ∷ ts) b e h = (h.0, trim_later d ds (t ∷ ts) h.0 h.1)

pub trims : (xs : List ℕ) → (dropped : ℕ) × Trims xs (trimmed xs) dropped
trims [] = (0, record { worth = λ m. omega arith; long = omega arith })
trims (d ∷ ds) = trims_more d ds (trimmed ds) (d == 48) refl (trims ds)

before-digits : (d : ℕ) (ts : List ℕ) (b : Bool) → (d == 48) ≡ b → is_digit d ≡ true → AllDigits ts → AllDigits (before_trimmed d ts)
before-digits d [] true e digit h = subst (λ b. AllDigits (cond b [] (d ∷ []))) (sym e) tt
before-digits d [] false e digit h = subst (λ b. AllDigits (cond b [] (d ∷ []))) (sym e) (digit, tt)
before-digits d (t ∷ ts) b e digit h = (digit, h)

pub trimmed-digits : (xs : List ℕ) → AllDigits xs → AllDigits (trimmed xs)
trimmed-digits [] h = tt
trimmed-digits (d ∷ ds) h = before-digits d (trimmed ds) (d == 48) refl h.0 (trimmed-digits ds h.1)
