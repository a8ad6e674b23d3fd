-- Texts of digits: where they end, and what number they say.
use Rattle.std.proofs.Common.{◌≡◌, ℕ, List, [], ◌∷◌, ◌++◌, true, false, cond, length, zero, suc, ◌+◌, ◌-◌, ◌*◌, ◌/◌, ◌%◌, ◌^◌, ◌<◌, ◌≤◌, ◌∙◌, refl, ap, arith, length-append}
use Rattle.std.proofs.lemmas.Bool.Decides.{nat_tests}
use Rattle.std.specs.Fmt.{decimal}
use Rattle.std.proofs.lemmas.Fmt.{decimal_by_steps}
use Rattle.mesh_io.specs.Decimals.{is_digit, digits_at, after_digits, number}
use Rattle.mesh_io.specs.Written.{padded}
use Rattle.mesh_io.proofs.Powers.{ten_suc}

-- each byte is a digit
abbrev pub AllDigits : List ℕ → Type 0
AllDigits [] = Unit {0}
AllDigits (d ∷ ds) = (is_digit d ≡ true) × AllDigits ds

-- no digit stands at the front
abbrev pub NoDigit : List ℕ → Type 0
NoDigit [] = Unit {0}
NoDigit (c ∷ cs) = is_digit c ≡ false

digit_is : (n : ℕ) → n < 10 → is_digit (48 + n) ≡ true
digit_is n low = grind (arith, nat_tests)

AllDigits-append : (xs ys : List ℕ) → AllDigits xs → AllDigits ys → AllDigits (xs ++ ys)
AllDigits-append [] ys hx hy = hy
AllDigits-append (x ∷ xs) ys hx hy = (hx.0, AllDigits-append xs ys hx.1 hy)

number-append : (m : ℕ) (xs ys : List ℕ) → number m (xs ++ ys) ≡ number (number m xs) ys
number-append m [] ys = refl
number-append m (x ∷ xs) ys = number-append (10 * m + (x - 48)) xs ys

pub digits-front : (ds rest : List ℕ) → AllDigits ds → NoDigit rest → digits_at (ds ++ rest) ≡ ds
digits-front [] [] all none = refl
digits-front [] (c ∷ cs) all none = ap (λ b. cond b (c ∷ digits_at cs) []) none
digits-front (d ∷ ds) rest all none = ap (λ b. cond b (d ∷ digits_at (ds ++ rest)) []) all.0 ∙ ap (λ es. d ∷ es) (digits-front ds rest all.1 none)

pub after-front : (ds rest : List ℕ) → AllDigits ds → NoDigit rest → after_digits (ds ++ rest) ≡ rest
after-front [] [] all none = refl
after-front [] (c ∷ cs) all none = ap (λ b. cond b (after_digits cs) (c ∷ cs)) none
after-front (d ∷ ds) rest all none = ap (λ b. cond b (after_digits (ds ++ rest)) (d ∷ (ds ++ rest))) all.0 ∙ after-front ds rest all.1 none

pub digits-all : (ds : List ℕ) → AllDigits ds → digits_at ds ≡ ds
digits-all [] all = refl
digits-all (d ∷ ds) all = ap (λ b. cond b (d ∷ digits_at ds) []) all.0 ∙ ap (λ es. d ∷ es) (digits-all ds all.1)

pub after-all : (ds : List ℕ) → AllDigits ds → after_digits ds ≡ []
after-all [] all = refl
after-all (d ∷ ds) all = ap (λ b. cond b (after_digits ds) (d ∷ ds)) all.0 ∙ after-all ds all.1

-- the digits of a whole number
pub record IsWhole (n : ℕ) (ds : List ℕ) : Type 0 where
  pub digits : AllDigits ds
  pub value : number 0 ds ≡ n
  pub some : 1 ≤ length ds

whole_one : (n : ℕ) → n < 10 → IsWhole n ((48 + n) ∷ [])
whole_one n low = record { digits = (digit_is n low, tt); value = omega arith; some = omega arith }

whole_more : (n : ℕ) (ds : List ℕ) → 10 ≤ n → IsWhole (n / 10) ds → IsWhole n (ds ++ (48 + n % 10) ∷ [])
whole_more n ds high h = record {
  digits = AllDigits-append ds ((48 + n % 10) ∷ []) h.digits (digit_is (n % 10) (omega arith), tt);
  value = number-append 0 ds ((48 + n % 10) ∷ []) ∙ (let e : 10 * number 0 ds + (48 + n % 10 - 48) ≡ n = omega (arith, h.value) in e);
  some = omega (arith, length-append ds ((48 + n % 10) ∷ []));
}

pub decimal_whole : (n : ℕ) → n < 2 ^ 64 → IsWhole n (decimal n)
decimal_whole n small = decimal_by_steps IsWhole whole_one whole_more n small

pub padded-digits : (k n : ℕ) → AllDigits (padded k n)
padded-digits zero n = tt
padded-digits (suc k) n = AllDigits-append (padded k (n / 10)) ((48 + n % 10) ∷ []) (padded-digits k (n / 10)) (digit_is (n % 10) (omega arith), tt)

pub length-padded : (k n : ℕ) → length (padded k n) ≡ k
length-padded zero n = refl
length-padded (suc k) n = omega (arith, length-append (padded k (n / 10)) ((48 + n % 10) ∷ []), length-padded k (n / 10))

pub number-padded : (m k n : ℕ) → n < 10 ^ k → number m (padded k n) ≡ m * 10 ^ k + n
number-padded m zero n low = omega (arith, low)
number-padded m (suc k) n low =
    let ten : 10 ^ suc k ≡ 10 ^ k * 10 = ap (λ i. 10 ^ i) (omega arith) ∙ ten_suc k in
    let front = number-padded m k (n / 10) (omega (arith, low, ten)) in
    number-append m (padded k (n / 10)) ((48 + n % 10) ∷ [])
    ∙ (let e : 10 * number m (padded k (n / 10)) + (48 + n % 10 - 48) ≡ m * 10 ^ suc k + n = omega (arith, front, ap (λ p. m * p) ten) in e)
