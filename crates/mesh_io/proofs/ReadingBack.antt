-- A written decimal is read again.
use Rattle.std.proofs.Common.{◌≡◌, ◌≢◌, ℕ, ℤ, pos, negsuc, nat_abs, List, [], ◌∷◌, ◌++◌, Bool, true, false, ◌==◌, ◌||◌, cond, length, Some, Ok, ◌+◌, ◌-◌, ◌*◌, ◌/◌, ◌%◌, ◌^◌, ◌<◌, ◌≤◌, ◌∙◌, refl, sym, ap, arith}
use Rattle.std.proofs.lemmas.Bool.Decides.{nat_tests}
use Rattle.std.specs.Fmt.{decimal, sign_text}
use lib.Signed.{lt_z}
use Rattle.mesh_io.specs.Decimals.{Decimal, is_digit, digits_at, after_digits, number, is_minus, unsigned, places_at, after_places, exponent, cut, with_sign, measured, decimal_of}
use Rattle.mesh_io.specs.Written.{padded, trimmed, fraction}
use Rattle.mesh_io.specs.ReadBack.{DecimalsReadBack}
use Rattle.mesh_io.proofs.Measures.{measured_in, decimal_is}
use Rattle.mesh_io.proofs.Numerals.{AllDigits, NoDigit, digits-front, after-front, digits-all, after-all, decimal_whole, padded-digits, length-padded, number-padded}
use Rattle.mesh_io.proofs.Powers.{shift_up}
use Rattle.mesh_io.proofs.TrimmedZeros.{trims, trimmed-digits}

-- what is read of a written fraction: its digits, with the zeros that were trimmed
record Fraction (f : ℕ) (text : List ℕ) (dropped : ℕ) : Type 0 where
  bare : NoDigit text
  ends : after_places text ≡ []
  worth : (w : ℕ) → number w (places_at text) * 10 ^ dropped ≡ w * 10 ^ 22 + f
  long : length (places_at text) + dropped ≡ 22

none_written : (f : ℕ) → f ≡ 0 → Fraction f [] 22
none_written f e = record { bare = tt; ends = refl; worth = λ w. omega (arith, e); long = refl }

some_written : (f : ℕ) → f < 10 ^ 22 → (dropped : ℕ) × Fraction f (46 ∷ trimmed (padded 22 f)) dropped
some_written f low =
    let ds = padded 22 f in
    let h = trims ds in
    let all = trimmed-digits ds (padded-digits 22 f) in
    let same = digits-all (trimmed ds) all in (
      h.0,
      record {
        bare = refl;
        ends = after-all (trimmed ds) all;
        worth = λ w. ap (λ ts. number w ts * 10 ^ h.0) same ∙ sym (h.1.worth w) ∙ number-padded w 22 f low;
        long = omega (arith, ap length same, h.1.long, length-padded 22 f);
      },
    )

fraction_written : (f : ℕ) (b : Bool) → (f == 0) ≡ b → f < 10 ^ 22 → (dropped : ℕ) × Fraction f (cond b [] (46 ∷ trimmed (padded 22 f))) dropped
fraction_written f true e low = (22, none_written f (grind (arith, nat_tests)))
fraction_written f false e low = some_written f low

no_sign : (d sign : ℕ) → is_digit d ≡ true → sign < 48 → (d == sign) ≡ false
no_sign d sign digit low = grind (arith, nat_tests)

not_below : (n : ℕ) → lt_z (pos n) (pos 0) ≡ false
not_below n = grind (arith, nat_tests)

-- a mantissa of so many places, and the zeros that bring them to 22
shifted : (m places dropped worth : ℕ) → places + dropped ≡ 22 → m * 10 ^ dropped ≡ worth → m * 10 ^ (22 + 0) / 10 ^ (places + 0) ≡ worth
shifted m places dropped worth long e = shift_up m (22 + 0) (places + 0) (omega arith) ∙ ap (λ k. m * 10 ^ k) (let z : 22 + 0 - (places + 0) ≡ dropped = omega (arith, long) in z) ∙ e

-- the sign at the front of a whole number
unsigned-whole : (minus : Bool) (ds rest : List ℕ) → AllDigits ds → 1 ≤ length ds → (is_minus (sign_text minus ++ ds ++ rest) ≡ minus) × (unsigned (sign_text minus ++ ds ++ rest) ≡ ds ++ rest)
unsigned-whole true ds rest all some = (refl, refl)
unsigned-whole false [] rest all some = absurd (omega arith)
unsigned-whole false (d ∷ ds) rest all some =
    let minus : (d == 45) ≡ false = no_sign d 45 all.0 (omega arith) in
    let plus : (d == 43) ≡ false = no_sign d 43 all.0 (omega arith) in
    (minus, λ i. cond (minus i || plus i) (ds ++ rest) (d ∷ (ds ++ rest)))

-- the decimal that a written one is read as
read_as : (minus : Bool) (w f dropped : ℕ) (text : List ℕ) → w < 2 ^ 64 → Fraction f text dropped → (x : Decimal) × (decimal_of (sign_text minus ++ decimal w ++ text) ≡ Some x) × (x.minus ≡ minus) × (cut x ≡ w * 10 ^ 22 + f)
read_as minus w f dropped text small h =
    let token = sign_text minus ++ decimal w ++ text in
    let whole = decimal_whole w small in
    let sign = unsigned-whole minus (decimal w) text whole.digits whole.some in
    let digits : digits_at (unsigned token) ≡ decimal w = ap digits_at sign.1 ∙ digits-front (decimal w) text whole.digits h.bare in
    let after : after_digits (unsigned token) ≡ text = ap after_digits sign.1 ∙ after-front (decimal w) text whole.digits h.bare in
    let some : length (digits_at (unsigned token)) + length (places_at (after_digits (unsigned token))) ≢ 0 = λ none. absurd (omega (arith, none, ap length digits, whole.some)) in
    let ends : exponent (after_places (after_digits (unsigned token))) ≡ Some (false, 0) = ap (λ cs. exponent (after_places cs)) after ∙ ap exponent h.ends in
    let mantissa : number (number 0 (digits_at (unsigned token))) (places_at (after_digits (unsigned token))) ≡ number w (places_at text) = (λ i. number (number 0 (digits i)) (places_at (after i))) ∙ ap (λ n. number n (places_at text)) whole.value in (
      record { minus = is_minus token; mantissa = number (number 0 (digits_at (unsigned token))) (places_at (after_digits (unsigned token))); places = length (places_at (after_digits (unsigned token))); up = 0; down = 0 },
      decimal_is token false 0 some ends,
      sign.0,
      (λ i. mantissa i * 10 ^ (22 + 0) / 10 ^ (length (places_at (after i)) + 0)) ∙ shifted (number w (places_at text)) (length (places_at text)) dropped (w * 10 ^ 22 + f) h.long (h.worth w),
    )

-- the number of fine units with its sign
signed-units : (c : ℤ) → with_sign (lt_z c (pos 0)) (nat_abs c) ≡ c
signed-units (pos n) = ap (λ b. with_sign b n) (not_below n)
signed-units (negsuc n) = refl

pub read_back : DecimalsReadBack
read_back c low =
    let n = nat_abs c * 244140625 in
    let minus = lt_z c (pos 0) in
    let f = n % 10 ^ 22 in
    let fine = fraction_written f (f == 0) refl (omega arith) in
    let x = read_as minus (n / 10 ^ 22) f fine.0 (fraction f) (omega (arith, low)) fine.1 in
    let is_cut : cut x.0 ≡ n = x.3 ∙ (let e : n / 10 ^ 22 * 10 ^ 22 + n % 10 ^ 22 ≡ n = omega arith in e) in
    let exact : n / 244140625 ≡ nat_abs c = omega arith in
    ap measured x.1
    ∙ measured_in x.0 n is_cut (omega (arith, low))
    ∙ (λ i. Ok (with_sign (x.2 i) (exact i)))
    ∙ ap Ok (signed-units c)
