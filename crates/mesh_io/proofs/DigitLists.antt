-- The head of a number, one digit on, and the parts of a text of digits.
use Rattle.std.proofs.Common.{◌≡◌, ℕ, List, [], ◌∷◌, Bool, true, false, ◌==◌, ◌&&◌, nat_le, length, get_or, take, drop, ◌+◌, ◌-◌, ◌*◌, ◌^◌, ◌<◌, ◌≤◌, ◌⊎◌, ◌∙◌, cond, inl, inr, refl, sym, ap, subst, arith}
use Rattle.std.proofs.lemmas.Bool.Decides.{nat_tests}
use Rattle.std.proofs.Math.Seq.{take-length}
use Rattle.mesh_io.specs.Decimals.{is_digit, digits_at, after_digits, number, places_at, is_exponent}
use Rattle.mesh_io.specs.Heads.{Heads}
use Rattle.mesh_io.proofs.Powers.{ten_suc, ten_pos, ten_le, mul_le}

-- a digit that is dropped
pub dropped_more : (m kept dropped c : ℕ) → 10 ^ 27 ≤ kept → c ≤ 9 → Heads m kept dropped → Heads (10 * m + c) kept (dropped + 1)
dropped_more m kept dropped c room digit h = record {
  low = subst (λ p. kept * p ≤ 10 * m + c) (sym (ten_suc dropped)) (omega (arith, h.low));
  high = subst (λ p. 10 * m + c < (kept + 1) * p) (sym (ten_suc dropped)) (omega (arith, h.high));
  small = h.small;
  full = inr room;
}

split_by : (b : Bool) (c : ℕ) (cs ds es : List ℕ) → length ds + length es ≡ length cs → length (cond b (c ∷ ds) []) + length (cond b es (c ∷ cs)) ≡ length (c ∷ cs)
split_by true c cs ds es h = omega (arith, h)
split_by false c cs ds es h = omega arith

-- the digits at the front and what follows are the whole
pub digits-length : (cs : List ℕ) → length (digits_at cs) + length (after_digits cs) ≡ length cs
digits-length [] = refl
digits-length (c ∷ cs) = split_by (is_digit c) c cs (digits_at cs) (after_digits cs) (digits-length cs)

-- what a slice pattern binds after the first item
abbrev pub tail : List ℕ → List ℕ
tail xs = take (length xs - 1) (drop 1 xs)

tail-cons : (c : ℕ) (cs : List ℕ) → tail (c ∷ cs) ≡ cs
tail-cons c cs = ap (λ k. take k cs) (let e : length (c ∷ cs) - 1 ≡ length cs = omega arith in e) ∙ take-length cs

-- a digit at the front
pub digits-tail : (xs : List ℕ) → 1 ≤ length xs → is_digit (get_or xs 0 0) ≡ true → (digits_at xs ≡ get_or xs 0 0 ∷ digits_at (tail xs)) × (after_digits xs ≡ after_digits (tail xs)) × (length xs ≡ length (tail xs) + 1)
digits-tail [] le h = absurd (omega arith)
digits-tail (c ∷ cs) le h = (
  ap (λ b. cond b (c ∷ digits_at cs) []) h ∙ ap (λ ys. c ∷ digits_at ys) (sym (tail-cons c cs)),
  ap (λ b. cond b (after_digits cs) (c ∷ cs)) h ∙ ap after_digits (sym (tail-cons c cs)),
  omega (arith, ap length (tail-cons c cs)),
)

-- another byte at the front
pub digits-none : (xs : List ℕ) → 1 ≤ length xs → is_digit (get_or xs 0 0) ≡ false → (digits_at xs ≡ []) × (after_digits xs ≡ xs)
digits-none [] le h = absurd (omega arith)
digits-none (c ∷ cs) le h = (ap (λ b. cond b (c ∷ digits_at cs) []) h, ap (λ b. cond b (after_digits cs) (c ∷ cs)) h)

pub digits-empty : (xs : List ℕ) → length xs < 1 → digits_at xs ≡ []
digits-empty [] h = refl
digits-empty (c ∷ cs) h = absurd (omega arith)

-- a point at the front
pub places-point : (xs : List ℕ) → 1 ≤ length xs → get_or xs 0 0 ≡ 46 → places_at xs ≡ digits_at (tail xs)
places-point [] le h = absurd (omega arith)
places-point (c ∷ cs) le h = ap (λ (d : ℕ). cond (d == 46) (digits_at cs) []) h ∙ ap digits_at (sym (tail-cons c cs))

digit_top : (c : ℕ) → is_digit c ≡ true → c ≤ 57
digit_top c e = grind (arith, nat_tests)

few_by : (b : Bool) (c m k : ℕ) (ds : List ℕ) → is_digit c ≡ b → m < 10 ^ k → ((n j : ℕ) → n < 10 ^ j → number n ds < 10 ^ (j + length ds)) → number m (cond b (c ∷ ds) []) < 10 ^ (k + length (cond b (c ∷ ds) []))
few_by true c m k ds e h again = let low : c ≤ 57 = digit_top c e in
    let one = again (10 * m + (c - 48)) (k + 1) (let t = ten_suc k in omega (arith, t, h, low)) in
    subst (λ j. number (10 * m + (c - 48)) ds < 10 ^ j) (omega arith) one
few_by false c m k ds e h again = subst (λ j. m < 10 ^ j) (omega arith) h

-- a number of few digits
pub number-few : (m k : ℕ) (xs : List ℕ) → m < 10 ^ k → number m (digits_at xs) < 10 ^ (k + length (digits_at xs))
number-few m k [] h = subst (λ j. m < 10 ^ j) (omega arith) h
number-few m k (c ∷ cs) h = few_by (is_digit c) c m k (digits_at cs) refl h (λ n j low. number-few n j cs low)

-- the head of a number below 10 ^ 6 is the number
pub head_exact : (n kept d : ℕ) → Heads n kept d → n < 1000000 → kept ≡ n
head_exact n kept d h low = by h.full
  where
    by : (d ≡ 0) ⊎ (10 ^ 27 ≤ kept) → kept ≡ n
    by (inl z) = let one : 10 ^ d ≡ 1 = ap (λ k. 10 ^ k) z in omega (arith, subst (λ p. kept * p ≤ n) one h.low, subst (λ p. n < (kept + 1) * p) one h.high)
    by (inr big) = let more = mul_le kept kept 1 (10 ^ d) (omega arith) (ten_pos d) in absurd (omega (arith, more, h.low))

-- the head of no digits
pub no_digits : Heads 0 0 0
no_digits = record { low = omega arith; high = omega arith; small = omega arith; full = inl refl }

-- of at most six digits the head is the number
pub few_exact : (xs : List ℕ) (kept d : ℕ) → length xs ≤ 6 → Heads (number 0 (digits_at xs)) kept d → (kept ≡ number 0 (digits_at xs)) × (kept < 1000000)
few_exact xs kept d le h = let few = number-few 0 0 xs (omega arith) in
    let long : length (digits_at xs) ≤ 6 = omega (arith, digits-length xs) in
    let top = ten_le (0 + length (digits_at xs)) 6 (omega (arith, long)) in
    let low : number 0 (digits_at xs) < 1000000 = omega (arith, few, top) in
    let e = head_exact _ kept d h low in (e, omega (arith, e, low))

-- one to six digits with nothing after them
pub is_exponent_of : (xs rest : List ℕ) → rest ≡ after_digits xs → length rest ≡ 0 → 1 ≤ length xs → length xs ≤ 6 → is_exponent xs ≡ true
is_exponent_of xs rest e z low high = let n : length (after_digits xs) ≡ 0 = ap length (sym e) ∙ z in
    let a : (length (after_digits xs) == 0) ≡ true = ap (λ (k : ℕ). k == 0) n in
    let b : nat_le 1 (length xs) ≡ true = grind (arith, nat_tests) in
    let d : nat_le (length xs) 6 ≡ true = grind (arith, nat_tests) in λ i. a i && b i && d i

-- how many digits stand before the rest
pub before : (xs rest : List ℕ) → rest ≡ after_digits xs → length (digits_at xs) + length rest ≡ length xs
before xs rest e = ap (λ ys. length (digits_at xs) + length ys) e ∙ digits-length xs

pub some_left : (n : ℕ) → false ≡ (n == 0) → 1 ≤ n
some_left n e = grind (arith, nat_tests)

pub none_left : (n : ℕ) → true ≡ (n == 0) → n ≡ 0
none_left n e = grind (arith, nat_tests)

-- the tail is no longer than the whole
pub tail-short : (xs : List ℕ) → length (tail xs) ≤ length xs
tail-short [] = omega arith
tail-short (c ∷ cs) = omega (arith, ap length (tail-cons c cs))
