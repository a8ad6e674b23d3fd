-- Whole numbers, digit by digit, and as they are held.
use Rattle.std.proofs.Common.{◌≡◌, ℕ, suc, ℤ, pos, negsuc, List, [], ◌∷◌, Bool, true, false, ◌==◌, ◌&&◌, cond, nat_le, min, length, get_or, drop, ◌+◌, ◌-◌, ◌*◌, ◌<◌, ◌≤◌, Option, Some, None, Ok, Err, ◌∙◌, refl, sym, ap, subst, arith}
use Rattle.std.specs.Prelude.{int_lt, nat_lt, nat_abs, option_map}
use Rattle.std.proofs.lemmas.Bool.{and_right, ltb-false, false≢true}
use Rattle.macro_file.specs.declared.refusal.MacroRefusal.{MacroRefusal}
use Rattle.macro_file.specs.declared.refusal.MacroRefusal.TheVariants.{BadNumber}
use Rattle.macro_file.specs.Numbers.{bounded}
use Rattle.std.proofs.lemmas.Int.{to_z-of_z}
use mir.Val.{to_z, of_z, SFits}
use mir.Syntax.{w64}
use Rattle.std.proofs.lemmas.Bool.Decides.{nat_tests}
use Rattle.std.proofs.lemmas.List.{drop_more, drop_all}
use Rattle.mesh_io.specs.Decimals.{is_digit, after_digits, number}
use Rattle.macro_file.specs.Capped.{capped, capped_size}

-- the digits before index i are digits, and the size is held of the number of them
pub record Digits (digits : List ℕ) (i size : ℕ) : Type 0 where
  pub front : ℕ
  pub held : size ≡ capped_size front
  pub numbers : number front (drop i digits) ≡ number 0 digits
  pub rest : after_digits (drop i digits) ≡ after_digits digits

pub no_digits : (digits : List ℕ) → Digits digits 0 0
no_digits digits = record { front = 0; held = refl; numbers = refl; rest = refl }

pub one_digit : (digits : List ℕ) (i size next : ℕ) → Digits digits i size → i < length digits → is_digit (get_or digits i 0) ≡ true → ((m : ℕ) → size ≡ capped_size m → next ≡ capped_size (10 * m + (get_or digits i 0 - 48))) → Digits digits (i + 1) next
one_digit digits i size next d h e step = let here = drop_more digits i 0 h in record {
  front = 10 * d.front + (get_or digits i 0 - 48);
  held = step d.front d.held;
  numbers = sym (ap (number d.front) here) ∙ d.numbers;
  rest = sym (ap after_digits here ∙ ap (λ t. cond t (after_digits (drop (i + 1) digits)) (get_or digits i 0 ∷ drop (i + 1) digits)) e) ∙ d.rest;
}

abbrev size_by : List ℕ → Option ℕ
size_by digits = cond (nat_le 1 (length digits) && length (after_digits digits) == 0) (Some (capped_size (number 0 digits))) None

pub not_digits : (digits : List ℕ) (i size : ℕ) → Digits digits i size → i < length digits → is_digit (get_or digits i 0) ≡ false → None ≡ size_by digits
not_digits digits i size d h e =
    let left : after_digits digits ≡ get_or digits i 0 ∷ drop (i + 1) digits = sym d.rest ∙ ap after_digits (drop_more digits i 0 h) ∙ ap (λ t. cond t (after_digits (drop (i + 1) digits)) (get_or digits i 0 ∷ drop (i + 1) digits)) e in
    let some : (length (after_digits digits) == 0) ≡ false = ap (λ (xs : List ℕ). length xs == 0) left ∙ (let z : (suc (length (drop (i + 1) digits)) == 0) ≡ false = grind (arith, nat_tests) in z) in
    sym (ap (λ t. cond t (Some (capped_size (number 0 digits))) None) (and_right (nat_le 1 (length digits)) _ some))

pub all_digits : (digits : List ℕ) (i size : ℕ) → Digits digits i size → length digits ≤ i → 1 ≤ length digits → Some size ≡ size_by digits
all_digits digits i size d h some =
    let none : after_digits digits ≡ [] = sym d.rest ∙ ap after_digits (drop_all i digits h) in
    let number_is : d.front ≡ number 0 digits = sym (ap (number d.front) (drop_all i digits h)) ∙ d.numbers in
    let yes : nat_le 1 (length digits) ≡ true = grind (arith, nat_tests) in
    (λ i. Some ((d.held ∙ ap capped_size number_is) i)) ∙ sym (λ i. cond (yes i && length (none i) == 0) (Some (capped_size (number 0 digits))) None)

-- A bound below the cap tells the same of a number and of what is held of it.
lt_capped : (z least : ℤ) → nat_abs least < 1000000000000000000 → int_lt (capped z) least ≡ int_lt z least
lt_capped (pos n) (pos m) h = let e : nat_lt (min n 1000000000000000000) m ≡ nat_lt n m = grind (arith, nat_tests) in e
lt_capped (pos n) (negsuc m) h = refl
lt_capped (negsuc n) (pos m) h = refl
lt_capped (negsuc n) (negsuc m) h = let e : nat_lt m (min n 999999999999999999) ≡ nat_lt m n = grind (arith, nat_tests) in e

capped_gt : (z greatest : ℤ) → nat_abs greatest < 1000000000000000000 → int_lt greatest (capped z) ≡ int_lt greatest z
capped_gt (pos n) (pos m) h = let e : nat_lt m (min n 1000000000000000000) ≡ nat_lt m n = grind (arith, nat_tests) in e
capped_gt (pos n) (negsuc m) h = refl
capped_gt (negsuc n) (pos m) h = refl
capped_gt (negsuc n) (negsuc m) h = let e : nat_lt (min n 999999999999999999) m ≡ nat_lt n m = grind (arith, nat_tests) in e

capped_same : (z least greatest : ℤ) → nat_abs least < 1000000000000000000 → nat_abs greatest < 1000000000000000000 → int_lt z least ≡ false → int_lt greatest z ≡ false → capped z ≡ z
capped_same (pos n) least (pos m) h k e f = let le : n ≤ m = ltb-false m n f in ap pos (let same : min n 1000000000000000000 ≡ n = omega arith in same)
capped_same (pos n) least (negsuc m) h k e f = absurd (false≢true (sym f))
capped_same (negsuc n) (pos m) greatest h k e f = absurd (false≢true (sym e))
capped_same (negsuc n) (negsuc m) greatest h k e f = let le : n ≤ m = ltb-false m n e in ap negsuc (let same : min n 999999999999999999 ≡ n = omega arith in same)

pub bounded_capped : (least greatest : ℤ) (below above : MacroRefusal) (line : ℕ) (o : Option ℤ) → nat_abs least < 1000000000000000000 → nat_abs greatest < 1000000000000000000 →
    bounded least greatest (λ _. below) (λ _. above) line (option_map capped o) ≡ bounded least greatest (λ _. below) (λ _. above) line o
bounded_capped least greatest below above line None h k = refl
bounded_capped least greatest below above line (Some z) h k = (λ i. cond (lt_capped z least h i) (Err below) (cond (capped_gt z greatest k i) (Err above) (Ok (capped z)))) ∙ by (int_lt z least) (int_lt greatest z) refl refl
  where
    by : (t u : Bool) → int_lt z least ≡ t → int_lt greatest z ≡ u → cond (int_lt z least) (Err below) (cond (int_lt greatest z) (Err above) (Ok (capped z))) ≡ cond (int_lt z least) (Err below) (cond (int_lt greatest z) (Err above) (Ok z))
    by true u e f = let P : Bool → Type 0 = λ s. cond s (Err below) (cond (int_lt greatest z) (Err above) (Ok (capped z))) ≡ cond s (Err below) (cond (int_lt greatest z) (Err above) (Ok z)) in subst P (sym e) refl
    by false true e f = let P : Bool → Type 0 = λ s. cond (int_lt z least) (Err below) (cond s (Err above) (Ok (capped z))) ≡ cond (int_lt z least) (Err below) (cond s (Err above) (Ok z)) in subst P (sym f) refl
    by false false e f = ap (λ (w : ℤ). cond (int_lt z least) (Err below) (cond (int_lt greatest z) (Err above) (Ok w))) (capped_same z least greatest h k e f)

module _ (least greatest : ℤ) (below above : MacroRefusal) (line : ℕ) (o : Option ℤ) (h : nat_abs least < 1000000000000000000) (k : nat_abs greatest < 1000000000000000000) where
  pub bounded_none : None ≡ option_map capped o → Err (BadNumber line) ≡ bounded least greatest (λ _. below) (λ _. above) line o
  bounded_none e = ap (bounded least greatest (λ _. below) (λ _. above) line) e ∙ bounded_capped least greatest below above line o h k

  pub bounded_below : (n : ℤ) → Some n ≡ option_map capped o → int_lt n least ≡ true → Err below ≡ bounded least greatest (λ _. below) (λ _. above) line o
  bounded_below n e t = sym (ap (λ s. cond s (Err below) (cond (int_lt greatest n) (Err above) (Ok n))) t) ∙ ap (bounded least greatest (λ _. below) (λ _. above) line) e ∙ bounded_capped least greatest below above line o h k

  pub bounded_above : (n : ℤ) → Some n ≡ option_map capped o → int_lt n least ≡ false → int_lt greatest n ≡ true → Err above ≡ bounded least greatest (λ _. below) (λ _. above) line o
  bounded_above n e t u = sym (λ i. cond (t i) (Err below) (cond (u i) (Err above) (Ok n))) ∙ ap (bounded least greatest (λ _. below) (λ _. above) line) e ∙ bounded_capped least greatest below above line o h k

  pub bounded_within : (n : ℤ) → Some n ≡ option_map capped o → int_lt n least ≡ false → int_lt greatest n ≡ false → Ok n ≡ bounded least greatest (λ _. below) (λ _. above) line o
  bounded_within n e t u = sym (λ i. cond (t i) (Err below) (cond (u i) (Err above) (Ok n))) ∙ ap (bounded least greatest (λ _. below) (λ _. above) line) e ∙ bounded_capped least greatest below above line o h k

-- a test of two numbers of the code
pub plain_lt : (x y : ℤ) (t : Bool) → SFits w64 x → SFits w64 y → int_lt (to_z w64 (of_z w64 x)) (to_z w64 (of_z w64 y)) ≡ t → int_lt x y ≡ t
plain_lt x y t f g e = (λ i. int_lt (sym (to_z-of_z w64 x f) i) (sym (to_z-of_z w64 y g) i)) ∙ e
