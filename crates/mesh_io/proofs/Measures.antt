-- From the whole part to the answer.
use Rattle.std.proofs.Common.{◌≡◌, ℕ, ℤ, pos, neg_ℤ, Bool, true, false, nat_le, Some, None, Result, Ok, Err, List, length, ◌+◌, ◌*◌, ◌/◌, ◌^◌, ◌<◌, ◌≤◌, ◌≢◌, ◌==◌, ◌∙◌, cond, ⊎_elim, sym, ap, subst, arith}
use Rattle.std.proofs.lemmas.Bool.Decides.{nat_tests}
use Rattle.std.proofs.lemmas.Int.{ints}
use lib.IntN.{◌-ℤ◌}
use mir.Val.{to_z, of_z}
use mir.Syntax.{w64}
use Rattle.mesh_io.specs.declared.decimal.DecimalRefusal.{DecimalRefusal}
use Rattle.mesh_io.specs.declared.decimal.DecimalRefusal.TheVariants.{CoordRange}
use Rattle.mesh_io.specs.Decimals.{greatest_cut, greatest_units, Decimal, cut, measured, with_sign, decimal_of, decimal_from, fine_units, exponent, after_places, after_digits, digits_at, places_at, number, is_minus, unsigned}
use Rattle.mesh_io.specs.Heads.{Heads}
use Rattle.mesh_io.proofs.Powers.{head_cut}

-- a decimal in the range has its fine units
pub measured_in : (x : Decimal) (c : ℕ) → cut x ≡ c → c ≤ greatest_cut → measured (Some x) ≡ Ok (with_sign x.minus (c / 244140625))
measured_in x c e le = let b : nat_le (cut x / 244140625) greatest_units ≡ true = fits (cut x) (omega (arith, e)) in
    ap (λ b. cond b (Ok (with_sign x.minus (cut x / 244140625))) (Err CoordRange)) b ∙ ap (λ k. Ok (with_sign x.minus (k / 244140625))) e
  where
    fits : (k : ℕ) → k ≤ greatest_cut → nat_le (k / 244140625) greatest_units ≡ true
    fits k h = let l : k / 244140625 ≤ greatest_units = omega arith in grind (arith, nat_tests)

-- a decimal above the range is refused
pub measured_out : (x : Decimal) → greatest_cut < cut x → measured (Some x) ≡ Err CoordRange
measured_out x h = ap (λ b. cond b (Ok (with_sign x.minus (cut x / 244140625))) (Err CoordRange)) (over (cut x) h)
  where
    over : (k : ℕ) → greatest_cut < k → nat_le (k / 244140625) greatest_units ≡ false
    over k h = let l : greatest_units < k / 244140625 = omega arith in grind (arith, nat_tests)

-- the cut by the head, in the range
pub cut_in : (m kept d places up down c : ℕ) → Heads m kept d → c ≡ kept * 10 ^ (d + 22 + up) / 10 ^ (places + down) → c ≤ greatest_cut → m * 10 ^ (22 + up) / 10 ^ (places + down) ≡ c
cut_in m kept d places up down c h e le = let same : d + (22 + up) ≡ d + 22 + up = omega arith in
    let e' : kept * 10 ^ (d + (22 + up)) / 10 ^ (places + down) ≡ c = ap (λ k. kept * 10 ^ k / 10 ^ (places + down)) same ∙ sym e in
    ⊎_elim (λ one. one ∙ e') (λ two. absurd (omega (arith, two.1, e', le))) (head_cut m kept d (22 + up) (places + down) h)

-- and above it
pub cut_out : (m kept d places up down : ℕ) → Heads m kept d → greatest_cut < kept * 10 ^ (d + 22 + up) / 10 ^ (places + down) → greatest_cut < m * 10 ^ (22 + up) / 10 ^ (places + down)
cut_out m kept d places up down h over = let same : d + 22 + up ≡ d + (22 + up) = omega arith in
    let over' = subst (λ k. greatest_cut < kept * 10 ^ k / 10 ^ (places + down)) same over in
    ⊎_elim (λ one. omega (arith, one, over')) (λ two. two.0) (head_cut m kept d (22 + up) (places + down) h)

-- a size as an i64
pub as_pos : (n : ℕ) → n ≤ greatest_units → to_z w64 n ≡ pos n
as_pos n h = omega (arith, ints)

-- and its negation
pub as_neg : (n : ℕ) → n ≤ greatest_units → to_z w64 (of_z w64 (pos 0 -ℤ to_z w64 n)) ≡ neg_ℤ (pos n)
as_neg n h = omega (arith, ints)

-- what a token with digits and an exponent says
pub decimal_is : (token : List ℕ) (below : Bool) (size : ℕ) → let bare = unsigned token in let after = after_digits bare in
    length (digits_at bare) + length (places_at after) ≢ 0 → exponent (after_places after) ≡ Some (below, size) →
    decimal_of token ≡ Some (record { minus = is_minus token; mantissa = number (number 0 (digits_at bare)) (places_at after); places = length (places_at after); up = cond below 0 size; down = cond below size 0 })
decimal_is token below size some e = let bare = unsigned token in let after = after_digits bare in
    let b : (length (digits_at bare) + length (places_at after) == 0) ≡ false = test _ some in
    λ i. cond (b i) None (decimal_from (is_minus token) (number (number 0 (digits_at bare)) (places_at after)) (length (places_at after)) (e i))
  where
    test : (n : ℕ) → n ≢ 0 → (n == 0) ≡ false
    test n h = grind (arith, nat_tests)

-- what the parts of a token give
pub fine_is : (token bare rest : List ℕ) (minus below : Bool) (count places size : ℕ) (r : Result ℤ DecimalRefusal) → minus ≡ is_minus token → bare ≡ unsigned token → count ≡ length (digits_at bare) + length (places_at (after_digits bare)) →
    places ≡ length (places_at (after_digits bare)) → rest ≡ after_places (after_digits bare) → count ≢ 0 → Some (below, size) ≡ exponent rest →
    r ≡ measured (Some (record { minus = minus; mantissa = number (number 0 (digits_at bare)) (places_at (after_digits bare)); places = places; up = cond below 0 size; down = cond below size 0 })) → r ≡ fine_units token
fine_is token bare rest minus below count places size r hm hb hc hp hr some he e =
    e
    ∙ (λ i. measured (Some (record { minus = hm i; mantissa = number (number 0 (digits_at (hb i))) (places_at (after_digits (hb i))); places = (hp ∙ ap (λ b. length (places_at (after_digits b))) hb) i; up = cond below 0 size; down = cond below size 0 })))
    ∙ sym (ap measured (decimal_is token below size (λ z. some (hc ∙ ap (λ b. length (digits_at b) + length (places_at (after_digits b))) hb ∙ z)) (ap (λ b. exponent (after_places (after_digits b))) (sym hb) ∙ ap exponent (sym hr) ∙ sym he)))
