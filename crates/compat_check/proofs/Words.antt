-- The bits of words.
use Rattle.std.proofs.Common.{◌≡◌, ℕ, zero, suc, ◌+◌, ◌*◌, ◌/◌, ◌%◌, ◌^◌, ◌<◌, Bool, true, false, not, eqb, List, [], ◌∷◌, ◌++◌, map, length, drop, refl, sym, ap, ◌∙◌, arith, eq-eqb, ne_eqb}
use Rattle.std.proofs.Math.Nat.{div-div-eq-div-mul, pow-succ'}
use Rattle.mesh_names.specs.Names.{digit, letters, bits_of}

digit_small : (b : Bool) → digit b < 2
digit_small true = omega arith
digit_small false = omega arith

digit_back : (b : Bool) (n : ℕ) → n ≡ digit b → eqb n 1 ≡ b
digit_back true n e = eq-eqb n 1 e
digit_back false n e = ne_eqb n 1 (λ (f : n ≡ 1). omega arith)

one_more_bit : (n a d : ℕ) → a < 2 ^ n → d < 2 → a * 2 + d < 2 ^ suc n
one_more_bit n a d h l = omega arith

pub bits_below : (w : List Bool) → bits_of w < 2 ^ length w
bits_below [] = omega arith
bits_below (b ∷ w) = one_more_bit (length w) (bits_of w) (digit b) (bits_below w) (digit_small b)

-- a word is spelled by its bits
pub letters-bits : (w : List Bool) → letters (length w) (bits_of w) ≡ w
letters-bits [] = refl
letters-bits (b ∷ w) =
    let d = digit_small b in
    let low : (bits_of w * 2 + digit b) % 2 ≡ digit b = omega arith in
    let high : (bits_of w * 2 + digit b) / 2 ≡ bits_of w = omega arith in
    λ i. digit_back b ((bits_of w * 2 + digit b) % 2) low i ∷ (ap (letters (length w)) high ∙ letters-bits w) i

-- without its last letters a word has so many bits fewer
pub bits-drop : (j : ℕ) (w : List Bool) → bits_of (drop j w) ≡ bits_of w / 2 ^ j
bits-drop zero w = omega arith
bits-drop (suc j) [] = zero_over (2 ^ suc j)
  where
    zero_over : (p : ℕ) → 0 ≡ 0 / p
    zero_over p = omega arith
bits-drop (suc j) (b ∷ w) =
    let d = digit_small b in
    let high : (bits_of w * 2 + digit b) / 2 ≡ bits_of w = omega arith in
    bits-drop j w ∙ ap (λ (x : ℕ). x / 2 ^ j) (sym high) ∙ div-div-eq-div-mul (bits_of w * 2 + digit b) 2 (2 ^ j) ∙ ap (λ (x : ℕ). (bits_of w * 2 + digit b) / x) (sym (pow-succ' 2 j))

head-of : (j : ℕ) (w : List Bool) → j < length w → (b : Bool) × (drop j w ≡ b ∷ drop (suc j) w)
head-of j [] low = absurd (omega arith)
head-of zero (b ∷ w) low = (b, refl)
head-of (suc j) (b ∷ w) low = head-of j w (omega arith)

head_bit : (b : Bool) (v u : List Bool) → u ≡ b ∷ v → eqb (bits_of u % 2) 1 ≡ b
head_bit b v u e =
    let d = digit_small b in
    let is : bits_of u ≡ bits_of v * 2 + digit b = ap bits_of e in
    digit_back b (bits_of u % 2) (omega arith)

-- the letter that follows so many others, by its bit
pub letter-at : (j : ℕ) (w : List Bool) → j < length w → drop j w ≡ eqb (bits_of w / 2 ^ j % 2) 1 ∷ drop (suc j) w
letter-at j w low =
    let h = head-of j w low in
    let bit : eqb (bits_of w / 2 ^ j % 2) 1 ≡ h.0 = ap (λ (x : ℕ). eqb (x % 2) 1) (sym (bits-drop j w)) ∙ head_bit h.0 (drop (suc j) w) (drop j w) h.1 in
    h.1 ∙ ap (λ (b : Bool). b ∷ drop (suc j) w) (sym bit)

more_bits : (p n a b d : ℕ) → p ≡ a * 2 ^ n + b → p * 2 + d ≡ a * 2 ^ suc n + (b * 2 + d)
more_bits p n a b d e = grind arith

-- the bits of two words in a row
pub bits-append : (v u : List Bool) → bits_of (v ++ u) ≡ bits_of u * 2 ^ length v + bits_of v
bits-append [] u = omega arith
bits-append (b ∷ v) u = more_bits (bits_of (v ++ u)) (length v) (bits_of u) (bits_of v) (digit b) (bits-append v u)

digit_other : (b : Bool) → digit (not b) + digit b ≡ 1
digit_other true = refl
digit_other false = refl

other_bits : (n a b d e : ℕ) → a + b + 1 ≡ 2 ^ n → d + e ≡ 1 → a * 2 + d + (b * 2 + e) + 1 ≡ 2 ^ suc n
other_bits n a b d e h k = omega arith

-- the bits of a word and those of its other letters fill the word
pub bits-other : (v : List Bool) → bits_of (map not v) + bits_of v + 1 ≡ 2 ^ length v
bits-other [] = omega arith
bits-other (b ∷ v) = other_bits (length v) (bits_of (map not v)) (bits_of v) (digit (not b)) (digit b) (bits-other v) (digit_other b)
