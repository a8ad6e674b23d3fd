-- The bits of a name's first letters.
use Rattle.std.proofs.Common.{◌≡◌, ℕ, zero, suc, ◌+◌, ◌-◌, ◌*◌, ◌/◌, ◌%◌, ◌^◌, ◌<◌, ◌≤◌, Bool, true, false, eqb, List, [], ◌∷◌, length, drop, refl, sym, ap, ◌∙◌, subst, arith, eq-eqb, ne_eqb, length-drop}
use Rattle.std.proofs.Math.Nat.{div-div-eq-div-mul, pow-succ'}
use Rattle.std.proofs.lemmas.List.{drop-drop}
use Rattle.mesh_names.specs.Names.{Name, digit, letters, bits_of, depth}
use Rattle.name_tree.specs.Letters.{first_letters}

digit_small : (b : Bool) → digit b < 2
digit_small true = omega arith
digit_small false = omega arith

digit_back : (b : Bool) (n : ℕ) → n ≡ digit b → eqb n 1 ≡ b
digit_back true n e = eq-eqb n 1 e
digit_back false n e = ne_eqb n 1 (λ (f : n ≡ 1). omega arith)

one_more_bit : (n a d : ℕ) → a < 2 ^ n → d < 2 → a * 2 + d < 2 ^ suc n
one_more_bit n a d h l = omega arith

bits_below : (w : List Bool) → bits_of w < 2 ^ length w
bits_below [] = omega arith
bits_below (b ∷ w) = one_more_bit (length w) (bits_of w) (digit b) (bits_below w) (digit_small b)

-- a word is spelled by its bits
letters-bits : (w : List Bool) → letters (length w) (bits_of w) ≡ w
letters-bits [] = refl
letters-bits (b ∷ w) =
    let d = digit_small b in
    let low : (bits_of w * 2 + digit b) % 2 ≡ digit b = omega arith in
    let high : (bits_of w * 2 + digit b) / 2 ≡ bits_of w = omega arith in
    λ i. digit_back b ((bits_of w * 2 + digit b) % 2) low i ∷ (ap (letters (length w)) high ∙ letters-bits w) i

-- without its last letters a word has so many bits fewer
bits-drop : (j : ℕ) (w : List Bool) → bits_of (drop j w) ≡ bits_of w / 2 ^ j
bits-drop zero w = omega arith
bits-drop (suc j) [] = zero_over (2 ^ suc j)
  where
    zero_over : (p : ℕ) → 0 ≡ 0 / p
    zero_over p = omega arith
bits-drop (suc j) (b ∷ w) =
    let d = digit_small b in
    let high : (bits_of w * 2 + digit b) / 2 ≡ bits_of w = omega arith in
    bits-drop j w ∙ ap (λ (x : ℕ). x / 2 ^ j) (sym high) ∙ div-div-eq-div-mul (bits_of w * 2 + digit b) 2 (2 ^ j) ∙ ap (λ (x : ℕ). (bits_of w * 2 + digit b) / x) (sym (pow-succ' 2 j))

module _ (n : Name) (k : ℕ) (h : k ≤ depth n) where
  long : length (first_letters n k).1 ≡ k
  long = omega (arith, length-drop (depth n - k) n.1)

  pub first-bits-below : bits_of n.1 / 2 ^ (depth n - k) < 2 ^ k
  first-bits-below = subst (λ (x : ℕ). x < 2 ^ k) (bits-drop (depth n - k) n.1) (subst (λ (x : ℕ). bits_of (first_letters n k).1 < 2 ^ x) long (bits_below (first_letters n k).1))

  pub first-letters : letters k (bits_of n.1 / 2 ^ (depth n - k)) ≡ (first_letters n k).1
  first-letters = ap (letters k) (sym (bits-drop (depth n - k) n.1)) ∙ ap (λ (x : ℕ). letters x (bits_of (first_letters n k).1)) (sym long) ∙ letters-bits (first_letters n k).1

-- what follows the head of a word's end
pub drop-tail : (j : ℕ) (w : List Bool) (b : Bool) (v : List Bool) → drop j w ≡ b ∷ v → drop (suc j) w ≡ v
drop-tail zero [] b v e = absurd (cc)
drop-tail zero (x ∷ w) b v e = cc
drop-tail (suc j) [] b v e = absurd (cc)
drop-tail (suc j) (x ∷ w) b v e = drop-tail j w b v e

-- fewer first letters of the first letters
pub fewer-letters : (n : Name) (k end : ℕ) → k ≤ end → end ≤ depth n → (first_letters (first_letters n end) k).1 ≡ (first_letters n k).1
fewer-letters n k end h within =
    let inner : length (drop (depth n - end) n.1) ≡ end = omega (arith, length-drop (depth n - end) n.1) in
    let both : (depth n - end) + (end - k) ≡ depth n - k = omega arith in
    ap (λ (x : ℕ). drop (x - k) (drop (depth n - end) n.1)) inner ∙ drop-drop (end - k) (depth n - end) n.1 ∙ ap (λ (x : ℕ). drop x n.1) both

pub letters-depth : (n : Name) (end : ℕ) → end ≤ depth n → depth (first_letters n end) ≡ end
letters-depth n end within = omega (arith, length-drop (depth n - end) n.1)

pub all_letters : (n : Name) → (first_letters n (depth n)).1 ≡ n.1
all_letters n = let none : depth n - depth n ≡ 0 = omega arith in ap (λ (x : ℕ). drop x n.1) none

head-of : (j : ℕ) (w : List Bool) → j < length w → (b : Bool) × (drop j w ≡ b ∷ drop (suc j) w)
head-of j [] low = absurd (omega arith)
head-of zero (b ∷ w) low = (b, refl)
head-of (suc j) (b ∷ w) low = head-of j w (omega arith)

-- one more of the first letters
pub next-letter : (n : Name) (k : ℕ) → k < depth n → (b : Bool) × ((first_letters n (k + 1)).1 ≡ b ∷ (first_letters n k).1)
next-letter n k low =
    let head = head-of (depth n - (k + 1)) n.1 (omega arith) in
    let step : suc (depth n - (k + 1)) ≡ depth n - k = omega arith in
    (head.0, head.1 ∙ ap (λ (x : ℕ). head.0 ∷ drop x n.1) step)
