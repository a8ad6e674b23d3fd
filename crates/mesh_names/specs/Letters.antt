-- Bits and letters.
use Rattle.std.proofs.Common.{◌≡◌, ℕ, zero, suc, ◌-◌, Some, ◌/◌, ◌%◌, ◌^◌, ◌<◌, eqb, ◌∷◌, length, refl, ap, arith}
use Rattle.mesh_names.specs.Names.{letters, bits_of, digit, parent_of}

-- a word of n letters has the length n
pub length-letters : (n bits : ℕ) → length (letters n bits) ≡ n
length-letters zero bits = refl
length-letters (suc n) bits = ap suc (length-letters n (bits / 2))

digit_of : (r : ℕ) → r < 2 → digit (eqb r 1) ≡ r
digit_of zero h = refl
digit_of (suc zero) h = refl
digit_of (suc (suc r)) h = absurd (omega arith)

-- the bits of the letters of some bits are these bits
pub bits-letters : (n bits : ℕ) → bits < 2 ^ n → bits_of (letters n bits) ≡ bits
bits-letters zero bits h = omega arith
bits-letters (suc n) bits h =
    let small : bits / 2 < 2 ^ n = omega arith in
    let rest : bits_of (letters n (bits / 2)) ≡ bits / 2 = bits-letters n (bits / 2) small in
    let last : digit (eqb (bits % 2) 1) ≡ bits % 2 = digit_of (bits % 2) (omega arith) in
    omega arith

-- the parent's letters are those of half the bits
pub parent-letters : (n bits : ℕ) → 0 < n → parent_of (letters n bits) ≡ Some (letters (n - 1) (bits / 2))
parent-letters zero bits h = absurd (omega arith)
parent-letters (suc n) bits h = ap (λ m. Some (letters m (bits / 2))) (omega arith)

-- the lowest bit is the last letter
pub letters-split : (n bits : ℕ) → 0 < n → letters n bits ≡ eqb (bits % 2) 1 ∷ letters (n - 1) (bits / 2)
letters-split zero bits h = absurd (omega arith)
letters-split (suc n) bits h = ap (λ m. eqb (bits % 2) 1 ∷ letters m (bits / 2)) (omega arith)
