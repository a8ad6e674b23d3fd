-- The letters of a name, from the front.
use Rattle.std.proofs.Common.{◌≡◌, ℕ, ◌+◌, ◌-◌, ◌*◌, ◌/◌, ◌%◌, ◌^◌, ◌<◌, ◌≤◌, Bool, true, false, eqb, ◌∷◌, sym, ap, ◌∙◌, arith}
use Rattle.mesh_names.specs.Names.{letters}
use lib.Bits.{bit_and}
use Rattle.std.proofs.lemmas.Nat.{and_mask, shr-shr}
use Rattle.mesh_names.specs.Letters.{letters-split}

-- the next letter of a name, from the front
pub next_letter : (bits d i : ℕ) → i < d → eqb (bit_and (bits / 2 ^ (d - 1 - i)) 1) 1 ∷ letters i (bits / 2 ^ (d - i)) ≡ letters (i + 1) (bits / 2 ^ (d - (i + 1)))
next_letter bits d i h =
    let bit : bit_and (bits / 2 ^ (d - 1 - i)) 1 ≡ bits / 2 ^ (d - 1 - i) % 2 = and_mask (bits / 2 ^ (d - 1 - i)) 1 in
    let same : d - 1 - i ≡ d - (i + 1) = omega arith in
    let up : d - i ≡ d - (i + 1) + 1 = omega arith in
    let half : bits / 2 ^ (d - i) ≡ bits / 2 ^ (d - (i + 1)) / 2 = ap (λ (j : ℕ). bits / 2 ^ j) up ∙ sym (shr-shr bits (d - (i + 1)) 1) in
    let less : i + 1 - 1 ≡ i = omega arith in
    (λ t. eqb ((bit ∙ ap (λ (j : ℕ). bits / 2 ^ j % 2) same) t) 1 ∷ letters i (half t)) ∙ (λ t. eqb (bits / 2 ^ (d - (i + 1)) % 2) 1 ∷ letters (sym less t) (bits / 2 ^ (d - (i + 1)) / 2)) ∙ sym (letters-split (i + 1) (bits / 2 ^ (d - (i + 1))) (omega arith))
