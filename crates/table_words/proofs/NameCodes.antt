-- A name and its word give each other.
use Rattle.std.proofs.Common.{◌≡◌, ◌≢◌, ℕ, suc, ◌+◌, ◌-◌, ◌*◌, ◌/◌, ◌%◌, ◌^◌, ◌<◌, ◌≤◌, Bool, true, false, cond, eqb, List, [], ◌∷◌, length, Option, Some, None, inl, inr, ◌⊎◌, refl, sym, ap, ◌∙◌, subst, arith, eq-eqb, ne_eqb}
use Rattle.std.proofs.Math.Pow.{pow_mono}
use Rattle.mesh_names.specs.Names.{Name, digit, letters, bits_of, depth}
use Rattle.mesh_names.specs.Letters.{length-letters, bits-letters}
use Rattle.table_words.specs.NameWords.{spelled_word, AreParts, IsRooted, name_code, name_word, IsNameWord, name_in, name_of, NamesRead, NamesSpell}

digit_small : (b : Bool) → digit b < 2
digit_small true = omega arith
digit_small false = omega arith

digit_back : (b : Bool) (n : ℕ) → n ≡ digit b → eqb n 1 ≡ b
digit_back true n e = eq-eqb n 1 e
digit_back false n e = ne_eqb n 1 (λ (f : n ≡ 1). omega arith)

one_more_bit : (n a d : ℕ) → a < 2 ^ n → d < 2 → a * 2 + d < 2 ^ suc n
one_more_bit n a d h l = omega arith

-- the bits of a word are below the power of its length
pub bits_below : (w : List Bool) → bits_of w < 2 ^ length w
bits_below [] = omega arith
bits_below (b ∷ w) = one_more_bit (length w) (bits_of w) (digit b) (bits_below w) (digit_small b)

-- a word is spelled by its bits
pub letters-bits : (w : List Bool) → letters (length w) (bits_of w) ≡ w
letters-bits [] = refl
letters-bits (b ∷ w) =
    let d = digit_small b in
    let low : (bits_of w * 2 + digit b) % 2 ≡ digit b = omega arith in
    let high : (bits_of w * 2 + digit b) / 2 ≡ bits_of w = omega arith in
    λ i. digit_back b ((bits_of w * 2 + digit b) % 2) low i ∷ (ap (letters (length w)) high ∙ letters-bits w) i

pub few_bits : (n : Name) → depth n ≤ 24 → bits_of n.1 < 16777216
few_bits n l = let a = bits_below n.1 in let b : 2 ^ depth n ≤ 2 ^ 24 = pow_mono l in omega arith

-- the three parts of a code, less 1
module _ (n : Name) (h : depth n ≤ 24) where
  pub root_part : (name_code n - 1) / 536870912 ≡ n.0
  root_part = let b = few_bits n h in omega arith

  pub depth_part : (name_code n - 1) / 16777216 % 32 ≡ depth n
  depth_part = let b = few_bits n h in omega arith

  pub bits_part : (name_code n - 1) % 16777216 ≡ bits_of n.1
  bits_part = let b = few_bits n h in omega arith

  pub code_back : name_in (name_code n - 1) ≡ n
  code_back = λ i. (root_part i, (ap (λ (k : ℕ). letters k ((name_code n - 1) % 16777216)) depth_part ∙ ap (letters (depth n)) bits_part ∙ letters-bits n.1) i)

pub some_name : (k : ℕ) → k ≢ 0 → name_of k ≡ Some (name_in (k - 1))
some_name k ne = ap (λ (t : Bool). cond {A = Option Name} t None (Some (name_in (k - 1)))) (ne_eqb k 0 ne)

pub names_read : NamesRead
names_read None h = refl
names_read (Some n) h = some_name (name_code n) (λ (e : name_code n ≡ 0). omega arith) ∙ ap Some (code_back n h.1)

pub names_spell : NamesSpell
names_spell = (spells, parts)
  where
    code : (root level bits : ℕ) → bits < 2 ^ level → name_code (root, letters level bits) ≡ spelled_word root level bits
    code root level bits h = λ i. 1 + root * 536870912 + length-letters level bits i * 16777216 + bits-letters level bits h i

    rooted : (root level bits : ℕ) → AreParts root level bits → IsRooted (root, letters level bits)
    rooted root level bits h = (h.0, subst (λ (d : ℕ). d ≤ 24) (sym (length-letters level bits)) h.1)

    spells : (root level bits : ℕ) → AreParts root level bits → (name_of (spelled_word root level bits) ≡ Some (root, letters level bits)) × (name_word (Some (root, letters level bits)) ≡ spelled_word root level bits) × IsNameWord (spelled_word root level bits)
    spells root level bits h = let c = code root level bits h.2 in let t = rooted root level bits h in (ap name_of (sym c) ∙ names_read (Some (root, letters level bits)) t, c, (Some (root, letters level bits), t, sym c))

    parts : (k : ℕ) → IsNameWord k → (k ≡ 0) ⊎ ((root level bits : ℕ) × AreParts root level bits × (k ≡ spelled_word root level bits))
    parts k (None, h, e) = inl e
    parts k (Some n, h, e) = inr (n.0, depth n, bits_of n.1, (h.0, h.1, bits_below n.1), e)

-- what a word that is not 0 spells
pub named : (k : ℕ) → k ≢ 0 → IsNameWord k → (n : Name) × IsRooted n × (k ≡ name_code n)
named k ne (None, h, e) = absurd (ne e)
named k ne (Some n, h, e) = (n, h, e)

-- the parts of a word that is not 0 are those of a name
pub parts_fit : (k : ℕ) → k ≢ 0 → IsNameWord k → ((k - 1) / 536870912 < 65535) × ((k - 1) / 16777216 % 32 ≤ 24) × ((k - 1) % 16777216 < 2 ^ ((k - 1) / 16777216 % 32))
parts_fit k ne h = let t = named k ne h in subst (λ (k : ℕ). ((k - 1) / 536870912 < 65535) × ((k - 1) / 16777216 % 32 ≤ 24) × ((k - 1) % 16777216 < 2 ^ ((k - 1) / 16777216 % 32))) (sym t.2)
    (let a = root_part t.0 t.1.1 in let b = depth_part t.0 t.1.1 in let r = t.1.0 in let d = t.1.1 in (omega arith, omega arith, subst (λ (p : ℕ × ℕ). p.0 < 2 ^ p.1) (λ i. (sym (bits_part t.0 t.1.1) i, sym (depth_part t.0 t.1.1) i)) (bits_below t.0.1)))
