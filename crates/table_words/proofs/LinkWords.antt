-- A link and its word give each other.
use Rattle.std.proofs.Common.{◌≡◌, ℕ, zero, suc, ◌+◌, ◌*◌, ◌/◌, ◌%◌, ◌^◌, ◌<◌, Bool, true, false, eqb, Option, Some, None, IfSome, refl, ap, ◌∙◌, arith, bit_or, eq-eqb, ne_eqb}
use Rattle.std.specs.Int.Bits.{or_block}
use lib.Bits.{or_zero_r}
use Rattle.mesh_names.specs.Names.{digit}
use Rattle.table_words.specs.Links.{after, before, link_word, LinksRead, LinksSpell, ClaimSets}
use Rattle.table_words.specs.Words.{node, NodesRead}

-- the three parts of a spelled word, whose lowest is c and whose middle is k
module _ (c k d : ℕ) (bit : c < 2) (room : k < 2097152) (low : d < 65536) where
  abbrev pub spelled : ℕ
  spelled = c + 2 * k + 4194304 * d

  pub lowest : spelled % 2 ≡ c
  lowest = omega arith

  pub middle : spelled / 2 % 2097152 ≡ k
  middle = omega arith

  pub upper : spelled / 4194304 % 65536 ≡ d
  upper = omega arith

  pub small : spelled < 2 ^ 38
  small = omega arith

digit_small : (b : Bool) → digit b < 2
digit_small true = omega arith
digit_small false = omega arith

digit_back : (b : Bool) (n : ℕ) → n ≡ digit b → eqb n 1 ≡ b
digit_back true n e = eq-eqb n 1 e
digit_back false n e = ne_eqb n 1 (λ (f : n ≡ 1). omega arith)

digit_eqb : (n : ℕ) → n < 2 → digit (eqb n 1) ≡ n
digit_eqb zero l = refl
digit_eqb (suc zero) l = refl
digit_eqb (suc (suc n)) l = absurd (omega arith)

after_small : (o : Option ℕ) → IfSome o (λ b. b < 2097151) → after o < 2097152
after_small None h = omega arith
after_small (Some b) h = omega arith

before_after : (o : Option ℕ) → before (after o) ≡ o
before_after None = refl
before_after (Some b) = one (b + 1) (omega arith)
  where
    one : (n : ℕ) → n ≡ suc b → before n ≡ Some b
    one n e = ap before e

after_before : (n : ℕ) → after (before n) ≡ n
after_before zero = refl
after_before (suc b) = omega arith

before_small : (n : ℕ) → n < 2097152 → IfSome (before n) (λ b. b < 2097151)
before_small zero l = tt
before_small (suc b) l = omega arith

pub links_read : LinksRead
links_read l h =
    let c = digit_small l.claimed in
    let k = after_small l.block h.0 in (
      small (digit l.claimed) (after l.block) l.died c k h.1,
      λ i. record {
        claimed = digit_back l.claimed (link_word l % 2) (lowest (digit l.claimed) (after l.block) l.died c k h.1) i;
        block = (ap before (middle (digit l.claimed) (after l.block) l.died c k h.1) ∙ before_after l.block) i;
        died = upper (digit l.claimed) (after l.block) l.died c k h.1 i;
      },
    )

pub links_spell : LinksSpell
links_spell n small =
    let bit : digit (eqb (n % 2) 1) ≡ n % 2 = digit_eqb (n % 2) (omega arith) in
    let mid : after (before (n / 2 % 2097152)) ≡ n / 2 % 2097152 = after_before (n / 2 % 2097152) in
    ((before_small (n / 2 % 2097152) (omega arith), omega arith), omega arith)

-- `or` with 1 of a number in two parts
or_bit : (k c : ℕ) → c < 2 → bit_or (k * 2 + c) 1 ≡ k * 2 + 1
or_bit k c l =
    let whole : bit_or (k * 2 ^ 1 + c) (0 * 2 ^ 1 + 1) ≡ bit_or k 0 * 2 ^ 1 + bit_or c 1 = or_block 1 k 0 c 1 (omega arith) (omega arith) in
    let zero_ = or_zero_r k in
    let low : bit_or c 1 ≡ 1 = by c l in
    omega arith
  where
    by : (c : ℕ) → c < 2 → bit_or c 1 ≡ 1
    by zero l = refl
    by (suc zero) l = refl
    by (suc (suc c)) l = absurd (omega arith)

pub claim_sets : ClaimSets
claim_sets l h =
    let parts : link_word l ≡ (after l.block + 2097152 * l.died) * 2 + digit l.claimed = omega arith in
    let whole : bit_or (link_word l) 1 ≡ (after l.block + 2097152 * l.died) * 2 + 1 = ap (λ (n : ℕ). bit_or n 1) parts ∙ or_bit (after l.block + 2097152 * l.died) (digit l.claimed) (digit_small l.claimed) in
    omega arith

pub nodes_read : NodesRead
nodes_read l h =
    let c = digit_small l.claimed in
    let k = after_small l.block h.0 in
    λ i. node (middle (digit l.claimed) (after l.block) l.died c k h.1 i) (upper (digit l.claimed) (after l.block) l.died c k h.1 i)
