-- A claim of a place's LINK word.
use Rattle.std.proofs.Common.{◌∷◌, ◌≡◌, ℕ, zero, suc, ◌+◌, ◌*◌, ◌/◌, ◌%◌, ◌^◌, ◌<◌, length, get_or, set, refl, sym, ap, ◌∙◌, subst, arith, bit_or, Bool, cond, eq-eqb, ne_eqb}
use Rattle.std.specs.Int.Bits.{or_block}
use lib.Bits.{or_zero_r}
use Rattle.table_words.specs.Functions.{update}
use Rattle.table_words.specs.Layout.{LinkOf, address}
use Rattle.table_words.specs.Places.{place_at, place_count}
use Rattle.table_words.specs.Words.{Words, node, node_of, words_at}
use Rattle.table_words.proofs.Functions.{update_is}
use Rattle.table_words.proofs.Writes.{writes_update}
use Rattle.mesh_table.specs.declared.rule.Site.{Site}
use Rattle.mesh_table.specs.Holds.{Holds}
use Rattle.mesh_table.proofs.Bridge.{St, contents_at}

pub update_again : {A : Type 0} (f : ℕ → A) (i : ℕ) (a : A) → a ≡ f i → update f i a ≡ f
update_again f i a e = sym (update_is f f i a (sym e) (λ _ _. refl))

pub or_one : (n : ℕ) → bit_or n 1 ≡ n / 2 * 2 + 1
or_one n =
    let parts : n ≡ n / 2 * 2 ^ 1 + n % 2 = omega arith in
    let whole : bit_or (n / 2 * 2 ^ 1 + n % 2) (0 * 2 ^ 1 + 1) ≡ bit_or (n / 2) 0 * 2 ^ 1 + bit_or (n % 2) 1 = or_block 1 (n / 2) 0 (n % 2) 1 (omega arith) (omega arith) in
    let zero_ : bit_or (n / 2) 0 ≡ n / 2 = or_zero_r (n / 2) in
    let low : bit_or (n % 2) 1 ≡ 1 = by (n % 2) (omega arith) in
    let first : bit_or n 1 ≡ bit_or (n / 2 * 2 ^ 1 + n % 2) 1 = ap (λ (x : ℕ). bit_or x 1) parts in
    omega arith
  where
    by : (c : ℕ) → c < 2 → bit_or c 1 ≡ 1
    by zero l = refl
    by (suc zero) l = refl
    by (suc (suc c)) l = absurd (omega arith)

module _ (k : Site) (s : St k) (h : Holds k s) (i x : ℕ) (ei : i ≡ address k.layout (LinkOf (place_at k.layout x))) (room : x < place_count k.layout) where
  abbrev w : Words
  w = words_at k.layout s.words

  -- the words of a place's LINK
  pub link_bit : w.claimed x ≡ get_or s.words i 0 % 2
  link_bit = ap (λ (n : ℕ). n % 2) (contents_at k.layout s.words (place_count k.layout) (λ y. LinkOf (place_at k.layout y)) x room ∙ ap (λ (j : ℕ). get_or s.words j 0) (sym ei))

  pub link_head : w.head x ≡ node_of (get_or s.words i 0)
  link_head = ap node_of (contents_at k.layout s.words (place_count k.layout) (λ y. LinkOf (place_at k.layout y)) x room ∙ ap (λ (j : ℕ). get_or s.words j 0) (sym ei))

  pub set_link : (n : ℕ) → words_at k.layout (set s.words i n) ≡ record w { claimed = update w.claimed x (n % 2); head = update w.head x (node_of n) }
  set_link n = ap (λ (j : ℕ). words_at k.layout (set s.words j n)) ei ∙ (writes_update k.layout s.words n h.size_is).link x room
