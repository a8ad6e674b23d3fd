-- The words of a table lie within it, apart, and fill it.
use Rattle.std.proofs.Common.{◌≡◌, ℕ, zero, suc, ◌+◌, ◌-◌, ◌/◌, ◌%◌, ◌<◌, ◌≤◌, true, false, length, refl, sym, ap, ◌∙◌, arith, get_or-set_same, get_or-set_other}
use native.Mathlib.Decide.{dec_lt}
use Rattle.table_words.specs.declared.layout.Layout.{Layout}
use Rattle.table_words.specs.declared.layout.ElemAt.TheVariants.{Macro, Child}
use Rattle.table_words.specs.Layout.{BlockWord, Born, Died, NameOf, HistoryOf, TableWord, Seats, Round, Cursor, FreeCount, Released, LinkOf, Row, OfBlock, IsWord, offset, block_address, address, word_count, WordsWithin, WordsApart, WordsFill, WritesOne}

pub offset_low : (f : BlockWord) → offset f < 6
offset_low Born = omega arith
offset_low Died = omega arith
offset_low (NameOf true) = omega arith
offset_low (NameOf false) = omega arith
offset_low (HistoryOf true) = omega arith
offset_low (HistoryOf false) = omega arith

-- the word of a block at an offset
abbrev at_offset : ℕ → BlockWord
at_offset zero = Born
at_offset (suc zero) = Died
at_offset (suc (suc zero)) = NameOf false
at_offset (suc (suc (suc zero))) = NameOf true
at_offset (suc (suc (suc (suc zero)))) = HistoryOf false
at_offset (suc (suc (suc (suc (suc k))))) = HistoryOf true

offset_back : (f : BlockWord) → at_offset (offset f) ≡ f
offset_back Born = refl
offset_back Died = refl
offset_back (NameOf true) = refl
offset_back (NameOf false) = refl
offset_back (HistoryOf true) = refl
offset_back (HistoryOf false) = refl

offset_at : (k : ℕ) → k < 6 → offset (at_offset k) ≡ k
offset_at zero l = refl
offset_at (suc zero) l = refl
offset_at (suc (suc zero)) l = refl
offset_at (suc (suc (suc zero))) l = refl
offset_at (suc (suc (suc (suc zero)))) l = refl
offset_at (suc (suc (suc (suc (suc zero))))) l = refl
offset_at (suc (suc (suc (suc (suc (suc k)))))) l = absurd (omega arith)

offset_one : (f g : BlockWord) → offset f ≡ offset g → f ≡ g
offset_one f g e = sym (offset_back f) ∙ ap at_offset e ∙ offset_back g

pub words_within : WordsWithin
words_within l Seats h = omega arith
words_within l Round h = omega arith
words_within l Cursor h = omega arith
words_within l FreeCount h = omega arith
words_within l (Released q) h = omega arith
words_within l (LinkOf (Macro x)) h = omega arith
words_within l (LinkOf (Child b c)) h = let m = h.0 in let n = h.1 in omega arith
words_within l (Row i) h = omega arith
words_within l (OfBlock b f) h = let s = offset_low f in omega arith

pub words_apart : WordsApart
words_apart l Seats Seats h g e = refl
words_apart l Seats Round h g e = absurd (omega arith)
words_apart l Seats Cursor h g e = absurd (omega arith)
words_apart l Seats FreeCount h g e = absurd (omega arith)
words_apart l Seats (Released q') h g e = absurd (omega arith)
words_apart l Seats (LinkOf (Macro x')) h g e = absurd (omega arith)
words_apart l Seats (LinkOf (Child b' c')) h g e = let m' = g.0 in let n' = g.1 in absurd (omega arith)
words_apart l Seats (Row i') h g e = absurd (omega arith)
words_apart l Seats (OfBlock b' f') h g e = let t = offset_low f' in absurd (omega arith)
words_apart l Round Seats h g e = absurd (omega arith)
words_apart l Round Round h g e = refl
words_apart l Round Cursor h g e = absurd (omega arith)
words_apart l Round FreeCount h g e = absurd (omega arith)
words_apart l Round (Released q') h g e = absurd (omega arith)
words_apart l Round (LinkOf (Macro x')) h g e = absurd (omega arith)
words_apart l Round (LinkOf (Child b' c')) h g e = let m' = g.0 in let n' = g.1 in absurd (omega arith)
words_apart l Round (Row i') h g e = absurd (omega arith)
words_apart l Round (OfBlock b' f') h g e = let t = offset_low f' in absurd (omega arith)
words_apart l Cursor Seats h g e = absurd (omega arith)
words_apart l Cursor Round h g e = absurd (omega arith)
words_apart l Cursor Cursor h g e = refl
words_apart l Cursor FreeCount h g e = absurd (omega arith)
words_apart l Cursor (Released q') h g e = absurd (omega arith)
words_apart l Cursor (LinkOf (Macro x')) h g e = absurd (omega arith)
words_apart l Cursor (LinkOf (Child b' c')) h g e = let m' = g.0 in let n' = g.1 in absurd (omega arith)
words_apart l Cursor (Row i') h g e = absurd (omega arith)
words_apart l Cursor (OfBlock b' f') h g e = let t = offset_low f' in absurd (omega arith)
words_apart l FreeCount Seats h g e = absurd (omega arith)
words_apart l FreeCount Round h g e = absurd (omega arith)
words_apart l FreeCount Cursor h g e = absurd (omega arith)
words_apart l FreeCount FreeCount h g e = refl
words_apart l FreeCount (Released q') h g e = absurd (omega arith)
words_apart l FreeCount (LinkOf (Macro x')) h g e = absurd (omega arith)
words_apart l FreeCount (LinkOf (Child b' c')) h g e = let m' = g.0 in let n' = g.1 in absurd (omega arith)
words_apart l FreeCount (Row i') h g e = absurd (omega arith)
words_apart l FreeCount (OfBlock b' f') h g e = let t = offset_low f' in absurd (omega arith)
words_apart l (Released q) Seats h g e = absurd (omega arith)
words_apart l (Released q) Round h g e = absurd (omega arith)
words_apart l (Released q) Cursor h g e = absurd (omega arith)
words_apart l (Released q) FreeCount h g e = absurd (omega arith)
words_apart l (Released q) (Released q') h g e = let s : q ≡ q' = omega arith in ap Released s
words_apart l (Released q) (LinkOf (Macro x')) h g e = absurd (omega arith)
words_apart l (Released q) (LinkOf (Child b' c')) h g e = let m' = g.0 in let n' = g.1 in absurd (omega arith)
words_apart l (Released q) (Row i') h g e = absurd (omega arith)
words_apart l (Released q) (OfBlock b' f') h g e = let t = offset_low f' in absurd (omega arith)
words_apart l (LinkOf (Macro x)) Seats h g e = absurd (omega arith)
words_apart l (LinkOf (Macro x)) Round h g e = absurd (omega arith)
words_apart l (LinkOf (Macro x)) Cursor h g e = absurd (omega arith)
words_apart l (LinkOf (Macro x)) FreeCount h g e = absurd (omega arith)
words_apart l (LinkOf (Macro x)) (Released q') h g e = absurd (omega arith)
words_apart l (LinkOf (Macro x)) (LinkOf (Macro x')) h g e = let s : x ≡ x' = omega arith in ap (λ (y : ℕ). LinkOf (Macro y)) s
words_apart l (LinkOf (Macro x)) (LinkOf (Child b' c')) h g e = let m' = g.0 in let n' = g.1 in absurd (omega arith)
words_apart l (LinkOf (Macro x)) (Row i') h g e = absurd (omega arith)
words_apart l (LinkOf (Macro x)) (OfBlock b' f') h g e = let t = offset_low f' in absurd (omega arith)
words_apart l (LinkOf (Child b c)) Seats h g e = let m = h.0 in let n = h.1 in absurd (omega arith)
words_apart l (LinkOf (Child b c)) Round h g e = let m = h.0 in let n = h.1 in absurd (omega arith)
words_apart l (LinkOf (Child b c)) Cursor h g e = let m = h.0 in let n = h.1 in absurd (omega arith)
words_apart l (LinkOf (Child b c)) FreeCount h g e = let m = h.0 in let n = h.1 in absurd (omega arith)
words_apart l (LinkOf (Child b c)) (Released q') h g e = let m = h.0 in let n = h.1 in absurd (omega arith)
words_apart l (LinkOf (Child b c)) (LinkOf (Macro x')) h g e = let m = h.0 in let n = h.1 in absurd (omega arith)
words_apart l (LinkOf (Child b c)) (LinkOf (Child b' c')) h g e = let m = h.1 in let n = g.1 in let s : b ≡ b' = omega arith in let t : c ≡ c' = omega arith in λ i. LinkOf (Child (s i) (t i))
words_apart l (LinkOf (Child b c)) (Row i') h g e = let m = h.0 in let n = h.1 in absurd (omega arith)
words_apart l (LinkOf (Child b c)) (OfBlock b' f') h g e = let t = offset_low f' in let m = h.0 in let n = h.1 in absurd (omega arith)
words_apart l (Row i) Seats h g e = absurd (omega arith)
words_apart l (Row i) Round h g e = absurd (omega arith)
words_apart l (Row i) Cursor h g e = absurd (omega arith)
words_apart l (Row i) FreeCount h g e = absurd (omega arith)
words_apart l (Row i) (Released q') h g e = absurd (omega arith)
words_apart l (Row i) (LinkOf (Macro x')) h g e = absurd (omega arith)
words_apart l (Row i) (LinkOf (Child b' c')) h g e = let m' = g.0 in let n' = g.1 in absurd (omega arith)
words_apart l (Row i) (Row i') h g e = let s : i ≡ i' = omega arith in ap Row s
words_apart l (Row i) (OfBlock b' f') h g e = let t = offset_low f' in absurd (omega arith)
words_apart l (OfBlock b f) Seats h g e = let s = offset_low f in absurd (omega arith)
words_apart l (OfBlock b f) Round h g e = let s = offset_low f in absurd (omega arith)
words_apart l (OfBlock b f) Cursor h g e = let s = offset_low f in absurd (omega arith)
words_apart l (OfBlock b f) FreeCount h g e = let s = offset_low f in absurd (omega arith)
words_apart l (OfBlock b f) (Released q') h g e = let s = offset_low f in absurd (omega arith)
words_apart l (OfBlock b f) (LinkOf (Macro x')) h g e = let s = offset_low f in absurd (omega arith)
words_apart l (OfBlock b f) (LinkOf (Child b' c')) h g e = let s = offset_low f in let m' = g.0 in let n' = g.1 in absurd (omega arith)
words_apart l (OfBlock b f) (Row i') h g e = let s = offset_low f in absurd (omega arith)
words_apart l (OfBlock b f) (OfBlock b' f') h g e = let s = offset_low f in let t = offset_low f' in let u : b ≡ b' = omega arith in let v = offset_one f f' (omega arith) in λ i. OfBlock (u i) (v i)

-- the word at an address, by the part of the table in which it lies
single_fill : (l : Layout) (i : ℕ) → i < 4 → (w : TableWord) × IsWord l w × (address l w ≡ i)
single_fill l zero h = (Seats, tt, refl)
single_fill l (suc zero) h = (Round, tt, refl)
single_fill l (suc (suc zero)) h = (Cursor, tt, refl)
single_fill l (suc (suc (suc zero))) h = (FreeCount, tt, refl)
single_fill l (suc (suc (suc (suc i)))) h = absurd (omega arith)

block_fill : (l : Layout) (i : ℕ) → block_address l 0 ≤ i → i < word_count l → (w : TableWord) × IsWord l w × (address l w ≡ i)
block_fill l i low high =
    let k : ℕ = (i - block_address l 0) % 10 in
    let b : ℕ = (i - block_address l 0) / 10 in
    let inside : b < l.pool = omega arith in
    elim (dec_lt k 6) [
      | yes s ↦ (OfBlock b (at_offset k), inside, let o = offset_at k s in omega arith)
      | no s ↦ (LinkOf (Child b (k - 6)), (inside, omega arith), omega arith)
    ]

pub words_fill : WordsFill
words_fill l i h = elim (dec_lt i 4) [
  | yes a ↦ single_fill l i a
  | no a ↦ elim (dec_lt i (5 + l.rounds)) [
    | yes b ↦ (Released (i - 4), omega arith, omega arith)
    | no b ↦ elim (dec_lt i (5 + l.rounds + l.elements)) [
      | yes c ↦ (LinkOf (Macro (i - (5 + l.rounds))), omega arith, omega arith)
      | no c ↦ elim (dec_lt i (5 + l.rounds + l.elements + l.pool)) [
        | yes d ↦ (Row (i - (5 + l.rounds + l.elements)), omega arith, omega arith)
        | no d ↦ block_fill l i (omega arith) h
      ]
    ]
  ]
]

pub writes_one : WritesOne
writes_one l words v w n long h g =
    let inside : address l v < length words = let a = words_within l v h in omega arith in (
      get_or-set_same words (address l v) n 0 inside,
      λ ne. get_or-set_other words (address l v) (address l w) n 0 (λ e. ne (words_apart l w v g h e)),
    )
