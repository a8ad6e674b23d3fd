-- There are the words of a fresh table.
use Rattle.std.proofs.Common.{◌≡◌, ◌≢◌, ℕ, zero, suc, ◌+◌, ◌-◌, ◌<◌, ◌≤◌, Bool, true, false, cond, ltb, eqb, List, [], ◌∷◌, length, slice_index, refl, ap, ◌∙◌, arith, lt-ltb, ltb-true, ne_eqb}
use Rattle.table_words.specs.declared.layout.Layout.{Layout}
use Rattle.table_words.specs.declared.layout.ElemAt.TheVariants.{Macro, Child}
use Rattle.table_words.specs.Layout.{Seats, Round, Cursor, FreeCount, Released, LinkOf, Row, OfBlock, TableWord, IsWord, address, word_count}
use Rattle.table_words.specs.FreshWords.{fresh_content, FreshWordsListed}
use Rattle.table_words.proofs.WordPlaces.{words_within}

-- the values of a function from k on, n of them
abbrev values : ℕ → ℕ → (ℕ → ℕ) → List ℕ
values k zero f = []
values k (suc n) f = f k ∷ values (k + 1) n f

values_long : (k n : ℕ) (f : ℕ → ℕ) → length (values k n f) ≡ n
values_long k zero f = refl
values_long k (suc n) f = let e = values_long (k + 1) n f in omega arith

values_at : (k n : ℕ) (f : ℕ → ℕ) (i : ℕ) → i < n → slice_index (values k n f) i ≡ f (k + i)
values_at k zero f i l = absurd (omega arith)
values_at k (suc n) f zero l = let e : k ≡ k + 0 = omega arith in ap f e
values_at k (suc n) f (suc i) l = let e : k + 1 + i ≡ k + suc i = omega arith in values_at (k + 1) n f i (omega arith) ∙ ap f e

-- the rows begin at `base`
abbrev base : Layout → ℕ
base l = 5 + l.rounds + l.elements

abbrev value : Layout → ℕ → ℕ
value l a = cond (eqb a 3) l.pool (cond (ltb a (base l)) 0 (cond (ltb (a - base l) l.pool) (a - base l) 0))

not_less : (a b : ℕ) → b ≤ a → ltb a b ≡ false
not_less a b l = by (ltb a b) refl
  where
    by : (t : Bool) → ltb a b ≡ t → t ≡ false
    by false e = refl
    by true e = let h = ltb-true a b e in absurd (omega arith)

before : (l : Layout) (a : ℕ) → a ≢ 3 → a < base l → value l a ≡ 0
before l a o h = ap (λ (t : Bool). cond t l.pool (cond (ltb a (base l)) 0 (cond (ltb (a - base l) l.pool) (a - base l) 0))) (ne_eqb a 3 o) ∙ ap (λ (t : Bool). cond {A = ℕ} t 0 (cond (ltb (a - base l) l.pool) (a - base l) 0)) (lt-ltb a (base l) h)

from : (l : Layout) (a : ℕ) → base l ≤ a → value l a ≡ cond (ltb (a - base l) l.pool) (a - base l) 0
from l a h = ap (λ (t : Bool). cond t l.pool (cond (ltb a (base l)) 0 (cond (ltb (a - base l) l.pool) (a - base l) 0))) (ne_eqb a 3 (λ (e : a ≡ 3). omega arith)) ∙ ap (λ (t : Bool). cond {A = ℕ} t 0 (cond (ltb (a - base l) l.pool) (a - base l) 0)) (not_less a (base l) h)

row : (l : Layout) (i : ℕ) → i < l.pool → value l (base l + i) ≡ i
row l i h = let e : base l + i - base l ≡ i = omega arith in from l (base l + i) (omega arith) ∙ ap (λ (k : ℕ). cond {A = ℕ} (ltb k l.pool) k 0) e ∙ ap (λ (t : Bool). cond {A = ℕ} t i 0) (lt-ltb i l.pool h)

behind : (l : Layout) (a : ℕ) → base l + l.pool ≤ a → value l a ≡ 0
behind l a h = from l a (omega arith) ∙ ap (λ (t : Bool). cond {A = ℕ} t (a - base l) 0) (not_less (a - base l) l.pool (omega arith))

value_is : (l : Layout) (w : TableWord) → IsWord l w → value l (address l w) ≡ fresh_content l w
value_is l Seats h = before l 0 (λ (e : 0 ≡ 3). omega arith) (omega arith)
value_is l Round h = before l 1 (λ (e : 1 ≡ 3). omega arith) (omega arith)
value_is l Cursor h = before l 2 (λ (e : 2 ≡ 3). omega arith) (omega arith)
value_is l FreeCount h = refl
value_is l (Released q) h = before l (4 + q) (λ (e : 4 + q ≡ 3). omega arith) (omega arith)
value_is l (LinkOf (Macro x)) h = before l (5 + l.rounds + x) (λ (e : 5 + l.rounds + x ≡ 3). omega arith) (omega arith)
value_is l (LinkOf (Child b c)) h = behind l (address l (LinkOf (Child b c))) (omega arith)
value_is l (Row i) h = row l i h
value_is l (OfBlock b f) h = behind l (address l (OfBlock b f)) (omega arith)

from_zero : (a : ℕ) → 0 + a ≡ a
from_zero a = omega arith

pub fresh_words_listed : FreshWordsListed
fresh_words_listed l = (values 0 (word_count l) (value l), (values_long 0 (word_count l) (value l), λ w h. values_at 0 (word_count l) (value l) (address l w) (words_within l w h) ∙ ap (value l) (from_zero (address l w)) ∙ value_is l w h))
