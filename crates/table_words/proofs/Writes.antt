-- A write of one word changes one function at one number.
use Rattle.std.proofs.Common.{◌≡◌, ◌≢◌, ℕ, zero, suc, ◌+◌, ◌*◌, ◌/◌, ◌%◌, ◌<◌, ◌≤◌, Bool, true, false, cond, ltb, eqb, List, length, slice_set, refl, sym, ap, ◌∙◌, arith, ltb-true, lt-ltb}
use mathlib.Core.Path.{fun_ext}
use Rattle.mesh_names.specs.Names.{digit}
use Rattle.table_words.specs.declared.layout.Layout.{Layout}
use Rattle.table_words.specs.Functions.{update}
use Rattle.table_words.specs.Layout.{BlockWord, Born, Died, NameOf, HistoryOf, TableWord, Seats, Round, Cursor, FreeCount, Released, LinkOf, Row, OfBlock, IsWord, address, word_count, content}
use Rattle.table_words.specs.Places.{place_count, place_number, place_at}
use Rattle.table_words.specs.Words.{node_of, Words, history_word, member_name_word, contents, words_at, WritesUpdate}
use Rattle.table_words.proofs.Functions.{update_is, part_set}
use Rattle.table_words.proofs.PlaceNumbers.{places_numbered}
use Rattle.table_words.proofs.WordPlaces.{writes_one}

-- a number for each kind of word
abbrev kind : TableWord → ℕ
kind Seats = 0
kind Round = 1
kind Cursor = 2
kind FreeCount = 3
kind (Released q) = 4
kind (LinkOf at) = 5
kind (Row i) = 6
kind (OfBlock b Born) = 7
kind (OfBlock b Died) = 8
kind (OfBlock b (NameOf t)) = 9
kind (OfBlock b (HistoryOf t)) = 10

module _ (l : Layout) (words : List ℕ) (long : length words ≡ word_count l) where
  -- a word of another kind keeps its content
  other_kind : (v w : TableWord) (n : ℕ) → IsWord l v → IsWord l w → kind w ≢ kind v → content l (slice_set words (address l v) n) w ≡ content l words w
  other_kind v w n h g ne = (writes_one l words v w n long h g).1 (λ e. ne (ap kind e))

  here : (v : TableWord) (n : ℕ) → IsWord l v → content l (slice_set words (address l v) n) v ≡ n
  here v n h = (writes_one l words v v n long h h).0

  -- the contents of numbered words, where a word that is none of them changes
  apart_from : (v : TableWord) (n k : ℕ) (f : ℕ → TableWord) → IsWord l v → ((i : ℕ) → i < k → IsWord l (f i)) → ((i : ℕ) → kind (f i) ≢ kind v) → contents l (slice_set words (address l v) n) k f ≡ contents l words k f
  apart_from v n k f h each ne = fun_ext {f = contents l (slice_set words (address l v) n) k f} {g = contents l words k f} (λ i. by i (ltb i k) refl)
    where
      by : (i : ℕ) (t : Bool) → ltb i k ≡ t → contents l (slice_set words (address l v) n) k f i ≡ contents l words k f i
      by i true e = let s = other_kind v (f i) n h (each i (ltb-true i k e)) (ne i) in (λ j. cond (e j) (content l (slice_set words (address l v) n) (f i)) 0) ∙ s ∙ sym (λ j. cond (e j) (content l words (f i)) 0)
      by i false e = (λ j. cond (e j) (content l (slice_set words (address l v) n) (f i)) 0) ∙ sym (λ j. cond (e j) (content l words (f i)) 0)

  -- the contents of numbered words, where one of them changes
  one_of : (n k : ℕ) (f : ℕ → TableWord) (a : ℕ) → a < k → ((i : ℕ) → i < k → IsWord l (f i)) → ((i j : ℕ) → i < k → j < k → f i ≡ f j → i ≡ j) → contents l (slice_set words (address l (f a)) n) k f ≡ update (contents l words k f) a n
  one_of n k f a low each apart = update_is (contents l words k f) (contents l (slice_set words (address l (f a)) n) k f) a n
      ((λ j. cond (lt-ltb a k low j) (content l (slice_set words (address l (f a)) n) (f a)) 0) ∙ here (f a) n (each a low))
      (λ i ne. by i ne (ltb i k) refl)
    where
      by : (i : ℕ) → i ≢ a → (t : Bool) → ltb i k ≡ t → contents l (slice_set words (address l (f a)) n) k f i ≡ contents l words k f i
      by i ne true e = let s = (writes_one l words (f a) (f i) n long (each a low) (each i (ltb-true i k e))).1 (λ q. ne (apart i a (ltb-true i k e) low q)) in
          (λ j. cond (e j) (content l (slice_set words (address l (f a)) n) (f i)) 0) ∙ s ∙ sym (λ j. cond (e j) (content l words (f i)) 0)
      by i ne false e = (λ j. cond (e j) (content l (slice_set words (address l (f a)) n) (f i)) 0) ∙ sym (λ j. cond (e j) (content l words (f i)) 0)

-- the words of each kind are words of the table, and apart
released_word : (l : Layout) (q : ℕ) → q < l.rounds + 1 → IsWord l (Released q)
released_word l q h = omega arith

link_word_at : (l : Layout) (x : ℕ) → x < place_count l → IsWord l (LinkOf (place_at l x))
link_word_at l x h = ((places_numbered l).1 x h).0

half_inside : (l : Layout) (h : ℕ) → h < 2 * l.pool → h / 2 < l.pool
half_inside l h m = omega arith

released_one : (i j : ℕ) → Released i ≡ Released j → i ≡ j
released_one i j e = cc

row_one : (i j : ℕ) → Row i ≡ Row j → i ≡ j
row_one i j e = cc

block_one : (f : BlockWord) (i j : ℕ) → OfBlock i f ≡ OfBlock j f → i ≡ j
block_one f i j e = cc

link_one : (l : Layout) (i j : ℕ) → i < place_count l → j < place_count l → LinkOf (place_at l i) ≡ LinkOf (place_at l j) → i ≡ j
link_one l i j a b e = sym ((places_numbered l).1 i a).1 ∙ ap (place_number l) (inside (place_at l i) (place_at l j) e) ∙ ((places_numbered l).1 j b).1
  where
    inside : (u v : _) → LinkOf u ≡ LinkOf v → u ≡ v
    inside u v e = cc

-- a member's number by its block and side
member_back : (i j : ℕ) → i / 2 ≡ j / 2 → eqb (i % 2) 1 ≡ eqb (j % 2) 1 → i ≡ j
member_back i j e f = let a = low (i % 2) (omega arith) in let b = low (j % 2) (omega arith) in let c : digit (eqb (i % 2) 1) ≡ digit (eqb (j % 2) 1) = ap digit f in omega arith
  where
    low : (n : ℕ) → n < 2 → digit (eqb n 1) ≡ n
    low zero h = refl
    low (suc zero) h = refl
    low (suc (suc n)) h = absurd (omega arith)

history_one : (i j : ℕ) → history_word i ≡ history_word j → i ≡ j
history_one i j e = let t = parts (i / 2) (j / 2) (eqb (i % 2) 1) (eqb (j % 2) 1) e in member_back i j t.0 t.1
  where
    parts : (b c : ℕ) (s t : Bool) → OfBlock b (HistoryOf s) ≡ OfBlock c (HistoryOf t) → (b ≡ c) × (s ≡ t)
    parts b c s t e = (cc, cc)

name_one : (i j : ℕ) → member_name_word i ≡ member_name_word j → i ≡ j
name_one i j e = let t = parts (i / 2) (j / 2) (eqb (i % 2) 1) (eqb (j % 2) 1) e in member_back i j t.0 t.1
  where
    parts : (b c : ℕ) (s t : Bool) → OfBlock b (NameOf s) ≡ OfBlock c (NameOf t) → (b ≡ c) × (s ≡ t)
    parts b c s t e = (cc, cc)

-- each function of the words, where the word v is of another kind
module _ (l : Layout) (words : List ℕ) (long : length words ≡ word_count l) (v : TableWord) (n : ℕ) (h : IsWord l v) where
  abbrev after : List ℕ
  after = slice_set words (address l v) n

  round_kept : kind v ≢ 1 → content l after Round ≡ content l words Round
  round_kept ne = other_kind l words long v Round n h tt (λ e. ne (sym e))

  cursor_kept : kind v ≢ 2 → content l after Cursor ≡ content l words Cursor
  cursor_kept ne = other_kind l words long v Cursor n h tt (λ e. ne (sym e))

  free_kept : kind v ≢ 3 → content l after FreeCount ≡ content l words FreeCount
  free_kept ne = other_kind l words long v FreeCount n h tt (λ e. ne (sym e))

  released_kept : kind v ≢ 4 → contents l after (l.rounds + 1) Released ≡ contents l words (l.rounds + 1) Released
  released_kept ne = apart_from l words long v n (l.rounds + 1) Released h (released_word l) (λ i e. ne (sym e))

  link_kept : kind v ≢ 5 → contents l after (place_count l) (λ y. LinkOf (place_at l y)) ≡ contents l words (place_count l) (λ y. LinkOf (place_at l y))
  link_kept ne = apart_from l words long v n (place_count l) (λ y. LinkOf (place_at l y)) h (link_word_at l) (λ i e. ne (sym e))

  row_kept : kind v ≢ 6 → contents l after l.pool Row ≡ contents l words l.pool Row
  row_kept ne = apart_from l words long v n l.pool Row h (λ i m. m) (λ i e. ne (sym e))

  born_kept : kind v ≢ 7 → contents l after l.pool (λ b. OfBlock b Born) ≡ contents l words l.pool (λ b. OfBlock b Born)
  born_kept ne = apart_from l words long v n l.pool (λ b. OfBlock b Born) h (λ i m. m) (λ i e. ne (sym e))

  died_kept : kind v ≢ 8 → contents l after l.pool (λ b. OfBlock b Died) ≡ contents l words l.pool (λ b. OfBlock b Died)
  died_kept ne = apart_from l words long v n l.pool (λ b. OfBlock b Died) h (λ i m. m) (λ i e. ne (sym e))

  name_kept : kind v ≢ 9 → contents l after (2 * l.pool) member_name_word ≡ contents l words (2 * l.pool) member_name_word
  name_kept ne = apart_from l words long v n (2 * l.pool) member_name_word h (half_inside l) (λ i e. ne (sym e))

  history_kept : kind v ≢ 10 → contents l after (2 * l.pool) history_word ≡ contents l words (2 * l.pool) history_word
  history_kept ne = apart_from l words long v n (2 * l.pool) history_word h (half_inside l) (λ i e. ne (sym e))

-- the words by the contents of each kind
abbrev made : ℕ → ℕ → ℕ → (ℕ → ℕ) → (ℕ → ℕ) → (ℕ → ℕ) → (ℕ → ℕ) → (ℕ → ℕ) → (ℕ → ℕ) → (ℕ → ℕ) → Words
made round cursor free released row link history born died name = record { round = round / 4294967296; taken = round % 4294967296; cursor = cursor; free = free; released = released; row = row; claimed = λ x. link x % 2; head = λ x. node_of (link x); history = λ h. node_of (history h); born = born; died = died; name = name }

module _ (l : Layout) (words : List ℕ) (n : ℕ) (long : length words ≡ word_count l) where
  set_round : words_at l (slice_set words (address l Round) n) ≡ record (words_at l words) { round = n / 4294967296; taken = n % 4294967296 }
  set_round = λ t. made (here l words long Round n tt t) (cursor_kept l words long Round n tt (λ e. omega arith) t) (free_kept l words long Round n tt (λ e. omega arith) t) (released_kept l words long Round n tt (λ e. omega arith) t) (row_kept l words long Round n tt (λ e. omega arith) t)
      (link_kept l words long Round n tt (λ e. omega arith) t) (history_kept l words long Round n tt (λ e. omega arith) t) (born_kept l words long Round n tt (λ e. omega arith) t) (died_kept l words long Round n tt (λ e. omega arith) t) (name_kept l words long Round n tt (λ e. omega arith) t)

  set_cursor : words_at l (slice_set words (address l Cursor) n) ≡ record (words_at l words) { cursor = n }
  set_cursor = λ t. made (round_kept l words long Cursor n tt (λ e. omega arith) t) (here l words long Cursor n tt t) (free_kept l words long Cursor n tt (λ e. omega arith) t) (released_kept l words long Cursor n tt (λ e. omega arith) t) (row_kept l words long Cursor n tt (λ e. omega arith) t) (link_kept l words long Cursor n tt (λ e. omega arith) t) (history_kept l words long Cursor n tt (λ e. omega arith) t) (born_kept l words long Cursor n tt (λ e. omega arith) t) (died_kept l words long Cursor n tt (λ e. omega arith) t) (name_kept l words long Cursor n tt (λ e. omega arith) t)

  set_free : words_at l (slice_set words (address l FreeCount) n) ≡ record (words_at l words) { free = n }
  set_free = λ t. made (round_kept l words long FreeCount n tt (λ e. omega arith) t) (cursor_kept l words long FreeCount n tt (λ e. omega arith) t) (here l words long FreeCount n tt t) (released_kept l words long FreeCount n tt (λ e. omega arith) t) (row_kept l words long FreeCount n tt (λ e. omega arith) t) (link_kept l words long FreeCount n tt (λ e. omega arith) t) (history_kept l words long FreeCount n tt (λ e. omega arith) t) (born_kept l words long FreeCount n tt (λ e. omega arith) t) (died_kept l words long FreeCount n tt (λ e. omega arith) t) (name_kept l words long FreeCount n tt (λ e. omega arith) t)

  set_released : (q : ℕ) → q ≤ l.rounds → words_at l (slice_set words (address l (Released q)) n) ≡ record (words_at l words) { released = update (words_at l words).released q n }
  set_released q m = λ t. made (round_kept l words long (Released q) n m (λ e. omega arith) t) (cursor_kept l words long (Released q) n m (λ e. omega arith) t) (free_kept l words long (Released q) n m (λ e. omega arith) t) (one_of l words long n (l.rounds + 1) Released q (omega arith) (released_word l) (λ i j _ _ e. released_one i j e) t) (row_kept l words long (Released q) n m (λ e. omega arith) t) (link_kept l words long (Released q) n m (λ e. omega arith) t) (history_kept l words long (Released q) n m (λ e. omega arith) t) (born_kept l words long (Released q) n m (λ e. omega arith) t) (died_kept l words long (Released q) n m (λ e. omega arith) t) (name_kept l words long (Released q) n m (λ e. omega arith) t)

  set_row : (i : ℕ) → i < l.pool → words_at l (slice_set words (address l (Row i)) n) ≡ record (words_at l words) { row = update (words_at l words).row i n }
  set_row i m = λ t. made (round_kept l words long (Row i) n m (λ e. omega arith) t) (cursor_kept l words long (Row i) n m (λ e. omega arith) t) (free_kept l words long (Row i) n m (λ e. omega arith) t) (released_kept l words long (Row i) n m (λ e. omega arith) t) (one_of l words long n l.pool Row i m (λ i m. m) (λ i j _ _ e. row_one i j e) t) (link_kept l words long (Row i) n m (λ e. omega arith) t) (history_kept l words long (Row i) n m (λ e. omega arith) t) (born_kept l words long (Row i) n m (λ e. omega arith) t) (died_kept l words long (Row i) n m (λ e. omega arith) t) (name_kept l words long (Row i) n m (λ e. omega arith) t)

  set_link : (x : ℕ) → x < place_count l → words_at l (slice_set words (address l (LinkOf (place_at l x))) n) ≡ record (words_at l words) { claimed = update (words_at l words).claimed x (n % 2); head = update (words_at l words).head x (node_of n) }
  set_link x m = λ t. record { round = (round_kept l words long (LinkOf (place_at l x)) n (link_word_at l x m) (λ e. omega arith) t) / 4294967296; taken = (round_kept l words long (LinkOf (place_at l x)) n (link_word_at l x m) (λ e. omega arith) t) % 4294967296; cursor = (cursor_kept l words long (LinkOf (place_at l x)) n (link_word_at l x m) (λ e. omega arith) t); free = (free_kept l words long (LinkOf (place_at l x)) n (link_word_at l x m) (λ e. omega arith) t); released = (released_kept l words long (LinkOf (place_at l x)) n (link_word_at l x m) (λ e. omega arith) t); row = (row_kept l words long (LinkOf (place_at l x)) n (link_word_at l x m) (λ e. omega arith) t); claimed = ((λ s y. one_of l words long n (place_count l) (λ y. LinkOf (place_at l y)) x m (link_word_at l) (link_one l) s y % 2) ∙ part_set (λ (k : ℕ). k % 2) (contents l words (place_count l) (λ y. LinkOf (place_at l y))) x n) t; head = ((λ s y. node_of (one_of l words long n (place_count l) (λ y. LinkOf (place_at l y)) x m (link_word_at l) (link_one l) s y)) ∙ part_set node_of (contents l words (place_count l) (λ y. LinkOf (place_at l y))) x n) t; history = λ h. node_of ((history_kept l words long (LinkOf (place_at l x)) n (link_word_at l x m) (λ e. omega arith) t) h); born = (born_kept l words long (LinkOf (place_at l x)) n (link_word_at l x m) (λ e. omega arith) t); died = (died_kept l words long (LinkOf (place_at l x)) n (link_word_at l x m) (λ e. omega arith) t); name = (name_kept l words long (LinkOf (place_at l x)) n (link_word_at l x m) (λ e. omega arith) t) }

  set_history : (h : ℕ) → h < 2 * l.pool → words_at l (slice_set words (address l (history_word h)) n) ≡ record (words_at l words) { history = update (words_at l words).history h (node_of n) }
  set_history h m = λ t. record { round = (round_kept l words long (history_word h) n (half_inside l h m) (λ e. omega arith) t) / 4294967296; taken = (round_kept l words long (history_word h) n (half_inside l h m) (λ e. omega arith) t) % 4294967296; cursor = (cursor_kept l words long (history_word h) n (half_inside l h m) (λ e. omega arith) t); free = (free_kept l words long (history_word h) n (half_inside l h m) (λ e. omega arith) t); released = (released_kept l words long (history_word h) n (half_inside l h m) (λ e. omega arith) t); row = (row_kept l words long (history_word h) n (half_inside l h m) (λ e. omega arith) t); claimed = λ x. (link_kept l words long (history_word h) n (half_inside l h m) (λ e. omega arith) t) x % 2; head = λ x. node_of ((link_kept l words long (history_word h) n (half_inside l h m) (λ e. omega arith) t) x); history = ((λ s y. node_of (one_of l words long n (2 * l.pool) history_word h m (half_inside l) (λ i j _ _ e. history_one i j e) s y)) ∙ part_set node_of (contents l words (2 * l.pool) history_word) h n) t; born = (born_kept l words long (history_word h) n (half_inside l h m) (λ e. omega arith) t); died = (died_kept l words long (history_word h) n (half_inside l h m) (λ e. omega arith) t); name = (name_kept l words long (history_word h) n (half_inside l h m) (λ e. omega arith) t) }

  set_born : (b : ℕ) → b < l.pool → words_at l (slice_set words (address l (OfBlock b Born)) n) ≡ record (words_at l words) { born = update (words_at l words).born b n }
  set_born b m = λ t. made (round_kept l words long (OfBlock b Born) n m (λ e. omega arith) t) (cursor_kept l words long (OfBlock b Born) n m (λ e. omega arith) t) (free_kept l words long (OfBlock b Born) n m (λ e. omega arith) t) (released_kept l words long (OfBlock b Born) n m (λ e. omega arith) t) (row_kept l words long (OfBlock b Born) n m (λ e. omega arith) t) (link_kept l words long (OfBlock b Born) n m (λ e. omega arith) t) (history_kept l words long (OfBlock b Born) n m (λ e. omega arith) t) (one_of l words long n l.pool (λ b. OfBlock b Born) b m (λ i m. m) (λ i j _ _ e. block_one Born i j e) t) (died_kept l words long (OfBlock b Born) n m (λ e. omega arith) t) (name_kept l words long (OfBlock b Born) n m (λ e. omega arith) t)

  set_died : (b : ℕ) → b < l.pool → words_at l (slice_set words (address l (OfBlock b Died)) n) ≡ record (words_at l words) { died = update (words_at l words).died b n }
  set_died b m = λ t. made (round_kept l words long (OfBlock b Died) n m (λ e. omega arith) t) (cursor_kept l words long (OfBlock b Died) n m (λ e. omega arith) t) (free_kept l words long (OfBlock b Died) n m (λ e. omega arith) t) (released_kept l words long (OfBlock b Died) n m (λ e. omega arith) t) (row_kept l words long (OfBlock b Died) n m (λ e. omega arith) t) (link_kept l words long (OfBlock b Died) n m (λ e. omega arith) t) (history_kept l words long (OfBlock b Died) n m (λ e. omega arith) t) (born_kept l words long (OfBlock b Died) n m (λ e. omega arith) t) (one_of l words long n l.pool (λ b. OfBlock b Died) b m (λ i m. m) (λ i j _ _ e. block_one Died i j e) t) (name_kept l words long (OfBlock b Died) n m (λ e. omega arith) t)

  set_name : (h : ℕ) → h < 2 * l.pool → words_at l (slice_set words (address l (member_name_word h)) n) ≡ record (words_at l words) { name = update (words_at l words).name h n }
  set_name h m = λ t. made (round_kept l words long (member_name_word h) n (half_inside l h m) (λ e. omega arith) t) (cursor_kept l words long (member_name_word h) n (half_inside l h m) (λ e. omega arith) t) (free_kept l words long (member_name_word h) n (half_inside l h m) (λ e. omega arith) t) (released_kept l words long (member_name_word h) n (half_inside l h m) (λ e. omega arith) t) (row_kept l words long (member_name_word h) n (half_inside l h m) (λ e. omega arith) t) (link_kept l words long (member_name_word h) n (half_inside l h m) (λ e. omega arith) t) (history_kept l words long (member_name_word h) n (half_inside l h m) (λ e. omega arith) t) (born_kept l words long (member_name_word h) n (half_inside l h m) (λ e. omega arith) t) (died_kept l words long (member_name_word h) n (half_inside l h m) (λ e. omega arith) t) (one_of l words long n (2 * l.pool) member_name_word h m (half_inside l) (λ i j _ _ e. name_one i j e) t)

pub writes_update : WritesUpdate
writes_update l words n long = record {
  round = set_round l words n long;
  cursor = set_cursor l words n long;
  free = set_free l words n long;
  released = set_released l words n long;
  row = set_row l words n long;
  link = set_link l words n long;
  history = set_history l words n long;
  born = set_born l words n long;
  died = set_died l words n long;
  name = set_name l words n long;
}
