-- Where the words of a table lie: `address` alone says it, and the laws speak of words by name.
use Rattle.std.specs.Prelude.{◌≡◌, ◌≢◌, ℕ, ◌+◌, ◌*◌, ◌<◌, ◌≤◌, Bool, List, length, slice_index, slice_set}
use Rattle.mesh_names.specs.Names.{digit}
use Rattle.table_words.specs.declared.layout.Layout.{Layout}
use Rattle.table_words.specs.declared.layout.ElemAt.{ElemAt}
use Rattle.table_words.specs.declared.layout.ElemAt.TheVariants.{Macro, Child}

-- the words of a block but the links of its children; a Bool says whether of the second member
pub data BlockWord : Type 0 where
  Born : BlockWord
  Died : BlockWord
  NameOf : Bool → BlockWord
  HistoryOf : Bool → BlockWord

-- the words of a table by name
pub data TableWord : Type 0 where
  Seats : TableWord
  Round : TableWord
  Cursor : TableWord
  FreeCount : TableWord
  Released : ℕ → TableWord
  LinkOf : ElemAt → TableWord
  Row : ℕ → TableWord
  OfBlock : ℕ → BlockWord → TableWord

-- the place of an element of this table: a macro element's, or one of the four children of a block
abbrev pub IsElemAt : Layout → ElemAt → Type 0
IsElemAt l (Macro x) = x < l.elements
IsElemAt l (Child b c) = (b < l.pool) × (c < 4)

-- a word of this table
abbrev pub IsWord : Layout → TableWord → Type 0
IsWord l Seats = Unit {0}
IsWord l Round = Unit {0}
IsWord l Cursor = Unit {0}
IsWord l FreeCount = Unit {0}
IsWord l (Released q) = q ≤ l.rounds
IsWord l (LinkOf at) = IsElemAt l at
IsWord l (Row i) = i < l.pool
IsWord l (OfBlock b f) = b < l.pool

-- which of its block's ten words it is
abbrev pub offset : BlockWord → ℕ
offset Born = 0
offset Died = 1
offset (NameOf second) = 2 + digit second
offset (HistoryOf second) = 4 + digit second

-- where the ten words of a block begin
abbrev pub block_address : Layout → ℕ → ℕ
block_address l b = 5 + l.rounds + l.elements + l.pool + 10 * b

-- where the link of a place lies
abbrev pub link_address : Layout → ElemAt → ℕ
link_address l (Macro x) = 5 + l.rounds + x
link_address l (Child b c) = block_address l b + 6 + c

-- where a word lies
abbrev pub address : Layout → TableWord → ℕ
address l Seats = 0
address l Round = 1
address l Cursor = 2
address l FreeCount = 3
address l (Released q) = 4 + q
address l (LinkOf at) = link_address l at
address l (Row i) = 5 + l.rounds + l.elements + i
address l (OfBlock b f) = block_address l b + offset f

-- how many words the table has
abbrev pub word_count : Layout → ℕ
word_count l = 4 + (l.rounds + 1) + l.elements + 11 * l.pool

-- the content of a word
abbrev pub content : Layout → List ℕ → TableWord → ℕ
content l words w = slice_index words (address l w)

-- the law that each word lies within the table
abbrev pub WordsWithin : Type 0
WordsWithin = (l : Layout) (w : TableWord) → IsWord l w → address l w < word_count l

-- the law that different words lie apart
abbrev pub WordsApart : Type 0
WordsApart = (l : Layout) (v w : TableWord) → IsWord l v → IsWord l w → address l v ≡ address l w → v ≡ w

-- the law that the table has no place without a word
abbrev pub WordsFill : Type 0
WordsFill = (l : Layout) (i : ℕ) → i < word_count l → (w : TableWord) × IsWord l w × (address l w ≡ i)

-- the law that a write changes one word and no other
abbrev pub WritesOne : Type 0
WritesOne = (l : Layout) (words : List ℕ) (v w : TableWord) (n : ℕ) → length words ≡ word_count l → IsWord l v → IsWord l w →
    (content l (slice_set words (address l v) n) v ≡ n) × (w ≢ v → content l (slice_set words (address l v) n) w ≡ content l words w)
