-- The words of a fresh table: each free row names the block of its number, and nothing else is there.
use Rattle.std.specs.Prelude.{◌≡◌, ℕ, List, length}
use Rattle.table_words.specs.declared.layout.Layout.{Layout}
use Rattle.table_words.specs.Layout.{TableWord, Seats, Round, Cursor, FreeCount, Released, LinkOf, Row, OfBlock, IsWord, word_count, content}

-- the content of a word of a fresh table
abbrev pub fresh_content : Layout → TableWord → ℕ
fresh_content l Seats = 0
fresh_content l Round = 0
fresh_content l Cursor = 0
fresh_content l FreeCount = l.pool
fresh_content l (Released q) = 0
fresh_content l (LinkOf at) = 0
fresh_content l (Row i) = i
fresh_content l (OfBlock b f) = 0

-- the list has the words of a fresh table
abbrev pub AreFresh : Layout → List ℕ → Type 0
AreFresh l words = (length words ≡ word_count l) × ((w : TableWord) → IsWord l w → content l words w ≡ fresh_content l w)

-- the law that there are such words
abbrev pub FreshWordsListed : Type 0
FreshWordsListed = (l : Layout) → (words : List ℕ) × AreFresh l words
