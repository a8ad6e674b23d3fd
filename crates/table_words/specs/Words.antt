-- The words of a table as functions of numbers: of rounds, rows, places, blocks and members.
use Rattle.std.specs.Prelude.{◌≡◌, ℕ, ◌+◌, ◌*◌, ◌/◌, ◌%◌, ◌<◌, ◌≤◌, Bool, true, false, cond, ltb, eqb, List, length, slice_set}
use Rattle.table_words.specs.declared.layout.Layout.{Layout}
use Rattle.table_words.specs.declared.layout.ElemAt.TheVariants.{Macro, Child}
use Rattle.table_words.specs.declared.link.Link.{Link}
use Rattle.table_words.specs.Functions.{update}
use Rattle.table_words.specs.Links.{after, IsLink, link_word}
use Rattle.table_words.specs.Layout.{TableWord, Round, Cursor, FreeCount, Released, LinkOf, Row, OfBlock, Born, Died, NameOf, HistoryOf, address, word_count}
use Rattle.table_words.specs.Layout.{content}
use Rattle.table_words.specs.Places.{member_of, child_place, place_count, place_at}

-- the version of a place that a LINK or HISTORY word names: one more than its block, or 0 for none, and its retired round
pub record Node : Type 0 where
  pub block : ℕ
  pub died : ℕ

abbrev pub node : ℕ → ℕ → Node
node b d = record { block = b; died = d }

-- what a word names
abbrev pub node_of : ℕ → Node
node_of n = node (n / 2 % 2097152) (n / 4194304 % 65536)

-- the words; a LINK word is a claim bit and a node
pub record Words : Type 0 where
  pub round : ℕ
  pub taken : ℕ
  pub cursor : ℕ
  pub free : ℕ
  pub released : ℕ → ℕ
  pub row : ℕ → ℕ
  pub claimed : ℕ → ℕ
  pub head : ℕ → Node
  pub history : ℕ → Node
  pub born : ℕ → ℕ
  pub died : ℕ → ℕ
  pub name : ℕ → ℕ

-- the HISTORY word of a member, by the member's number
abbrev pub history_word : ℕ → TableWord
history_word h = OfBlock (h / 2) (HistoryOf (eqb (h % 2) 1))

-- the NAME word of a member, by the member's number
abbrev pub member_name_word : ℕ → TableWord
member_name_word h = OfBlock (h / 2) (NameOf (eqb (h % 2) 1))

-- the contents of words that are numbered from 0 to n - 1, and 0 from n on
abbrev pub contents : Layout → List ℕ → ℕ → (ℕ → TableWord) → ℕ → ℕ
contents l words n f i = cond (ltb i n) (content l words (f i)) 0

-- the words of a list
abbrev pub words_at : Layout → List ℕ → Words
words_at l words = record {
  round = content l words Round / 4294967296;
  taken = content l words Round % 4294967296;
  cursor = content l words Cursor;
  free = content l words FreeCount;
  released = contents l words (l.rounds + 1) Released;
  row = contents l words l.pool Row;
  claimed = λ x. contents l words (place_count l) (λ y. LinkOf (place_at l y)) x % 2;
  head = λ x. node_of (contents l words (place_count l) (λ y. LinkOf (place_at l y)) x);
  history = λ h. node_of (contents l words (2 * l.pool) history_word h);
  born = contents l words l.pool (λ b. OfBlock b Born);
  died = contents l words l.pool (λ b. OfBlock b Died);
  name = contents l words (2 * l.pool) member_name_word;
}

-- the words after a write of one word, as functions that change at one number
pub record WritesAre (l : Layout) (words : List ℕ) (n : ℕ) : Type 0 where
  pub round : words_at l (slice_set words (address l Round) n) ≡ record (words_at l words) { round = n / 4294967296; taken = n % 4294967296 }
  pub cursor : words_at l (slice_set words (address l Cursor) n) ≡ record (words_at l words) { cursor = n }
  pub free : words_at l (slice_set words (address l FreeCount) n) ≡ record (words_at l words) { free = n }
  pub released : (q : ℕ) → q ≤ l.rounds
      → words_at l (slice_set words (address l (Released q)) n) ≡ record (words_at l words) { released = update (words_at l words).released q n }
  pub row : (i : ℕ) → i < l.pool → words_at l (slice_set words (address l (Row i)) n) ≡ record (words_at l words) { row = update (words_at l words).row i n }
  pub link : (x : ℕ) → x < place_count l
      → words_at l (slice_set words (address l (LinkOf (place_at l x))) n) ≡ record (words_at l words) {
        claimed = update (words_at l words).claimed x (n % 2);
        head = update (words_at l words).head x (node_of n);
      }
  pub history : (h : ℕ) → h < 2 * l.pool
      → words_at l (slice_set words (address l (history_word h)) n) ≡ record (words_at l words) { history = update (words_at l words).history h (node_of n) }
  pub born : (b : ℕ) → b < l.pool
      → words_at l (slice_set words (address l (OfBlock b Born)) n) ≡ record (words_at l words) { born = update (words_at l words).born b n }
  pub died : (b : ℕ) → b < l.pool
      → words_at l (slice_set words (address l (OfBlock b Died)) n) ≡ record (words_at l words) { died = update (words_at l words).died b n }
  pub name : (h : ℕ) → h < 2 * l.pool
      → words_at l (slice_set words (address l (member_name_word h)) n) ≡ record (words_at l words) { name = update (words_at l words).name h n }

-- the law that a write of one word changes one function at one number
abbrev pub WritesUpdate : Type 0
WritesUpdate = (l : Layout) (words : List ℕ) (n : ℕ) → length words ≡ word_count l → WritesAre l words n

-- the law of what numbers say: a member's number tells its NAME and HISTORY words, a place below the number of macro
-- elements is the macro element's, and of the places of a block's children the first two are those of its first member
pub record NumbersTell : Type 0 where
  pub names : (b : ℕ) (t : Bool) → member_name_word (member_of b t) ≡ OfBlock b (NameOf t)
  pub histories : (b : ℕ) (t : Bool) → history_word (member_of b t) ≡ OfBlock b (HistoryOf t)
  pub tops : (l : Layout) (x : ℕ) → x < l.elements → place_at l x ≡ Macro x
  pub firsts : (l : Layout) (b : ℕ) → (place_at l (child_place l.elements b false false) ≡ Child b 0)
      × (place_at l (child_place l.elements b false true) ≡ Child b 1)
  pub seconds : (l : Layout) (b : ℕ) → (place_at l (child_place l.elements b true false) ≡ Child b 2)
      × (place_at l (child_place l.elements b true true) ≡ Child b 3)

-- the law that a link's word names the link's block and round
abbrev pub NodesRead : Type 0
NodesRead = (l : Link) → IsLink l → node_of (link_word l) ≡ node (after l.block) l.died
