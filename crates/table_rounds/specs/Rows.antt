-- Free rows that are laid anew: those below the last CURSOR, and further ones from the last FREE on.
use Rattle.std.specs.Prelude.{◌≡◌, ℕ, ◌+◌, ◌-◌, ◌<◌, ◌≤◌, List, [], ◌∷◌, length, slice_index, ◌⊎◌}
use Rattle.table_words.specs.Entries.{HasEntry, EntryAt, Noted}
use Rattle.table_words.specs.Setup.{Setup}
use Rattle.table_state.specs.Lists.{IsTarget}
use Rattle.table_words.specs.Views.{Owner, Resting, Plan}
use Rattle.mesh_table.specs.Sights.{Sight}
use Rattle.mesh_table.specs.Holds.{Sat}
use Rattle.mesh_table.specs.Rounds.{counted_cursor, noted_born, noted_row}

-- the view with a block in a row
abbrev pub laid : Sight → ℕ → ℕ → Sight
laid v r b = noted_row (noted_born v b 0) r b

-- a row that was laid: below a, or from `rows` on and below e
abbrev pub InLaid : ℕ → ℕ → ℕ → ℕ → Type 0
InLaid a rows e i = (i < a) ⊎ ((rows ≤ i) × (i < e))

-- FREE is 0 and CURSOR is 0; `drawn` is the last CURSOR, and the stock ends at `high`
pub record IsShut (v : Sight) (drawn top : ℕ) : Type 0 where
  pub rules : v.kind ≡ Owner
  pub rests : v.ruling.phase ≡ Resting
  pub home : v.ruling.workers ≡ 0
  pub shut : v.ruling.free ≡ 1
  pub begun : v.ruling.cursor ≡ 1
  pub low : v.ruling.low ≡ drawn
  pub high : v.ruling.high ≡ top

-- the rows that were laid name blocks of the hand with BORN 0, each another; and each block of the hand is in one, or is one of the list from n on
pub record RowsLaid (v : Sight) (hand : List ℕ) (n a rows e : ℕ) : Type 0 where
  pub each : (i : ℕ) → InLaid a rows e i → (b : ℕ) × Noted v.owned.row i b × HasEntry v.ruling.hand b × Noted v.owned.born b 0
  pub once : (i j b : ℕ) → InLaid a rows e i → InLaid a rows e j → Noted v.owned.row i b → Noted v.owned.row j b → i ≡ j
  pub wait : (b : ℕ) → HasEntry v.ruling.hand b → ((i : ℕ) × InLaid a rows e i × Noted v.owned.row i b) ⊎ ((k : ℕ) × (n ≤ k) × (k < length hand)
      × (b ≡ slice_index hand k))
  pub fresh : (k i : ℕ) → n ≤ k → k < length hand → InLaid a rows e i → Noted v.owned.row i (slice_index hand k) → ⊥

-- the list is the owner's hand
pub record IsHand (v : Sight) (pool : ℕ) (hand : List ℕ) : Type 0 where
  pub held : (k : ℕ) → k < length hand → HasEntry v.ruling.hand (slice_index hand k) × (slice_index hand k < pool)
  pub all : (b : ℕ) → HasEntry v.ruling.hand b → (k : ℕ) × (k < length hand) × (b ≡ slice_index hand k)
  pub once : (j k : ℕ) → j < length hand → k < length hand → slice_index hand j ≡ slice_index hand k → j ≡ k

-- with this CURSOR the hand and the rows that were not drawn are no more blocks than the pool has
abbrev pub RowsFit : Sight → ℕ → ℕ → Type 0
RowsFit v pool drawn = (hand : List ℕ) (rows : ℕ) → IsHand v pool hand → v.ruling.free ≡ rows + 1 → (length hand + rows ≤ pool + drawn) × (length hand ≤ pool)

abbrev pub drawn_told : ℕ → Sat → ℕ → Sat → Type 0
drawn_told pool m n m' = (m'.1 ≡ m.1) × (m'.0 ≡ counted_cursor m.0 n) × RowsFit m.0 pool n

-- the rows below `next` are laid, and the stock ends at `high`; while there is a stock, `next` is the counter
pub record StockTo (u v : Sight) (hand : List ℕ) (low rows next top counter : ℕ) : Type 0 where
  pub same : v ≡ record u { owned = v.owned; ruling = record u.ruling { hand = v.ruling.hand; high = v.ruling.high } }
  pub high : v.ruling.high ≡ top
  pub laid : RowsLaid v hand (length hand) next rows rows
  pub ends : (next ≤ low) × (low ≤ top) × (top ≤ rows) × (low < top → next ≡ counter)

-- a round can begin with these lists
pub record CanBegin (s : Setup) (v : Sight) (p : Plan) : Type 0 where
  pub rules : v.kind ≡ Owner
  pub names : List ℕ
  pub last : EntryAt v.ruling.history v.ruling.finished names
  pub target : IsTarget s (HasEntry names) p
  pub room : v.ruling.finished < s.rounds
  pub rests : v.ruling.phase ≡ Resting
