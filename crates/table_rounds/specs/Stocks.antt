-- The blocks that the owner has, as lists, and that its seat knows them so.
use Rattle.std.specs.Prelude.{◌≡◌, ℕ, ◌+◌, ◌<◌, ◌≤◌, List, [], ◌∷◌, Option, None, Some, length, map, vec_capacity, ◌⊎◌, ◌↔◌, true}
use Rattle.table_words.specs.Entries.{HasEntry, EntryAt}
use Rattle.table_words.specs.Setup.{Setup}
use Rattle.table_state.specs.OwnerLaws.{Once}
use Rattle.mesh_table.specs.Holds.{Sat}
use Rattle.table_words.specs.declared.layout.Layout.{Layout}
use Rattle.mesh_table.specs.Sights.{Sight}
use Rattle.table_rounds.specs.declared.patch.Held.{Held}
use Rattle.table_rounds.specs.declared.patch.Patch.{Patch}
use Rattle.table_rounds.specs.declared.stock.Stock.{Stock}
use Rattle.mesh_table.specs.Rounds.{DrainedTo}
use Rattle.table_rounds.specs.Drained.{AllDrained, AreLeft}
use Rattle.table_rounds.specs.Patches.{nth}
use Rattle.table_rounds.specs.Rows.{IsHand}
use Rattle.table_rounds.specs.Sweeps.{AreBack, AreOld, ArePlaced}

-- the blocks of the patches
abbrev pub blocks_of : List Patch → List ℕ
blocks_of ps = map (λ p. p.block) ps

-- no two patches of the list have one block
abbrev pub EachOnce : List Patch → Type 0
EachOnce ps = (j k : ℕ) → j < length ps → k < length ps → (nth ps j).block ≡ (nth ps k).block → j ≡ k

-- there is memory for the lists of the whole pool and of all rounds
pub record IsRoomy (l : Layout) (s : Stock) : Type 0 where
  pub hand : l.pool ≤ vec_capacity s.hand
  pub kept : l.pool ≤ vec_capacity s.kept
  pub back : l.pool ≤ vec_capacity s.rolled_back
  pub left : l.rounds ≤ vec_capacity s.left

-- what the lists are of stays: free blocks, ones that were given up, places, rows, and what is known of pins and readers
pub record KeepsStock (u v : Sight) : Type 0 where
  pub hand : v.ruling.hand ≡ u.ruling.hand
  pub kept : v.ruling.kept ≡ u.ruling.kept
  pub rolled_back : v.ruling.rolled_back ≡ u.ruling.rolled_back
  pub placed : v.ruling.placed ≡ u.ruling.placed
  pub finished : v.ruling.finished ≡ u.ruling.finished
  pub readers : v.ruling.readers ≡ u.ruling.readers
  pub early : v.ruling.early ≡ u.ruling.early
  pub left : v.ruling.left ≡ u.ruling.left
  pub drained : v.ruling.drained ≡ u.ruling.drained
  pub free : v.ruling.free ≡ u.ruling.free
  pub low : v.ruling.low ≡ u.ruling.low
  pub high : v.ruling.high ≡ u.ruling.high

-- after these patches the list has at a block's number the last patch of that block, and elsewhere what it had
abbrev pub PlacesNoted : List Patch → List Patch → List Patch → ℕ → Type 0
PlacesNoted before after ps n = (b : ℕ) → (((k : ℕ) → k < n → (nth ps k).block ≡ b → ⊥) × (nth after b ≡ nth before b))
    ⊎ ((k : ℕ) × (k < n) × ((nth ps k).block ≡ b) × (nth after b ≡ nth ps k))

-- the lists are what the seat knows: free blocks in no row, retired ones, ones that were rolled back, and the places of all
-- that are noted; how many free rows there are, and no stock; how many pins were taken in each round that was left, and below which of these none is out
pub record IsStock (l : Layout) (v : Sight) (s : Stock) : Type 0 where
  pub hand : IsHand v l.pool s.hand.items
  pub old : AreOld l v s.kept.items
  pub old_once : EachOnce s.kept.items
  pub back : AreBack l v s.rolled_back.items
  pub back_once : EachOnce s.rolled_back.items
  pub placed : ArePlaced l v s.places.items
  pub few : length s.hand.items + length s.kept.items + length s.rolled_back.items ≤ l.pool
  pub table : length s.places.items ≡ l.pool
  pub room : IsRoomy l s
  pub finished : v.ruling.finished ≡ s.finished
  pub readers : v.ruling.readers ≡ s.readers
  pub early : v.ruling.early ≡ s.early
  pub left : AreLeft v s.left.items × (length s.left.items ≡ s.finished)
  pub drained : AllDrained v s.drained × (s.drained ≤ s.finished)
  pub rounds : s.finished ≤ l.rounds
  pub rows : (v.ruling.free ≡ s.rows + 1) × (s.rows ≤ l.pool)
  pub none : v.ruling.high ≤ v.ruling.low

-- no pin is out of a round before the last finished one
abbrev pub AreDrained : Sight → Type 0
AreDrained v = (e : ℕ) → e ≤ v.ruling.finished → DrainedTo v e

-- the free rows are the pool less the patches of the last finished forest, each with its first member's name, and less the blocks that were given up
abbrev pub RoomLeft : Setup → Sight → ℕ → ℕ → ℕ → Type 0
RoomLeft s v pool rows given = (names firsts : List ℕ) → EntryAt v.ruling.history v.ruling.finished names → Once firsts
    → ((k : ℕ) → HasEntry firsts k ↔ (HasEntry names k × (s.leads k ≡ true))) → length firsts + given + rows ≡ pool

-- so it is where all rows are laid, for each list of these blocks
abbrev pub RoomTold : Setup → Sight → ℕ → Type 0
RoomTold s v pool = (rows : ℕ) (stay : List ℕ) → v.ruling.hand ≡ [] → v.ruling.high ≤ v.ruling.low → v.ruling.cursor ≡ 1 → v.ruling.free ≡ rows + 1 → Once stay
    → ((b : ℕ) → HasEntry stay b ↔ (HasEntry v.ruling.kept b ⊎ HasEntry v.ruling.rolled_back b)) → RoomLeft s v pool rows (length stay)

abbrev pub room_told : Setup → ℕ → Sat → ℕ → Sat → Type 0
room_told s pool m n m' = (m' ≡ m) × RoomTold s m.0 pool × ((rows : ℕ) → m.0.ruling.free ≡ rows + 1 → rows ≤ pool)

-- the lists of blocks are the same, and so are the rows and what is known of rounds
pub record SameLists (s t : Stock) : Type 0 where
  pub hand : t.hand ≡ s.hand
  pub kept : t.kept ≡ s.kept
  pub rolled_back : t.rolled_back ≡ s.rolled_back
  pub places : t.places ≡ s.places
  pub left : t.left ≡ s.left
  pub rows : t.rows ≡ s.rows
  pub finished : t.finished ≡ s.finished
  pub drained : t.drained ≡ s.drained

-- the block of a claim with its places, where the claim has one, before the others
abbrev pub with_block : Option ℕ → Held → List Patch → List Patch
with_block None h ps = ps
with_block (Some b) h ps = record { block = b; first = h.first; second = h.second } ∷ ps

-- the blocks of the claims that have one, with their places
abbrev pub patches_of : List Held → List Patch
patches_of [] = []
patches_of (h ∷ hs) = with_block h.block h (patches_of hs)
