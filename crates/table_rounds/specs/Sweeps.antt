-- Words are led past blocks that were given up, before a round.
use Rattle.std.specs.Prelude.{◌≡◌, ℕ, ◌+◌, ◌<◌, ◌≤◌, Bool, true, List, length, ◌⊎◌}
use Rattle.table_words.specs.declared.layout.Layout.{Layout}
use Rattle.table_words.specs.Entries.{HasEntry, Noted}
use Rattle.table_words.specs.Places.{member_of}
use Rattle.table_words.specs.Views.{Owner, Resting}
use Rattle.table_words.specs.Words.{Node, node}
use Rattle.table_state.specs.Ghosts.{Placed, stands}
use Rattle.mesh_table.specs.Rounds.{DrainedTo, freed}
use Rattle.mesh_table.specs.Sights.{Sight}
use Rattle.table_rounds.specs.declared.patch.Patch.{Patch}
use Rattle.table_rounds.specs.Patches.{IsPatch, nth, spot}
use Rattle.table_rounds.specs.Versions.{IsRooted, LeadsTo, NamesLiving, TwoPlaces}

-- each block that the owner noted with its places is in the list, at its own number, with these places
abbrev pub ArePlaced : Layout → Sight → List Patch → Type 0
ArePlaced l v places = (b y m : ℕ) → HasEntry v.ruling.placed (b, y, m) → (b < length places) × (spot l (nth places b) ≡ (b, y, m)) × IsPatch l (nth places b)

-- the owner may lead words past retired blocks: it is before a round, and no pin is out of a round before the last finished one
pub record MaySweep (l : Layout) (v : Sight) (places : List Patch) : Type 0 where
  pub rules : v.kind ≡ Owner
  pub rests : v.ruling.phase ≡ Resting
  pub drained : (e : ℕ) → e ≤ v.ruling.finished → DrainedTo v e
  pub placed : ArePlaced l v places

-- the LINK word of the place x was led on, and leads to l; nothing else that the owner noted changed
pub record LedHead (pool : ℕ) (u v : Sight) (x : ℕ) (l : Node) : Type 0 where
  pub same : v ≡ record u { owned = v.owned }
  pub heads : (y : ℕ) (k : Node) → (y ≡ x → ⊥) → Noted u.owned.head y k → Noted v.owned.head y k
  pub histories : (h : ℕ) (k : Node) → Noted u.owned.history h k → Noted v.owned.history h k
  pub dieds : (b n : ℕ) → Noted u.owned.died b n → Noted v.owned.died b n
  pub head : Noted v.owned.head x l
  pub leads : LeadsTo pool v x l
  pub living : NamesLiving v x l
  pub two : TwoPlaces v

-- and so was the HISTORY word of the block's member t, which stands at x
pub record LedOlder (pool : ℕ) (u v : Sight) (x b : ℕ) (t : Bool) (l : Node) : Type 0 where
  pub same : v ≡ record u { owned = v.owned }
  pub heads : (y : ℕ) (k : Node) → Noted u.owned.head y k → Noted v.owned.head y k
  pub histories : (h : ℕ) (k : Node) → (h ≡ member_of b t → ⊥) → Noted u.owned.history h k → Noted v.owned.history h k
  pub dieds : (c n : ℕ) → Noted u.owned.died c n → Noted v.owned.died c n
  pub history : Noted v.owned.history (member_of b t) l
  pub leads : LeadsTo pool v x l
  pub retired : (l ≡ node 0 0) ⊎ (0 < l.died)

-- the LINK word of the place leads to no block that was given up
abbrev pub HeadClear : Sight → ℕ → Type 0
HeadClear v x = (l : Node) × Noted v.owned.head x l × ((c : ℕ) → l.block ≡ c + 1 → (HasEntry v.ruling.kept c → ⊥) × (HasEntry v.ruling.rolled_back c → ⊥))

-- the HISTORY word of the block's member leads to none
abbrev pub OldClear : Sight → ℕ → Bool → Type 0
OldClear v b t = Noted v.owned.history (member_of b t) (node 0 0)

-- no word of the place leads to a block that was given up, but words of such blocks
abbrev pub PlaceClear : Sight → ℕ → Type 0
PlaceClear v x = HeadClear v x × ((b y m : ℕ) (t : Bool) → HasEntry v.ruling.placed (b, y, m) → stands (Placed y m) t ≡ x + 1
    → HasEntry v.ruling.kept b ⊎ HasEntry v.ruling.rolled_back b ⊎ OldClear v b t)

-- words may have been led on, and what was clear is so
pub record StillClear (u v : Sight) : Type 0 where
  pub same : v ≡ record u { owned = v.owned }
  pub heads : (x : ℕ) → HeadClear u x → HeadClear v x
  pub olds : (b : ℕ) (t : Bool) → OldClear u b t → OldClear v b t
  pub dieds : (b n : ℕ) → Noted u.owned.died b n → Noted v.owned.died b n

-- both members' places of the block are clear, and DIED of it is noted
abbrev pub BlockClear : Sight → ℕ → Type 0
BlockClear v b = (e y m : ℕ) × Noted v.owned.died b e × (0 < e) × (e ≤ v.ruling.finished) × HasEntry v.ruling.placed (b, y, m)
    × ((t : Bool) (x : ℕ) → stands (Placed y m) t ≡ x + 1 → PlaceClear v x)

-- the HISTORY words of both members of the block lead to no block
abbrev pub WordsClear : Sight → ℕ → Type 0
WordsClear v b = (y m : ℕ) (t : Bool) (x : ℕ) → HasEntry v.ruling.placed (b, y, m) → stands (Placed y m) t ≡ x + 1 → OldClear v b t

-- the patch's block is noted with its places, and these are rooted
pub record IsOld (l : Layout) (v : Sight) (p : Patch) : Type 0 where
  pub fits : IsPatch l p
  pub kept : HasEntry v.ruling.kept p.block
  pub placed : HasEntry v.ruling.placed (spot l p)
  pub rooted : (t : Bool) (x : ℕ) → stands (Placed (spot l p).1 (spot l p).2) t ≡ x + 1 → IsRooted l.elements v x

-- the list has the blocks that the owner keeps
pub record AreOld (l : Layout) (v : Sight) (kept : List Patch) : Type 0 where
  pub each : (k : ℕ) → k < length kept → IsOld l v (nth kept k)
  pub all : (b : ℕ) → HasEntry v.ruling.kept b → (k : ℕ) × (k < length kept) × (b ≡ (nth kept k).block)

-- the list has the blocks that were rolled back, with their places
pub record AreBack (l : Layout) (v : Sight) (rolled_back : List Patch) : Type 0 where
  pub fits : (k : ℕ) → k < length rolled_back → IsPatch l (nth rolled_back k)
  pub each : (k : ℕ) → k < length rolled_back → HasEntry v.ruling.rolled_back (nth rolled_back k).block × HasEntry v.ruling.placed (spot l (nth rolled_back k))
  pub all : (b : ℕ) → HasEntry v.ruling.rolled_back b → (k : ℕ) × (k < length rolled_back) × (b ≡ (nth rolled_back k).block)

-- the first n blocks of the list are clear
pub record ClearTo (l : Layout) (u v : Sight) (ps : List Patch) (n : ℕ) : Type 0 where
  pub still : StillClear u v
  pub clear : (k : ℕ) → k < n → BlockClear v (nth ps k).block

-- the HISTORY words of the first n blocks of the list lead to none
pub record WordsTo (l : Layout) (u v : Sight) (ps : List Patch) (n : ℕ) : Type 0 where
  pub still : StillClear u v
  pub clear : (k : ℕ) → k < n → WordsClear v (nth ps k).block

-- The blocks may be freed: they are all that are kept, and those that were rolled back where the last finished round is
-- quiet; each place of a kept one is clear, and so are the HISTORY words of blocks that were rolled back and stay
pub record FreeReady (v : Sight) (blocks : List ℕ) : Type 0 where
  pub rules : v.kind ≡ Owner
  pub rests : v.ruling.phase ≡ Resting
  pub drained : (e : ℕ) → e ≤ v.ruling.finished → DrainedTo v e
  pub only : (c : ℕ) → HasEntry blocks c → HasEntry v.ruling.kept c ⊎ (HasEntry v.ruling.rolled_back c × (v.ruling.quiet ≡ true))
  pub kept : (b : ℕ) → HasEntry v.ruling.kept b → HasEntry blocks b
  pub back : (b : ℕ) → HasEntry v.ruling.rolled_back b → HasEntry blocks b ⊎ WordsClear v b
  pub clear : (b : ℕ) → HasEntry v.ruling.kept b → BlockClear v b

-- the list has exactly the blocks that are kept
abbrev pub AreKept : Sight → List ℕ → Type 0
AreKept v blocks = (b : ℕ) → (HasEntry blocks b → HasEntry v.ruling.kept b) × (HasEntry v.ruling.kept b → HasEntry blocks b)

-- and here those that were rolled back too
abbrev pub AreGivenUp : Sight → List ℕ → Type 0
AreGivenUp v blocks = (b : ℕ) → (HasEntry blocks b → HasEntry v.ruling.kept b ⊎ HasEntry v.ruling.rolled_back b)
    × (HasEntry v.ruling.kept b ⊎ HasEntry v.ruling.rolled_back b → HasEntry blocks b)

-- the blocks are in the hand, and no longer noted; nothing else changed but what the owner owns
abbrev pub AreFreed : Sight → Sight → List ℕ → Type 0
AreFreed u v blocks = v ≡ record (freed u blocks) { owned = v.owned }
