-- Empty lists with room for what worker 0 does.
use Rattle.std.specs.Prelude.{◌≡◌, ℕ, ◌+◌, ◌≤◌, List, [], ◌∷◌, length, vec_capacity}
use Rattle.mesh_names.specs.Names.{Name}
use Rattle.table_passes.specs.Kept.{AreEmpty}
use Rattle.shared_rounds.specs.declared.room.HalfRoom.{HalfRoom}
use Rattle.shared_rounds.specs.declared.room.LastRoom.{LastRoom}

-- the lists are empty, and have room for so many answers, and for as many patches as the pool has
pub record HasRoomOf (pool names : ℕ) (r : LastRoom) : Type 0 where
  pub lists : AreEmpty r.lists
  pub published : pool ≤ vec_capacity r.lists.published
  pub answers : (r.answers.items ≡ []) × (names ≤ vec_capacity r.answers)
  pub tasks : (r.tasks.items ≡ []) × (1 ≤ vec_capacity r.tasks)
  pub joined : (r.joined.items ≡ []) × (1 ≤ vec_capacity r.joined)

-- and for these names
abbrev pub HasRoomFor : ℕ → List Name → LastRoom → Type 0
HasRoomFor pool names r = HasRoomOf pool (length names) r

-- how many names these lists have together
abbrev pub count_all : List (List Name) → ℕ
count_all [] = 0
count_all (names ∷ rest) = length names + count_all rest

-- the lists are empty, and have room for so many names and passes beside worker 0's,
-- and for as many claims as there can be: one for each block, and one without a block for each pass
pub record HasHalfRoom (pool count passes : ℕ) (r : HalfRoom) : Type 0 where
  pub joined : (r.joined.items ≡ []) × (passes ≤ vec_capacity r.joined)
  pub names : (r.names.items ≡ []) × (count ≤ vec_capacity r.names)
  pub last : HasRoomOf pool count r.last
  pub blocks : (r.blocks.items ≡ []) × (pool ≤ vec_capacity r.blocks)
  pub held : (r.held.items ≡ []) × (pool + passes + 1 ≤ vec_capacity r.held)
