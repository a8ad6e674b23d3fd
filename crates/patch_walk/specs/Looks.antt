-- What a reader knows on its walk.
use Rattle.std.specs.Prelude.{◌≡◌, ℕ, ◌+◌, Bool, true, cond, ◌==◌, Option, Some, None}
use Rattle.table_words.specs.Entries.{HasEntry}
use Rattle.table_words.specs.Places.{child_place}
use Rattle.table_words.specs.Setup.{Setup}
use Rattle.table_words.specs.Views.{At, Note}
use Rattle.mesh_table.specs.Sights.{Sight}

-- v has noted all that u had, and has its pin
pub record Learned (u v : Sight) : Type 0 where
  pub kind : v.kind ≡ u.kind
  pub pin : v.read.pin ≡ u.read.pin
  pub notes : (n : Note) → HasEntry u.read.notes n → HasEntry v.read.notes n
  pub places : (a : ℕ × ℕ) → HasEntry u.read.places a → HasEntry v.read.places a

-- the name is noted as bisected at the round, or as not
abbrev pub Noted : Sight → ℕ → ℕ → Bool → Type 0
Noted v q k yes_ = HasEntry v.read.notes record { round = q; name = k; bisected = yes_ }

-- the name k is noted as bisected at the round q, and its children's places at the member t of the block b are known
abbrev pub NotedAt : Setup → Sight → ℕ → ℕ → ℕ → Bool → Type 0
NotedAt s v q k b t = Noted v q k true × ((u : Bool) → HasEntry v.read.places (child_place s.elements b t u, s.child k u))

abbrev pub IsAt : Sight → ℕ → ℕ → ℕ → Bool → Type 0
IsAt v x k b t = v.read.walk ≡ At x k b t

-- the measure of a walk: the retired round by which it came, or more than any where it came by none
abbrev pub reach : Sight → ℕ
reach v = cond (v.read.back == 0) 65536 v.read.back

-- how many blocks a walk has before it, at most
abbrev pub left_to_read : Option (ℕ × Bool) → Sight → ℕ
left_to_read None v = 0
left_to_read (Some p) v = reach v + 1
