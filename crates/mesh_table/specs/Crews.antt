-- The passes of a round: how it begins for the names that it needs, and passes of the second half and of worker 0.
use Rattle.std.specs.Prelude.{◌≡◌, ℕ, ◌+◌, ◌-◌, Bool, List, [], ◌∷◌, map, slice_index_or, ◌<◌, All}
use Rattle.std.specs.FinSet.{from_list, items}
use Rattle.mesh_names.specs.Names.{Name}
use Rattle.mesh_names.specs.Triangles.{Shape, size, level}
use Rattle.mesh_names.specs.Forests.{Names}
use Rattle.mesh_names.specs.LeastForest.{least_forest}
use Rattle.mesh_names.specs.Partners.{Across}
use Rattle.table_words.specs.Claims.{Progress, Living, claim}
use Rattle.table_words.specs.Entries.{HasEntry}
use Rattle.table_words.specs.NameWords.{name_code, name_in}
use Rattle.table_words.specs.Setup.{Setup}
use Rattle.table_words.specs.Views.{Owner, Resting, FirstHalf, owns_nothing, Plan}
use Rattle.table_state.specs.Lists.{IsClosed}
use Rattle.mesh_table.specs.Holds.{Sat}
use Rattle.mesh_table.specs.Passes.{begun}
use Rattle.mesh_table.specs.Sights.{Sight}

-- the names that these codes spell, as a set
abbrev pub names_spelled : List ℕ → Names
names_spelled codes = from_list (map (λ k. name_in (k - 1)) codes)

-- the codes of the names of a set
abbrev pub codes_of : Names → List ℕ
codes_of names = map name_code (items names)

-- the forest of the last finished round, by codes
abbrev pub last_forest : Sight → List ℕ
last_forest v = slice_index_or v.ruling.history v.ruling.finished []

-- the lists of a round that needs these names: the target is the least forest with them and with the last finished one
abbrev pub plan_for : Shape → Across → Sight → List Name → Plan
plan_for mesh x v needs = record { needs = map name_code needs; target = codes_of (least_forest mesh x (names_spelled (last_forest v)) (from_list needs)); retire = [] }

-- the name is of the mesh, and its element can be bisected
abbrev pub CanBisect : Shape → Name → Type 0
CanBisect mesh n = (n.0 < size mesh) × (level mesh n < 24)

-- the owner may begin a round that needs these names
pub record MayBeginFor (s : Setup) (mesh : Shape) (v : Sight) (needs : List Name) : Type 0 where
  pub rules : v.kind ≡ Owner
  pub room : v.ruling.finished < s.rounds
  pub rests : v.ruling.phase ≡ Resting
  pub cursor : v.ruling.cursor ≡ 1
  pub can : All (CanBisect mesh) needs

-- the round begins, and its target is closed
abbrev pub begins_told : Setup → Shape → Across → List Name → Sat → ℕ → Sat → Type 0
begins_told s mesh x needs m n m' = (m'.1 ≡ m.1) × (m'.0 ≡ begun m.0 (plan_for mesh x m.0 needs)) × IsClosed s (HasEntry (plan_for mesh x m.0 needs).target)
    × ((i : ℕ) → HasEntry (map name_code needs) i → HasEntry (plan_for mesh x m.0 needs).target i)

-- the owner's view with one pass more out, where a pass of worker 0 may be out as `lone` says
abbrev pub left_lone : Sight → Bool → Sight
left_lone v lone = record v { owned = owns_nothing; ruling = record v.ruling { workers = v.ruling.workers + 1; lone = lone } }

-- each claim of the view has its living block
abbrev pub ClaimsLive : Sight → Type 0
ClaimsLive v = (x m : ℕ) (p : Progress) → HasEntry v.claims (claim x m p) → (b : ℕ) × (p ≡ Living b)

-- the owner may make the pass of worker 0 of the first half
pub record MayMakeLast (v : Sight) : Type 0 where
  pub rules : v.kind ≡ Owner
  pub half : v.ruling.phase ≡ FirstHalf
  pub home : v.ruling.workers ≡ 0
  pub living : ClaimsLive v
