-- What the calls of a pass for names answer, one after the other.
use Rattle.std.specs.Prelude.{◌≡◌, ℕ, Bool, true, false, List, [], ◌∷◌, ◌++◌, All, length, take, Result, Ok, Err, ◌⊎◌}
use Rattle.mesh_names.specs.Chains.{chain_of}
use Rattle.mesh_names.specs.Forests.{Has}
use Rattle.mesh_names.specs.Names.{Name}
use Rattle.mesh_names.specs.Partners.{Across}
use Rattle.mesh_names.specs.Triangles.{Shape}
use Rattle.table_words.specs.Entries.{HasEntry}
use Rattle.table_words.specs.NameWords.{name_code}
use Rattle.table_words.specs.Setup.{Setup}
use Rattle.table_words.specs.Views.{FirstHalf, Worker}
use Rattle.table_state.specs.Lists.{IsClosed}
use Rattle.mesh_table.specs.Crews.{CanBisect}
use Rattle.mesh_table.specs.Lost.{AllLiving}
use Rattle.mesh_table.specs.Sights.{Sight}
use Rattle.patch_walk.specs.Works.{Works}
use Rattle.patch_claims.specs.Needs.{Refused}
use Rattle.patch_claims.specs.Refined.{IsRefined}
use Rattle.patch_claims.specs.declared.needs.ClaimRefusal.{ClaimRefusal}
use Rattle.patch_claims.specs.declared.needs.ClaimRefusal.TheVariants.{Deferred, Full}
use Rattle.patch_claims.specs.declared.patch.Spot.{Spot}
use Rattle.patch_claims.specs.declared.refine.Done.{Done}

-- what one call answers
abbrev pub Answer : Type 0
Answer = Result Done ClaimRefusal

-- the name is of the target, and of an element that can be bisected
abbrev pub IsAimed : Shape → List ℕ → Name → Type 0
IsAimed mesh target n = CanBisect mesh n × HasEntry target (name_code n)

-- a worker's pass of the first half, each of whose claims has a living block
pub record CanRefine (s : Setup) (v : Sight) : Type 0 where
  pub works : v.kind ≡ Worker
  pub half : v.work.half ≡ FirstHalf
  pub closed : IsClosed s (HasEntry v.work.plan.target)
  pub living : AllLiving v.claims

-- the answer to a call for the name, which led from the view u to v
abbrev pub IsAnswer : Shape → Across → Sight → Sight → Name → Answer → Type 0
IsAnswer mesh x u v n (Ok done) = IsRefined u v (name_code n) done
IsAnswer mesh x u v n (Err refusal) = Refused x (Has (chain_of mesh x n)) u v refusal

-- there were no free blocks left
abbrev pub is_full : Answer → Bool
is_full (Ok done) = false
is_full (Err (Deferred owner word)) = false
is_full (Err (Full drawn free spot)) = true

-- no call found that there were no free blocks left
abbrev pub NoneFull : List Answer → Type 0
NoneFull answers = All (λ a. is_full a ≡ false) answers

-- a call for the name led from the view u to v, and gave this answer
pub record HasAnswered (mesh : Shape) (x : Across) (u v : Sight) (n : Name) (a : Answer) : Type 0 where
  pub works : Works u v
  pub answer : IsAnswer mesh x u v n a
  pub living : is_full a ≡ false → AllLiving v.claims

-- calls for the names, one after the other, led from the view u to v, and gave these answers
abbrev pub Ran : Shape → Across → Sight → List Name → List Answer → Sight → Type 0
Ran mesh x u [] [] v = v ≡ u
Ran mesh x u [] (a ∷ answers) v = ⊥
Ran mesh x u (n ∷ names) [] v = ⊥
Ran mesh x u (n ∷ names) (a ∷ answers) v = (w : Sight) × HasAnswered mesh x u w n a × Ran mesh x w names answers v

-- the pass called for the names in their order: for all of them, and then each claim has its living block; or until there were no free blocks
-- left, which the last answer says
pub record IsWorked (mesh : Shape) (x : Across) (u v : Sight) (names : List Name) (answers : List Answer) : Type 0 where
  pub works : Works u v
  pub ran : Ran mesh x u (take (length answers) names) answers v
  pub ends : ((length answers ≡ length names) × AllLiving v.claims) ⊎ ((front : List Answer) × (drawn free : ℕ) × (spot : Spot)
      × (answers ≡ front ++ Err (Full drawn free spot) ∷ []))
