-- What the first half of a round comes to.
use Rattle.std.specs.Prelude.{◌≡◌, ℕ, false, List, All}
use Rattle.mesh_names.specs.Names.{Name}
use Rattle.table_words.specs.Claims.{Failed, claim}
use Rattle.table_words.specs.Entries.{HasEntry}
use Rattle.table_words.specs.NameWords.{name_code}
use Rattle.table_words.specs.Setup.{Setup}
use Rattle.table_words.specs.declared.layout.Layout.{Layout}
use Rattle.mesh_table.specs.Crews.{ClaimsLive}
use Rattle.mesh_table.specs.Sights.{Sight}
use Rattle.table_rounds.specs.Patches.{AllFit, IsSweepable}
use Rattle.table_rounds.specs.Refusals.{AreHeld, HeldFit}
use Rattle.table_rounds.specs.declared.patch.Held.{Held}
use Rattle.table_rounds.specs.declared.patch.Patch.{Patch}
use Rattle.shared_rounds.specs.Claims.{IsTooLarge}

-- each of the names is known as bisected
abbrev pub AllKnown : Sight → List Name → Type 0
AllKnown v names = All (λ n. HasEntry v.work.known (name_code n)) names

-- a claim of the view got no block
abbrev pub HasFailed : Sight → Type 0
HasFailed v = (x m : ℕ) × HasEntry v.claims (claim x m Failed)

-- all passes are joined: all names that they were dealt are known as bisected, and the claims are those of the blocks
pub record IsRefined (l : Layout) (u v : Sight) (dealt : List (List Name)) (blocks : List Patch) : Type 0 where
  pub kind : v.kind ≡ u.kind
  pub ruling : v.ruling ≡ record u.ruling { workers = 0; lone = false }
  pub known : All (AllKnown v) dealt
  pub living : ClaimsLive v
  pub fits : AllFit l blocks
  pub claims : IsSweepable l v blocks

-- all passes are joined, and the round is too large for the pool: the claims are those of the list
pub record IsOverfull (s : Setup) (l : Layout) (u v : Sight) (held : List Held) : Type 0 where
  pub kind : v.kind ≡ u.kind
  pub ruling : v.ruling ≡ record u.ruling { workers = 0; lone = false }
  pub fits : HeldFit l held
  pub claims : AreHeld l v held
  pub cause : IsTooLarge s v
