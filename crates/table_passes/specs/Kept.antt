-- What passes have done, in lists beside their views.
use Rattle.std.specs.Prelude.{◌≡◌, List, [], ◌∷◌, ◌++◌, Option, None, Some, Ok, Err}
use Rattle.table_words.specs.declared.layout.Layout.{Layout}
use Rattle.table_words.specs.Claims.{Claim, Failed, claim}
use Rattle.table_words.specs.Places.{place_number}
use Rattle.mesh_table.specs.Told.{mate_number, sight}
use Rattle.mesh_table.specs.declared.rule.Site.{Site}
use Rattle.patch_claims.specs.Listed.{AreKept, claims_before, failed_by}
use Rattle.patch_claims.specs.declared.patch.Spot.{Spot}
use Rattle.table_passes.specs.Answers.{Answer}
use Rattle.table_passes.specs.declared.lists.Lists.{Lists}
use Rattle.table_passes.specs.declared.pass.Pass.{Pass}

-- nothing was done yet
abbrev pub AreEmpty : Lists → Type 0
AreEmpty a = (a.published.items ≡ []) × (a.failed ≡ None)

-- the places of the patch whose claim got no block
abbrev pub failed_in : Answer → Option Spot
failed_in (Ok done) = None
failed_in (Err refusal) = failed_by refusal

-- the lists of the pass have its claims, and no others
abbrev pub HasKept : Site → Pass → Type 0
HasKept k p = AreKept k (sight p.seat) p.lists.published.items p.lists.failed

-- the claims of the lists: one whose draw found no block, before those of the published patches, the last first
abbrev pub claims_with : Layout → Option Spot → List Claim → List Claim
claims_with l None cs = cs
claims_with l (Some spot) cs = claim (place_number l spot.first) (mate_number l spot.second) Failed ∷ cs

abbrev pub claims_in : Layout → Lists → List Claim
claims_in l a = claims_with l a.failed (claims_before l a.published.items [])

-- the claims of one after the other
abbrev pub all_claims : Layout → List Lists → List Claim
all_claims l [] = []
all_claims l (a ∷ rest) = claims_in l a ++ all_claims l rest
