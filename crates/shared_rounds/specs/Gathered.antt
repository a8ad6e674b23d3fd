-- The claims of passes that were joined, in lists.
use Rattle.std.specs.Prelude.{List, [], ◌∷◌, ◌++◌, Option, None, Some}
use Rattle.table_words.specs.Claims.{Claim, Living, claim}
use Rattle.table_words.specs.Places.{place_number}
use Rattle.table_words.specs.declared.layout.Layout.{Layout}
use Rattle.mesh_table.specs.Told.{mate_number}
use Rattle.patch_claims.specs.declared.patch.Patch.{Patch as Published}
use Rattle.patch_claims.specs.declared.patch.Spot.{Spot}
use Rattle.table_passes.specs.declared.lists.Lists.{Lists}
use Rattle.table_rounds.specs.declared.patch.Held.{Held}
use Rattle.table_rounds.specs.declared.patch.Patch.{Patch}
use Rattle.table_rounds.specs.Refusals.{progress_of}

-- the block of a published patch, with the places of its members
abbrev pub block_of : Published → Patch
block_of p = record { block = p.block; first = p.spot.first; second = p.spot.second }

-- those of a list, the last first, before others
abbrev pub blocks_before : List Published → List Patch → List Patch
blocks_before [] rest = rest
blocks_before (p ∷ ps) rest = blocks_before ps (block_of p ∷ rest)

-- those of the passes, one pass after the other
abbrev pub all_blocks : List Lists → List Patch
all_blocks [] = []
all_blocks (a ∷ rest) = blocks_before a.published.items [] ++ all_blocks rest

-- the claim of a living block
abbrev pub living_claim : Layout → Patch → Claim
living_claim l p = claim (place_number l p.first) (mate_number l p.second) (Living p.block)

-- a claim of a pass, with its living block
abbrev pub held_of : Published → Held
held_of p = record { first = p.spot.first; second = p.spot.second; block = Some p.block }

abbrev pub held_before : List Published → List Held → List Held
held_before [] rest = rest
held_before (p ∷ ps) rest = held_before ps (held_of p ∷ rest)

-- and before them the claim that got no block, if there is one
abbrev pub held_with : Option Spot → List Held → List Held
held_with None hs = hs
held_with (Some spot) hs = record { first = spot.first; second = spot.second; block = None } ∷ hs

-- those of a pass, and of the passes, one after the other
abbrev pub held_in : Lists → List Held
held_in a = held_with a.failed (held_before a.published.items [])

abbrev pub all_held : List Lists → List Held
all_held [] = []
all_held (a ∷ rest) = held_in a ++ all_held rest

-- the claim that is held
abbrev pub held_claim : Layout → Held → Claim
held_claim l h = claim (place_number l h.first) (mate_number l h.second) (progress_of h.block)
