-- The text of places: a line for each point.
use Rattle.std.specs.Prelude.{◌≡◌, ℕ, List, [], ◌∷◌, ◌++◌, Option, Some, None}
use Rattle.std.specs.List.{AllZip}
use Rattle.mesh_names.specs.Names.{Name}
use Rattle.mesh_names.specs.Spelling.{spelling}
use Rattle.compat_check.specs.Meshes.{Mesh}
use Rattle.compat_check.specs.Points.{Point}
use Rattle.locate_point.specs.Locating.{IsPlace}

-- the line of a place: its spelling, or `none`
abbrev pub place_text : Option Name → List ℕ
place_text None = 110 ∷ 111 ∷ 110 ∷ 101 ∷ 10 ∷ []
place_text (Some n) = spelling n ++ 10 ∷ []

-- the lines of places, in order
abbrev pub places_text : List (Option Name) → List ℕ
places_text [] = []
places_text (o ∷ os) = place_text o ++ places_text os

-- the text has the line of the place of each point, in the order of the points
abbrev pub IsPlacesText : Mesh → List Name → List Point → List ℕ → Type 0
IsPlacesText mesh leaves points text = (places : List (Option Name)) × AllZip (IsPlace mesh leaves) points places × (text ≡ places_text places)
