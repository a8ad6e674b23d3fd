-- Short files and what they mean.
use Rattle.std.specs.Prelude.{◌≡◌, ℕ, pos, negsuc, true, false, List, [], ◌∷◌, ◌++◌, codes, Ok, Err}
use Rattle.macro_file.specs.declared.refusal.Key.TheVariants.{VertexCount, Coordinates}
use Rattle.macro_file.specs.declared.refusal.MacroRefusal.{MacroRefusal}
use Rattle.macro_file.specs.declared.refusal.MacroRefusal.TheVariants.{BadKey, KeyTwice, KeyMissing, BadNumber, CountDiffers, CoordRange}
use Rattle.macro_file.specs.Meaning.{Macro, meaning}

-- each line and a newline
abbrev pub file : List (List ℕ) → List ℕ
file [] = []
file (l ∷ ls) = l ++ 10 ∷ file ls

abbrev pub small : List ℕ
small = file (codes "number of vertices: 1" ∷ codes "Number  OF elements : 1 # one" ∷ codes "vertex coordinates:" ∷ codes "0.5" ∷ codes " -1e0" ∷ codes "element vertices: 0" ∷ (codes "0 +007" ++ 13 ∷ []) ∷ codes "element neighbours: -1 -1 -1" ∷ [])

abbrev pub small_macro : Macro
small_macro = record {
  vertices = record { x = pos 20480000000000; y = negsuc 40959999999999; value = pos 0 } ∷ [];
  elements = record { corners = 0 ∷ 0 ∷ 7 ∷ []; labels = pos 0 ∷ pos 0 ∷ pos 0 ∷ []; neighbours = negsuc 0 ∷ negsuc 0 ∷ negsuc 0 ∷ []; value = pos 0 } ∷ [];
  labels_given = false;
  neighbours_given = true;
}

abbrev pub SmallMeans : Type 0
SmallMeans = meaning small ≡ Ok small_macro

-- counts of one vertex and one element, these coordinates and these corners
abbrev pub with_lists : List ℕ → List ℕ → List ℕ
with_lists xs cs = file (codes "vertex coordinates:" ∷ xs ∷ codes "number of vertices: 1" ∷ codes "number of elements: 1" ∷ codes "element vertices:" ∷ cs ∷ [])

abbrev pub Refuses : List ℕ → MacroRefusal → Type 0
Refuses bytes r = meaning bytes ≡ Err r

abbrev pub Refusals : Type 0
Refusals =
    Refuses (codes "# DIM: 2") (KeyMissing VertexCount)
    × Refuses (file (codes "DIM: 2" ∷ codes "" ∷ codes "dim: 3" ∷ codes ": 4" ∷ [])) (KeyTwice 3)
    × Refuses (file (codes "" ∷ codes "7" ∷ codes "DIM: 2" ∷ [])) (BadKey 2)
    × Refuses (with_lists (codes "1e6 x") (codes "0 0 0")) (CoordRange 2)
    × Refuses (with_lists (codes "x 1e6") (codes "0 0 0")) (BadNumber 2)
    × Refuses (with_lists (codes "0 0 0") (codes "0 0")) (CountDiffers 1 2 3)
    × Refuses (with_lists (codes "0 0") (codes "0 65535 65536")) (BadNumber 6)
    -- a carriage return that no newline follows belongs to a word
    × Refuses (file (codes "number of vertices: 1" ∷ []) ++ codes "number of elements: 1" ++ 13 ∷ []) (KeyMissing Coordinates)
    × Refuses (file (codes "number of vertices: 1" ∷ codes "vertex coordinates: 0 0" ∷ codes "element vertices: 0 0 0" ∷ []) ++ codes "number of elements: 1" ++ 13 ∷ []) (BadNumber 4)
