-- The labels and the neighbours that a table of sides makes.
use Rattle.std.specs.Prelude.{◌≡◌, ℕ, ◌<◌, ◌*◌, ◌+◌, ◌/◌, ◌%◌, ℤ, pos, negsuc, List, [], length, Option, Some, None, slice_get, slice_index_or}
use Rattle.macro_file.specs.declared.text.MacroElem.{MacroElem}
use Rattle.compat_check.specs.declared.mesh.Side.{Side}
use Rattle.compat_check.specs.Checks.{neighbours_of}

-- the label that the check makes for an edge with this side
abbrev pub label_by : Option Side → ℤ
label_by None = pos 1
label_by (Some s) = pos 0

pub record AreMadeLabels (n : ℕ) (sides : List (Option Side)) (labels : List (List ℤ)) : Type 0 where
  pub each : length labels ≡ n
  pub made : (r k : ℕ) → r < n → k < 3 → slice_index_or (slice_index_or labels r []) k (pos 0) ≡ label_by (slice_index_or sides (r * 3 + k) None)

-- the neighbour's number, or -1
abbrev pub number_by : Option Side → ℤ
number_by None = negsuc 0
number_by (Some s) = pos s.element

-- the given neighbour at a place is not the one of the table
abbrev pub Differs : List MacroElem → List (Option Side) → ℕ → Type 0
Differs elements sides place = slice_index_or (neighbours_of (slice_get elements (place / 3))) (place % 3) (pos 0) ≡ number_by (slice_index_or sides place None) → ⊥
