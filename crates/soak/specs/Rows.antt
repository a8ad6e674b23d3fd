-- The rows of a round: one draw for each leaf, in order.
use Rattle.std.specs.Prelude.{◌≡◌, ℕ, ◌+◌, ◌<◌, ◌≤◌, ℤ, min, List, [], ◌∷◌, ◌++◌, Option, Some, None}
use Rattle.std.specs.List.{Contains}
use Rattle.mesh_names.specs.Names.{Name}
use Rattle.mesh_names.specs.Marks.{bisections}
use Rattle.mesh_names.specs.declared.rows.MarkRow.{MarkRow}
use Rattle.mesh_names.specs.declared.rows.What.TheVariants.{Mark}
use Rattle.mesh_names.specs.declared.rows.Place.TheVariants.{Elem}
use Rattle.soak.specs.Draws.{next_state, drawn, mark_at}

-- where a run is: the generator's state, and the number of the run's last row
pub record Drawing : Type 0 where
  pub state : ℕ
  pub row : ℕ

-- a leaf and its mark
abbrev pub Marked : Type 0
Marked = Name × ℤ

-- nothing of a leaf that has no row
abbrev pub marked : Name → Option ℤ → List Marked
marked n None = []
marked n (Some mark) = (n, mark) ∷ []

-- the marks of leaves: one number is drawn for each, whether or not the leaf has a row
abbrev pub marks_for : (Name → ℕ) → ℕ → List Name → List Marked
marks_for level x [] = []
marks_for level x (n ∷ ns) = marked n (mark_at (level n) (drawn (next_state x))) ++ marks_for level (next_state x) ns

-- the state after one draw for each leaf
abbrev pub state_after : ℕ → List Name → ℕ
state_after x [] = x
state_after x (n ∷ ns) = state_after (next_state x) ns

-- the number of a row after the row of this number
abbrev pub next_row : ℕ → ℕ
next_row row = min (row + 1) 4294967295

abbrev pub row_of : ℕ → Marked → MarkRow
row_of row m = record { row = row; what = Mark; place = Elem m.0; number = m.1 }

-- the rows of these marks, numbered on from a row
abbrev pub rows_of : ℕ → List Marked → List MarkRow
rows_of row [] = []
rows_of row (m ∷ ms) = row_of (next_row row) m ∷ rows_of (next_row row) ms

-- the number of the last row of these marks
abbrev pub row_after : ℕ → List Marked → ℕ
row_after row [] = row
row_after row (m ∷ ms) = row_after (next_row row) ms

-- the rows of a round
abbrev pub rows_for : (Name → ℕ) → Drawing → List Name → List MarkRow
rows_for level d leaves = rows_of d.row (marks_for level d.state leaves)

-- where the run is after a round
abbrev pub after : (Name → ℕ) → Drawing → List Name → Drawing
after level d leaves = record { state = state_after d.state leaves; row = row_after d.row (marks_for level d.state leaves) }

-- a row of a round over these leaves: it marks one of them, and a mark above 0 leads to no level above 24
pub record IsDrawn (level : Name → ℕ) (leaves : List Name) (row : MarkRow) : Type 0 where
  pub leaf : Name
  pub listed : Contains leaves leaf
  pub what : row.what ≡ Mark
  pub place : row.place ≡ Elem leaf
  pub within : 0 < bisections row.number → level leaf + bisections row.number ≤ 24
