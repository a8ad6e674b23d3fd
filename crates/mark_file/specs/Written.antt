-- How a row is written, and that it is read as the same row.
use Rattle.std.specs.Prelude.{◌≡◌, ℕ, ◌+◌, ◌<◌, ◌≤◌, List, [], ◌∷◌, ◌++◌, codes, decimal, Some, Ok}
use Rattle.std.specs.Fmt.{signed_decimal}
use Rattle.csv.specs.Machine.{next_record}
use Rattle.csv.specs.Reading.{default_config}
use Rattle.csv.specs.declared.parser.State.TheVariants.{StartRecord}
use Rattle.mesh_names.specs.Names.{Name, depth}
use Rattle.mesh_names.specs.Marks.{IsWellFormed}
use Rattle.mesh_names.specs.Spelling.{spelling}
use Rattle.mesh_names.specs.declared.rows.MarkRow.{MarkRow}
use Rattle.mesh_names.specs.declared.rows.What.{What}
use Rattle.mesh_names.specs.declared.rows.What.TheVariants.{Mark, Elem as element_value, Vert as vertex_value}
use Rattle.mesh_names.specs.declared.rows.Place.{Place}
use Rattle.mesh_names.specs.declared.rows.Place.TheVariants.{EveryLeaf, Elem, Corner}
use Rattle.mark_file.specs.Fields.{Field}
use Rattle.mark_file.specs.Rows.{Record, last_row, row_meaning}

-- the word of what a row sets
abbrev pub what_text : What → Field
what_text Mark = codes "mark"
what_text element_value = codes "elem"
what_text vertex_value = codes "vert"

-- the spelling of a place: `*`, that of an element, or that of a corner
abbrev pub place_text : Place → Field
place_text EveryLeaf = codes "*"
place_text (Elem n) = spelling n
place_text (Corner n k) = spelling n ++ 47 ∷ (48 + k) ∷ []

-- the fields of a row of this round
abbrev pub row_fields : ℕ → MarkRow → Record
row_fields round row = decimal round ∷ what_text row.what ∷ place_text row.place ∷ signed_decimal row.number ∷ []

-- fields with a comma between them
abbrev pub by_commas : List Field → List ℕ
by_commas [] = []
by_commas (field ∷ []) = field
by_commas (field ∷ next ∷ rest) = field ++ (44 ∷ by_commas (next ∷ rest))

-- the line of a row of this round
abbrev pub row_line : ℕ → MarkRow → List ℕ
row_line round row = by_commas (row_fields round row) ++ 10 ∷ []

-- where the place is a corner, it is one of the three
abbrev pub HasCorner : Place → Type 0
HasCorner EveryLeaf = Unit {0}
HasCorner (Elem n) = Unit {0}
HasCorner (Corner n k) = k < 3

-- the name is within the limits of names: its root is at most 65,534, and it has at most 24 letters
abbrev pub IsBounded : Name → Type 0
IsBounded n = (n.0 < 65535) × (depth n ≤ 24)

-- the place names no element, or one within the limits
abbrev pub NamesBounded : Place → Type 0
NamesBounded EveryLeaf = Unit {0}
NamesBounded (Elem n) = IsBounded n
NamesBounded (Corner n k) = IsBounded n

-- the row, of this round, can be written
pub record CanBeWritten (round : ℕ) (row : MarkRow) : Type 0 where
  pub low : 1 ≤ round
  pub high : round ≤ 65535
  pub formed : IsWellFormed row
  pub bounded : NamesBounded row.place

-- where a record begins with this text, it is read as one record, whatever comes after it
abbrev pub IsRecordOf : List ℕ → Record → Type 0
IsRecordOf text r = (rest : List ℕ) → next_record default_config StartRecord [] [] (text ++ rest) ≡ Some (r, StartRecord, rest)

-- the record, as the row of any number after rows of no later round, has this round, and sets the same at the same place to the same number
abbrev pub MeansRow : Record → ℕ → MarkRow → Type 0
MeansRow r round row = (number before : ℕ) → number ≤ last_row → before ≤ round → row_meaning number before r ≡ Ok (record { round = round; row = number; what = row.what; place = row.place; number = row.number })

-- the text is read as a row of the same round, with the same what, place and number
pub record IsReadAs (round : ℕ) (row : MarkRow) (text : List ℕ) : Type 0 where
  pub fields : Record
  pub is_record : IsRecordOf text fields
  pub means : MeansRow fields round row

-- the law that what is written of a row is read as the same row
abbrev pub WrittenIsRead : Type 0
WrittenIsRead = (round : ℕ) (row : MarkRow) → CanBeWritten round row → IsReadAs round row (row_line round row)
