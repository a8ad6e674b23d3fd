-- What a marks file means: the first refusal of its first refused row, or else its rounds.
use Rattle.std.specs.Prelude.{◌≡◌, ◌≢◌, ℕ, ◌+◌, ◌≤◌, ◌==◌, max, List, [], ◌∷◌, ◌++◌, length, map, filter, fold, All, if◌then◌else◌, Result, Ok, Err, slice_get, Some}
use Rattle.std.specs.Result.{result_map_both}
use Rattle.std.specs.List.{range_with_len}
use Rattle.csv.specs.Reading.{records, strip_bom, default_config}
use Rattle.mesh_names.specs.declared.rows.MarkRow.{MarkRow}
use Rattle.mesh_names.specs.declared.rows.RoundMarks.{RoundMarks}
use Rattle.mesh_names.specs.Marks.{IsWellFormed}
use Rattle.mark_file.specs.Rows.{Record, is_header, round_of, row_meaning}
use Rattle.mark_file.specs.declared.row.RoundRow.{RoundRow}
use Rattle.mark_file.specs.declared.refusal.MarkRefusal.{MarkRefusal}
use Rattle.mark_file.specs.declared.refusal.MarkRefusal.TheVariants.{BadHeader, Memory}

-- what each of these rows says, of which the first has this number and follows the row `before`
abbrev pub each_row : ℕ → Record → List Record → List (Result RoundRow MarkRefusal)
each_row number before [] = []
each_row number before (r ∷ rest) = row_meaning number (round_of before) r ∷ each_row (number + 1) r rest

-- all the values, or the first refusal
abbrev pub all_or_first : {A E : Type 0} → List (Result A E) → Result (List A) E
all_or_first [] = Ok []
all_or_first (Err e ∷ rest) = Err e
all_or_first (Ok a ∷ rest) = result_map_both (λ others. a ∷ others) (λ e. e) (all_or_first rest)

-- the accepted rows after the first one, or the first refusal
abbrev pub accepted : Record → List Record → Result (List RoundRow) MarkRefusal
accepted first rest = all_or_first (each_row 2 first rest)

-- a round: its number, and its rows in order
pub record Round : Type 0 where
  pub number : ℕ
  pub rows : List MarkRow

-- the greatest round that a row names, and 0 where there is no row
abbrev pub greatest_round : List RoundRow → ℕ
greatest_round rows = fold max 0 (map (λ r. r.round) rows)

-- what an accepted row asks for
abbrev pub mark_row : RoundRow → MarkRow
mark_row r = record { row = r.row; what = r.what; place = r.place; number = r.number }

-- a round without rows
abbrev pub empty_round : ℕ → Round
empty_round k = record { number = k; rows = [] }

-- round k has the rows that name it
abbrev pub round_at : List RoundRow → ℕ → Round
round_at rows k = record { number = k; rows = map mark_row (filter (λ r. r.round == k) rows) }

-- the rounds from 1 to the greatest that a row names; those without rows are empty
abbrev pub rounds_of : List RoundRow → List Round
rounds_of rows = map (round_at rows) (range_with_len 1 (greatest_round rows))

-- the meaning of the records of a file, of which the first is the header
abbrev pub rows_meaning : List Record → Result (List Round) MarkRefusal
rows_meaning [] = Err (BadHeader 1)
rows_meaning (first ∷ rest) = if is_header first then result_map_both rounds_of (λ e. e) (accepted first rest) else Err (BadHeader 1)

-- the meaning of the bytes of a file, whose records are those that `csv` defines
unfoldable pub marks_meaning : List ℕ → Result (List Round) MarkRefusal
marks_meaning bytes = rows_meaning (records default_config (strip_bom bytes))

-- a round as it was read
abbrev pub round_read : RoundMarks → Round
round_read marks = record { number = marks.number; rows = marks.rows.items }

-- the rounds as they were read
abbrev pub rounds_read : List RoundMarks → List Round
rounds_read rounds = map round_read rounds

-- a refusal comes exactly where it is the meaning of the bytes, but want of memory is free
abbrev pub IsCause : List ℕ → MarkRefusal → Type 0
IsCause bytes e = e ≢ Memory → marks_meaning bytes ≡ Err e

-- at most 65,535 rounds, numbered from 1, of rows that a round takes
pub record AreMarks (rounds : List Round) : Type 0 where
  pub few : length rounds ≤ 65535
  pub numbered : (k : ℕ) (round : Round) → slice_get rounds k ≡ Some round → round.number ≡ k + 1
  pub rows : All (λ (round : Round). All IsWellFormed round.rows) rounds

-- the rows after the first one are accepted, and these are their rounds
abbrev pub GivesRounds : Record → List Record → List Round → Type 0
GivesRounds first rest rounds = (result_map_both rounds_of (λ e. e) (accepted first rest) ≡ Ok rounds) × AreMarks rounds

-- this is their first refusal, but for want of memory
abbrev pub IsRefused : Record → List Record → MarkRefusal → Type 0
IsRefused first rest e = e ≢ Memory → accepted first rest ≡ Err e

-- the row is accepted, and the rounds of all rows so far become those with it
abbrev pub TakesRow : ℕ → Record → List Round → List Round → Type 0
TakesRow number r old new = (row : RoundRow) × (row_meaning number (length old) r ≡ Ok row) × ((rows : List RoundRow) → old ≡ rounds_of rows → new ≡ rounds_of (rows ++ row ∷ []))
