-- What the rows of a marks file say, each by itself.
use Rattle.std.specs.Prelude.{ℕ, ◌==◌, ◌&&◌, Bool, List, [], length, nat_lt, not, if◌then◌else◌, slice_index_or, unwrap_or, Option, Some, None, Result, Ok, Err, codes, bytes_eq}
use Rattle.mark_file.specs.Fields.{Field, trimmed, round_in, what_in, place_in, number_in}
use Rattle.mark_file.specs.declared.row.RoundRow.{RoundRow}
use Rattle.mark_file.specs.declared.refusal.MarkRefusal.{MarkRefusal}
use Rattle.mark_file.specs.declared.refusal.MarkRefusal.TheVariants.{BadFields, BadRound, BadWhat, BadWhere, BadNumber, RoundsFall, TooMany}

-- a record of the file, field by field
abbrev pub Record : Type 0
Record = List Field

-- the k-th field of a row, counted from 0, without its blanks
abbrev pub field_of : Record → ℕ → Field
field_of r k = trimmed (slice_index_or r k [])

-- the field is this word
abbrev pub is_word : Record → ℕ → Field → Bool
is_word r k word = bytes_eq (field_of r k) word

-- the four fields of the header
abbrev pub is_header : Record → Bool
is_header r = (length r == 4) && is_word r 0 (codes "round") && is_word r 1 (codes "what") && is_word r 2 (codes "where") && is_word r 3 (codes "number")

-- the value, or the refusal where there is none
abbrev pub needs : {A B E : Type 0} → Option A → E → (A → Result B E) → Result B E
needs None e next = Err e
needs (Some a) e next = next a

-- the round of a row, and 0 where it gives none, as the header
abbrev pub round_of : Record → ℕ
round_of r = unwrap_or (round_in (field_of r 0)) 0

-- at most 1,048,576 rows follow the header, which is row 1
abbrev pub last_row : ℕ
last_row = 1048577

-- what the row of this number says after a row of the round `before`: its first refusal, or its round and what it asks for there
unfoldable pub row_meaning : ℕ → ℕ → Record → Result RoundRow MarkRefusal
row_meaning number before r =
    if nat_lt last_row number then Err (TooMany number) else
    if not (length r == 4) then Err (BadFields number) else
    needs (round_in (field_of r 0)) (BadRound number) (λ round.
    if nat_lt round before then Err (RoundsFall number) else
    needs (what_in (field_of r 1)) (BadWhat number) (λ what.
    needs (place_in what (field_of r 2)) (BadWhere number) (λ place.
    needs (number_in what (field_of r 3)) (BadNumber number) (λ value.
    Ok (record { round = round; row = number; what = what; place = place; number = value })))))
