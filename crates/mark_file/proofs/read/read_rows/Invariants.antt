use Rattle.std.proofs.Common.{◌≤◌, ◌-◌}
use Rattle.csv.specs.Records.{fields_of}
use Rattle.mark_file.specs.Meaning.{rounds_read}
use Rattle.mark_file.specs.Unread.{IsSteady, unread}
use Rattle.mark_file.proofs.ReadLemmas.{SoFar}
use Rattle.mark_file.proofs.read.read_rows.Given as goal

abbrev pub invariant-rows : goal.invariant-rows
invariant-rows l = IsSteady l.reader × (1 ≤ l.number) × (l.number ≤ 1048577) × SoFar (fields_of l.fn.row) (unread l.fn.reader) l.number (fields_of l.row) (unread l.reader) (rounds_read l.rounds.items)

abbrev pub decreases-rows : goal.decreases-rows
decreases-rows l = 1048577 - l.number
