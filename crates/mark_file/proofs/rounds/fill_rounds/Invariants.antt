use Rattle.std.proofs.Common.{◌≡◌, ◌≤◌, ◌+◌, ◌-◌, ◌++◌, length, map}
use Rattle.std.specs.List.{range_with_len}
use Rattle.mark_file.specs.Meaning.{empty_round, rounds_read}
use Rattle.mark_file.proofs.rounds.fill_rounds.Given as goal

abbrev pub invariant-fill : goal.invariant-fill
invariant-fill l = (length l.fn.rounds.items ≤ length l.rounds.items) × (length l.rounds.items ≤ l.count)
    × (rounds_read l.rounds.items ≡ rounds_read l.fn.rounds.items ++ map empty_round (range_with_len (length l.fn.rounds.items + 1) (length l.rounds.items - length l.fn.rounds.items)))

abbrev pub decreases-fill : goal.decreases-fill
decreases-fill l = l.count - length l.rounds.items
