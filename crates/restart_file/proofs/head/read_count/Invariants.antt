use Rattle.std.proofs.Common.{◌≡◌, ◌≤◌, take}
use Rattle.std.specs.Str.Parse.{AllDigits, digits_value}
use Rattle.restart_file.proofs.head.read_count.Given as goal

abbrev pub invariant-loop-digit : goal.invariant-loop-digit
invariant-loop-digit l = (l.count ≤ 16777216) × (l.count ≡ digits_value 10 (take l.digit-index l.digits)) × AllDigits 10 (take l.digit-index l.digits)
