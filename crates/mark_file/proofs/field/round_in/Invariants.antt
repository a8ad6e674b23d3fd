use Rattle.std.proofs.Common.{◌≡◌, ◌<◌, ◌^◌, take}
use Rattle.std.specs.Str.Parse.{AllDigits, digits_value}
use Rattle.mark_file.proofs.field.round_in.Given as goal

abbrev pub invariant-loop-digit : goal.invariant-loop-digit
invariant-loop-digit l = (l.round < 10 ^ l.digit-index) × (l.round ≡ digits_value 10 (take l.digit-index l.field)) × AllDigits 10 (take l.digit-index l.field)
