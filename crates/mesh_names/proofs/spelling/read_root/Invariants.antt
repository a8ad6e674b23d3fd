use Rattle.std.proofs.Common.{◌≡◌, ◌<◌, take}
use Rattle.std.specs.Str.Parse.{AllDigits, digits_value}
use Rattle.mesh_names.proofs.spelling.read_root.Given as goal

abbrev pub invariant-loop-digit : goal.invariant-loop-digit
invariant-loop-digit l = (l.root < 65535) × (l.root ≡ digits_value 10 (take l.digit-index l.digits)) × AllDigits 10 (take l.digit-index l.digits)
