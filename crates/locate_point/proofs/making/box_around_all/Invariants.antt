use Rattle.compat_check.specs.Within.{IsWithin}
use Rattle.locate_point.proofs.making.box_around_all.Given as goal

abbrev pub invariant-loop-name : goal.invariant-loop-name
invariant-loop-name l = IsWithin l.low × IsWithin l.high
