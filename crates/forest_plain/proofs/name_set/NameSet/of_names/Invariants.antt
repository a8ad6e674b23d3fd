use Rattle.std.proofs.Common.{◌≡◌, take}
use Rattle.std.specs.FinSet.{from_list}
use Rattle.forest_plain.proofs.name_set.NameSet.of_names.Given as goal

abbrev pub invariant-loop-name : goal.invariant-loop-name
invariant-loop-name l = l.found ≡ from_list (take l.name-index l.names)
