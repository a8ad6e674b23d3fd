use Rattle.std.proofs.Common.{◌≡◌, map}
use Rattle.std.specs.List.{range_with_len}
use Rattle.macro_file.specs.Meaning.{element}
use Rattle.macro_file.specs.Text.{element_of}
use Rattle.macro_file.proofs.assembly.elements.Given as goal

abbrev pub invariant-loop-e : goal.invariant-loop-e
invariant-loop-e l = map element_of l.elements.items ≡ map (element l.corners l.labels l.neighbours l.values) (range_with_len 0 l.e)
