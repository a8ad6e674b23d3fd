use Rattle.std.proofs.Common.{◌≡◌, map}
use Rattle.std.specs.List.{range_with_len}
use Rattle.macro_file.specs.Text.{element_of}
use Rattle.soak.specs.Grid.{element_at}
use Rattle.soak.proofs.grids.elements.Given as goal

abbrev pub invariant-loop-number : goal.invariant-loop-number
invariant-loop-number l = map element_of l.elements.items ≡ map (element_at l.side) (range_with_len 0 l.number)
