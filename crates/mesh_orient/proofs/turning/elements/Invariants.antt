use Rattle.std.proofs.Common.{◌≡◌, map}
use Rattle.std.specs.List.{range_with_len}
use Rattle.macro_file.specs.Text.{element_of}
use Rattle.mesh_orient.specs.Turns.{element_in, shift_in, turned_element}
use Rattle.mesh_orient.proofs.turning.elements.Given as goal

abbrev pub invariant-loop-number : goal.invariant-loop-number
invariant-loop-number l = map element_of l.turned.items ≡ map (λ r. turned_element (shift_in l.shifts r) (element_in l.text r)) (range_with_len 0 l.number)
