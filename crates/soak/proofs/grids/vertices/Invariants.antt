use Rattle.std.proofs.Common.{◌≡◌, map}
use Rattle.std.specs.List.{range_with_len}
use Rattle.macro_file.specs.Text.{vertex_of}
use Rattle.soak.specs.Grid.{vertex_at}
use Rattle.soak.proofs.grids.vertices.Given as goal

abbrev pub invariant-loop-number : goal.invariant-loop-number
invariant-loop-number l = map vertex_of l.vertices.items ≡ map (vertex_at l.side) (range_with_len 0 l.number)
