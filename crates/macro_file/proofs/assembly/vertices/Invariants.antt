use Rattle.std.proofs.Common.{◌≡◌, map}
use Rattle.std.specs.List.{range_with_len}
use Rattle.macro_file.specs.Meaning.{vertex}
use Rattle.macro_file.specs.Text.{vertex_of}
use Rattle.macro_file.proofs.assembly.vertices.Given as goal

abbrev pub invariant-loop-i : goal.invariant-loop-i
invariant-loop-i l = map vertex_of l.vertices.items ≡ map (vertex l.coordinates l.values) (range_with_len 0 l.i)
