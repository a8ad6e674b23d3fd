use Rattle.std.proofs.Common.{◌≡◌, map}
use Rattle.std.specs.List.{range_with_len}
use Rattle.macro_file.specs.Text.{element_of}
use Rattle.mesh_mend.specs.Mended.{piece}
use Rattle.mesh_mend.proofs.cutting.pieces.Given as goal

abbrev pub invariant-loop-number : goal.invariant-loop-number
invariant-loop-number l = map element_of l.pieces.items ≡ map (piece l.text) (range_with_len 0 l.number)
