use Rattle.std.proofs.Common.{◌≡◌, map, take}
use Rattle.macro_file.specs.Written.{lines_text}
use Rattle.mesh_writer.proofs.pieces.piece.Given as goal

abbrev pub invariant-loop-item : goal.invariant-loop-item
invariant-loop-item g l = l.text.items ≡ lines_text (map g.L.Line.line (take l.item-index l.items))
