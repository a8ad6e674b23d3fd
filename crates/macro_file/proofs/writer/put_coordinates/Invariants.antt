use Rattle.std.proofs.Common.{◌≡◌, ◌++◌, map, take}
use Rattle.macro_file.specs.Text.{vertex_of}
use Rattle.macro_file.specs.Written.{lines_text, point_line}
use Rattle.macro_file.proofs.writer.put_coordinates.Given as goal

abbrev pub invariant-loop-vertex : goal.invariant-loop-vertex
invariant-loop-vertex l = l.to.items ≡ l.initial.to.items ++ lines_text (map point_line (take l.vertex-index (map vertex_of l.vertices)))
