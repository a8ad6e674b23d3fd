use Rattle.std.proofs.Common.{◌≡◌, ◌++◌, map, take}
use Rattle.std.specs.Fmt.{signed_decimal}
use Rattle.macro_file.specs.Text.{vertex_of}
use Rattle.macro_file.specs.Written.{lines_text}
use Rattle.macro_file.proofs.writer.put_vertex_values.Given as goal

abbrev pub invariant-loop-vertex : goal.invariant-loop-vertex
invariant-loop-vertex l = l.to.items ≡ l.initial.to.items ++ lines_text (map (λ v. signed_decimal v.value) (take l.vertex-index (map vertex_of l.vertices)))
