use Rattle.std.proofs.Common.{◌≡◌, ◌++◌, map, take, pos}
use Rattle.macro_file.specs.Text.{element_of}
use Rattle.macro_file.specs.Written.{numbers_line, lines_text}
use Rattle.macro_file.proofs.writer.put_triples.Given as goal

abbrev pub invariant-loop-element : goal.invariant-loop-element
invariant-loop-element l = l.to.items ≡ l.initial.to.items ++ lines_text (map (λ e. numbers_line (map pos e.corners)) (take l.element-index (map element_of l.elements)))
