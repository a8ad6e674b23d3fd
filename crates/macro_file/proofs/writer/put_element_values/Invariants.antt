use Rattle.std.proofs.Common.{◌≡◌, ◌++◌, map, take}
use Rattle.std.specs.Fmt.{signed_decimal}
use Rattle.macro_file.specs.Text.{element_of}
use Rattle.macro_file.specs.Written.{lines_text}
use Rattle.macro_file.proofs.writer.put_element_values.Given as goal

abbrev pub invariant-loop-element : goal.invariant-loop-element
invariant-loop-element l = l.to.items ≡ l.initial.to.items ++ lines_text (map (λ e. signed_decimal e.value) (take l.element-index (map element_of l.elements)))
