use Rattle.std.proofs.Common.{◌≡◌, ◌++◌, map, take}
use Rattle.std.specs.List.{concat}
use Rattle.mark_file.specs.Written.{row_line}
use Rattle.adapt_cli.specs.Marks.{marking}
use Rattle.adapt_cli.proofs.marking.marks_of.Given as goal

abbrev pub invariant-loop-name : goal.invariant-loop-name
invariant-loop-name l = l.text.items ≡ l.initial.text.items ++ concat (map (λ n. row_line l.round (marking n)) (take l.name-index l.names))
