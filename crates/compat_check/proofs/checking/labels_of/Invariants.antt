use Rattle.std.proofs.Common.{◌≡◌, map, take}
use Rattle.macro_file.specs.declared.text.MacroElem.{MacroElem}
use Rattle.compat_check.proofs.checking.labels_of.Given as goal

abbrev pub invariant-loop-element : goal.invariant-loop-element
invariant-loop-element l = l.labels.items ≡ map (λ (e : MacroElem). e.labels) (take l.element-index l.elements)
