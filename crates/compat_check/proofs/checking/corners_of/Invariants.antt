use Rattle.std.proofs.Common.{◌≡◌, map, take}
use Rattle.macro_file.specs.declared.text.MacroElem.{MacroElem}
use Rattle.compat_check.proofs.checking.corners_of.Given as goal

abbrev pub invariant-loop-element : goal.invariant-loop-element
invariant-loop-element l = l.triples.items ≡ map (λ (e : MacroElem). e.corners) (take l.element-index l.elements)
