use Rattle.std.proofs.Common.{◌≡◌, map, take}
use Rattle.macro_file.specs.declared.text.MacroElem.{MacroElem}
use Rattle.macro_file.specs.Text.{vertex_of}
use Rattle.mesh_mend.specs.Centres.{centre_at}
use Rattle.mesh_mend.proofs.centres.centres.Given as goal

abbrev pub invariant-loop-element : goal.invariant-loop-element
invariant-loop-element l = map vertex_of l.centres.items ≡ map (centre_at l.vertices) (map (λ (e : MacroElem). e.corners) (take l.element-index l.elements))
