use Rattle.std.proofs.Common.{◌≡◌, ℕ, ◌<◌, ◌/◌, ◌%◌, map}
use Rattle.std.specs.Prelude.{pos}
use Rattle.macro_file.specs.declared.text.MacroElem.{MacroElem}
use Rattle.compat_check.specs.Faults.{triple_in}
use Rattle.compat_check.specs.Meshes.{edge_of}
use Rattle.mesh_mend.specs.Refusals.{piece_area}
use Rattle.mesh_mend.proofs.flatness.first_flat.Given as goal

abbrev pub invariant-loop-number : goal.invariant-loop-number
invariant-loop-number l = (q : ℕ) → q < l.number → piece_area l.vertices (triple_in (map (λ (e : MacroElem). e.corners) l.elements) (q / 3)) (edge_of (q % 3)) ≡ pos 0 → ⊥
