use Rattle.std.proofs.Common.{◌≡◌, ◌-◌, ◌∷◌, [], drop}
use Rattle.mesh_names.specs.Names.{depth}
use Rattle.compat_check.specs.Points.{points}
use Rattle.compat_check.proofs.mesh.MacroMesh.points.Given as goal

abbrev pub invariant-loop-letters : goal.invariant-loop-letters
invariant-loop-letters l = l.first ∷ l.second ∷ l.apex ∷ [] ≡ points l.self (l.name.0, drop (depth l.name - l.letters) l.name.1)
