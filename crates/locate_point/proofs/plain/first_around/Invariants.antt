use Rattle.std.proofs.Common.{ℕ, ◌<◌, get_or}
use Rattle.mesh_names.specs.Names.{Name}
use Rattle.locate_point.specs.Covering.{IsAround}
use Rattle.locate_point.proofs.plain.first_around.Given as goal

abbrev pub invariant-loop-leaf : goal.invariant-loop-leaf
invariant-loop-leaf l = (k : ℕ) (d : Name) → k < l.leaf-index → IsAround l.mesh l.point (get_or l.leaves k d) → ⊥
