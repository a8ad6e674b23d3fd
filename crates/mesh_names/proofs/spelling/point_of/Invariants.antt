use Rattle.std.proofs.Common.{◌≡◌, ◌<◌, ℕ, false, get_or}
use Rattle.mesh_names.specs.Spelling.{is_point}
use Rattle.mesh_names.proofs.spelling.point_of.Given as goal

abbrev pub invariant-loop-at : goal.invariant-loop-at
invariant-loop-at l = (k : ℕ) → k < l.at → is_point (get_or l.text k 0) ≡ false
