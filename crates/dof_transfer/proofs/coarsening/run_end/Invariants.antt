use Rattle.std.proofs.Common.{◌≡◌, ◌<◌, ◌≤◌, ◌-◌, ℕ, length, [], get_or}
use Rattle.mesh_names.specs.Triangles.{level}
use Rattle.compat_check.specs.Meshes.{shape_of}
use Rattle.dof_transfer.proofs.coarsening.run_end.Given as goal

abbrev pub invariant-loop-end : goal.invariant-loop-end
invariant-loop-end l = record {
  some : l.at < l.end;
  within : l.end ≤ length l.names;
  same : (k : ℕ) → l.at ≤ k → k < l.end → level (shape_of l.mesh) (get_or l.names k (0, [])) ≡ level (shape_of l.mesh) (get_or l.names l.at (0, []));
}

abbrev pub decreases-loop-end : goal.decreases-loop-end
decreases-loop-end l = length l.initial.names - l.end
