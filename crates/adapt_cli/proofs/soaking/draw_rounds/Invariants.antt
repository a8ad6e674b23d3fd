use Rattle.std.proofs.Common.{◌≡◌}
use Rattle.mesh_rounds.specs.Adaptive.{mesh_of, seen_of, state_of}
use Rattle.mesh_rounds.specs.State.{IsState}
use Rattle.adapt_cli.proofs.Drawing.{DrawnSoFar}
use Rattle.adapt_cli.proofs.soaking.draw_rounds.Given as goal

abbrev pub invariant-loop-made : goal.invariant-loop-made
invariant-loop-made l = record {
  so_far : DrawnSoFar (mesh_of l.fn.mesh) (seen_of l.fn.mesh).pool l.rounds (record { state = l.start; row = 1 }) (state_of l.fn.mesh) l.made l.draws (state_of l.mesh);
  state : IsState (mesh_of l.mesh) (state_of l.mesh);
  same : mesh_of l.mesh ≡ mesh_of l.fn.mesh;
  pool : (seen_of l.mesh).pool ≡ (seen_of l.fn.mesh).pool;
}
