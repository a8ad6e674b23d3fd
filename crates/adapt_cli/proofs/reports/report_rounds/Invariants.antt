use Rattle.std.proofs.Common.{◌≡◌}
use Rattle.mesh_rounds.specs.Adaptive.{mesh_of, seen_of, state_of}
use Rattle.adapt_cli.proofs.RoundOrder.{Reported}
use Rattle.adapt_cli.proofs.reports.report_rounds.Given as goal

abbrev pub invariant-loop-round : goal.invariant-loop-round
invariant-loop-round l = record {
  reported : Reported (mesh_of l.fn.mesh) (seen_of l.fn.mesh).pool l.rounds (state_of l.fn.mesh) l.round-index (state_of l.mesh) l.text.items;
  same : mesh_of l.mesh ≡ mesh_of l.fn.mesh;
  pool : (seen_of l.mesh).pool ≡ (seen_of l.fn.mesh).pool;
  number : l.number ≡ l.round-index;
}
