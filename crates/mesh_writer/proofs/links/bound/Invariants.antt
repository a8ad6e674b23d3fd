use Rattle.std.proofs.Common.{ℕ, ◌<◌}
use Rattle.mesh_writer.specs.Links.{edge_at}
use Rattle.mesh_writer.proofs.links.bound.Given as goal

abbrev pub invariant-loop-place : goal.invariant-loop-place
invariant-loop-place l = (place : ℕ) → place < l.place → (edge_at l.triples place).0 < l.bound
