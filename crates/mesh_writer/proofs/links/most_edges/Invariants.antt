use Rattle.std.proofs.Common.{◌≡◌, length}
use Rattle.mesh_writer.proofs.links.most_edges.Given as goal

abbrev pub invariant-loop-place : goal.invariant-loop-place
invariant-loop-place l = length l.counts.items ≡ l.bound
