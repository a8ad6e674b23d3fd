use Rattle.mesh_writer.proofs.EdgeLinks.{IsLeft, measure}
use Rattle.mesh_writer.proofs.links.Links.earlier.Given as goal

abbrev pub invariant-loop-at : goal.invariant-loop-at
invariant-loop-at l = IsLeft l.triples l.place l.at

abbrev pub decreases-loop-at : goal.decreases-loop-at
decreases-loop-at l = measure l.at
