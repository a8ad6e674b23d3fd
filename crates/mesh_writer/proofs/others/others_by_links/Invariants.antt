use Rattle.std.proofs.Common.{ℕ, ◌<◌, ◌*◌, length}
use Rattle.mesh_writer.specs.Links.{AreLinked, edge_at}
use Rattle.mesh_writer.specs.Others.{AreOthersBelow}
use Rattle.mesh_writer.proofs.others.others_by_links.Given as goal

abbrev pub invariant-loop-place : goal.invariant-loop-place
invariant-loop-place l = record {
  linked : AreLinked l.triples l.place l.links;
  bound : (k : ℕ) → k < length l.triples * 3 → (edge_at l.triples k).0 < length l.links.lasts.items;
  others : AreOthersBelow l.triples l.place l.others.items;
}
