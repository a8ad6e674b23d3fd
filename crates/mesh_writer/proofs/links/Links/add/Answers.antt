use Rattle.std.proofs.Common.{◌<◌, ℕ, ap, length, refl, subst, sym}
use Rattle.mesh_writer.proofs.EdgeLinks.{linked_more}
use Rattle.mesh_writer.proofs.links.Links.add.Goals as goal

pub returns-clause-linked : goal.returns-clause-linked
returns-clause-linked c = linked_more c.args.triples.now c.args.place c.edge-lesser.result.0 c.args.self.now _ c.index.result.now c.requires.linked (ap (λ (p : ℕ × ℕ). p.0) c.edge-lesser.ensures)
    (subst (λ (p : ℕ × ℕ). p.0 < length c.args.self.now.lasts.items) (sym c.edge-lesser.ensures) c.requires.low) c.index.ensures refl c.in_ok-push.ensures.items
