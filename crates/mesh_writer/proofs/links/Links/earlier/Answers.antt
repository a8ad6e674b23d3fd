use Rattle.std.proofs.Common.{ℕ, ◌∙◌, ap, subst, sym}
use Rattle.mesh_writer.proofs.EdgeLinks.{IsLeft, left_next, read_before}
use Rattle.mesh_writer.proofs.links.Links.earlier.Goals as goal

pub loop-at-preserved : goal.loop-at-preserved
loop-at-preserved c =
    let triples = c.args.triples.now in
    let second = λ (p : ℕ × ℕ). p.1 in
    let left = subst (IsLeft triples c.args.place) c.in-Some.is c.loop-at.invariant in
    left_next triples c.args.place c.in-Some.last c.index-at-in-Some.result.now left
    (λ e. c.if-edge-sought.false (ap second c.edge.ensures ∙ e ∙ sym (ap second c.edge-sought.ensures)))
    (read_before triples c.args.self.now.before.items c.in-Some.last c.args.place c.index-at-in-Some.result.now c.requires.linked.each c.requires.linked.before left.0 c.index-at-in-Some.ensures)
