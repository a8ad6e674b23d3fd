use Rattle.std.proofs.Common.{◌∙◌}
use Rattle.mesh_rounds.proofs.Belonging.{stays}
use Rattle.mesh_rounds.proofs.adaptive.AdaptiveMesh.round.Goals as goal

pub invariant_of-self : goal.invariant_of-self
invariant_of-self g c =
    let it = c.args.self.now in
    record {
      closed = c.round-answer.ensures.closed;
      shape = c.round-answer.ensures.same.mesh ∙ it.shape;
      sides = c.round-answer.ensures.same.sides ∙ it.sides;
      state = λ kept. stays it.mesh.now (g.F.Forest.seen it.forest) (g.F.Forest.seen c.round-answer.new.forest) it.values c.round-answer.new.values c.round-answer.result (it.state c.if-self.false) c.round-answer.ensures.state (c.is_memory-self.ensures kept) c.round-answer.ensures.unchanged;
    }
