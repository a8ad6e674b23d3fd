use Rattle.std.proofs.Common.{ap, ◌∙◌, subst}
use Rattle.dof_transfer.specs.VertexValues.{AreSmall, VertexHeld, value_at}
use Rattle.dof_transfer.proofs.VertexKept.{value-small}
use Rattle.dof_transfer.proofs.vertices.VertexValues.value.Goals as goal

pub returns-clause-small : goal.returns-clause-small
returns-clause-small c = value-small c.args.self.now (subst AreSmall c.self.view_is c.self.invariant.1) c.args.key c.value.result (c.value.ensures ∙ ap (λ (h : VertexHeld). value_at h c.args.key) c.self.view_is)
