use Rattle.std.proofs.Common.{ap, ◌∙◌, subst}
use Rattle.dof_transfer.specs.VertexValues.{IsVertexSound, VertexHeld, index_at}
use Rattle.dof_transfer.proofs.VertexKept.{index-apart}
use Rattle.dof_transfer.proofs.vertices.VertexValues.index.Goals as goal

pub returns-clause-apart : goal.returns-clause-apart
returns-clause-apart c = index-apart c.args.self.now (subst IsVertexSound c.self.view_is c.self.invariant.0) c.args.key c.index.result (c.index.ensures ∙ ap (λ (h : VertexHeld). index_at h c.args.key) c.self.view_is)
