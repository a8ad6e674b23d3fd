use Rattle.std.proofs.Common.{subst}
use Rattle.dof_transfer.specs.Held.{Held, IsTidied}
use Rattle.mesh_rounds.proofs.Tidied.{element-values-tidied, vertex-values-tidied}
use Rattle.mesh_rounds.proofs.values.Values.follow.Goals as goal

pub returns-clause-vertices : goal.returns-clause-vertices
returns-clause-vertices c before after = record {
  values = λ forest of lead. vertex-values-tidied c.args.mesh.now after c.args.self.now.vertices c.apply.new.self c.tidy.new.self c.in_ok-tidy.ensures.ok (c.in_ok-apply.ensures.values before after forest of lead);
  changed = c.apply.new.self;
  change = c.in_ok-apply.ensures.ok;
  tidied = c.in_ok-tidy.ensures.ok;
}

pub returns-clause-elements : goal.returns-clause-elements
returns-clause-elements c before after = record {
  values = λ of lead. element-values-tidied c.args.mesh.now after c.args.self.now.elements c.apply-2.new.self c.tidy-2.new.self c.in_ok-tidy-2.ensures.ok (c.in_ok-apply-2.ensures.values before after of lead);
  tidied = subst (λ (h : Held). IsTidied h c.tidy-2.new.self) c.in_ok-apply-2.ensures.ok c.in_ok-tidy-2.ensures.ok;
}
