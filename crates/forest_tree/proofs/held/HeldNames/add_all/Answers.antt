use Rattle.std.proofs.Common.{◌∙◌, ap}
use Rattle.std.specs.FinSet.{from_list, union}
use Rattle.mesh_names.specs.Forests.{Names}
use Rattle.forest_tree.proofs.HeldSets.{held-live, on-err}
use Rattle.forest_tree.proofs.held.HeldNames.add_all.Goals as goal

pub returns-in_err-make_ready-clause-err : goal.returns-in_err-make_ready-clause-err
returns-in_err-make_ready-clause-err c = on-err c.from_residual.result _ (held-live c.make_ready.new.tree c.self.inside.tree c.in_err-make_ready.ensures.live ∙ c.self.view_is)

pub returns-clause-ok : goal.returns-clause-ok
returns-clause-ok c = c.put_all.ensures ∙ ap (λ (s : Names). union s (from_list c.args.names.now)) (held-live c.make_ready.new.tree c.self.inside.tree c.in_ok-make_ready.ensures.live ∙ c.self.view_is)
