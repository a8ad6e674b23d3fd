use Rattle.std.proofs.Common.{◌∙◌, ap}
use Rattle.std.specs.FinSet.{difference, from_list}
use Rattle.mesh_names.specs.Forests.{Names}
use Rattle.forest_tree.proofs.HeldSets.{held-live}
use Rattle.forest_tree.proofs.held.HeldNames.remove_all.Goals as goal

pub returns : goal.returns
returns c = held-live c.forget_all.new.tree c.take_out_all.new.tree c.forget_all.ensures ∙ c.take_out_all.ensures ∙ ap (λ (s : Names). difference s (from_list c.args.names.now)) c.self.view_is
