use Rattle.std.proofs.Common.{◌∙◌, ap, sym, is_some, Option}
use Rattle.std.specs.FinSet.{contains}
use Rattle.mesh_names.specs.Forests.{Names}
use Rattle.name_tree.specs.declared.nodes.Entry.{Entry}
use Rattle.name_tree.proofs.Found.{has-held}
use Rattle.forest_tree.proofs.held.HeldNames.contains.Goals as goal

pub returns : goal.returns
returns c =
    c.is_some.ensures
    ∙ ap (λ (o : Option Entry). is_some o) c.get.ensures
    ∙ sym (has-held c.self.inside.tree c.args.name)
    ∙ ap (λ (s : Names). contains s c.args.name) c.self.view_is
