use Rattle.std.proofs.Common.{◌∙◌, ap, sym, is_some, Option}
use Rattle.std.specs.FinSet.{contains}
use Rattle.mesh_names.specs.Forests.{Names}
use Rattle.name_tree.specs.declared.nodes.Entry.{Entry}
use Rattle.name_tree.proofs.Found.{has-held}
use Rattle.forest_tree.proofs.held.HeldFinder.contains.Goals as goal

pub returns-clause-found : goal.returns-clause-found
returns-clause-found c =
    c.is_some.ensures
    ∙ ap (λ (o : Option Entry). is_some o) c.get.ensures.value
    ∙ sym (has-held c.self.inside.finder c.args.name)
    ∙ ap (λ (s : Names). contains s c.args.name) c.self.view_is
