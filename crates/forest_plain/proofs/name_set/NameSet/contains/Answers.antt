use Rattle.std.proofs.Common.{◌∙◌, ap, sym}
use Rattle.std.specs.FinSet.{contains, contains-from_list}
use Rattle.mesh_names.specs.Order.{name_cmp_total}
use Rattle.forest_plain.proofs.name_set.NameSet.contains.Goals as goal

pub returns : goal.returns
returns c =
    c.contains.ensures
    ∙ sym (contains-from_list name_cmp_total c.self.inside.names.keys c.args.name)
    ∙ ap (λ s. contains s c.args.name) c.self.view_is
