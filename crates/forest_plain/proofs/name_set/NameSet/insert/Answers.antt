use Rattle.std.proofs.Common.{◌∙◌, ap, sym, not}
use Rattle.std.specs.FinSet.{contains, contains-from_list}
use Rattle.mesh_names.specs.Order.{name_cmp_total}
use Rattle.forest_plain.proofs.Holding.{held-set}
use Rattle.forest_plain.proofs.name_set.NameSet.insert.Goals as goal

pub returns-clause-added : goal.returns-clause-added
returns-clause-added c =
    c.in_ok-added.ensures.added
    ∙ ap not (sym (contains-from_list name_cmp_total c.self.inside.names.keys c.args.name) ∙ ap (λ s. contains s c.args.name) c.self.view_is)

pub returns-clause-held : goal.returns-clause-held
returns-clause-held c = held-set c.self.inside.names.keys c.insert.new.self.keys c.args.self.now c.args.name c.self.view_is c.in_ok-added.ensures.updates.0
