use Rattle.forest_plain.proofs.Holding.{left-set}
use Rattle.forest_plain.proofs.name_set.NameSet.remove.Goals as goal

pub returns : goal.returns
returns c = left-set c.self.inside.names.keys c.remove.new.self.keys c.args.self.now c.args.name c.self.view_is c.remove.ensures.updates.0
