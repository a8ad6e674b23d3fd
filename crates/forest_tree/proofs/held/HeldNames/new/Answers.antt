use Rattle.std.proofs.Common.{◌∙◌, ap}
use Rattle.name_tree.specs.Held.{held}
use Rattle.forest_tree.proofs.HeldSets.{held-empty}
use Rattle.forest_tree.proofs.held.HeldNames.new.Goals as goal

pub returns : goal.returns
returns c = ap held c.new.ensures ∙ held-empty
