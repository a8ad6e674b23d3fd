use Rattle.forest_tree.proofs.Beside.{none-apart}
use Rattle.forest_tree.proofs.grown.Grown.new.Goals as goal

pub invariant_of-result : goal.invariant_of-result
invariant_of-result c = record { apart = none-apart c.finder.result c.new.result c.new.ensures }
