use Rattle.std.specs.FinSet.{union}
use Rattle.forest_tree.proofs.Beside.{none-within}
use Rattle.forest_tree.proofs.lessened.Lessened.new.Goals as goal

pub invariant_of-result : goal.invariant_of-result
invariant_of-result c = record { within = none-within c.new.result (union c.args.members.now c.args.fresh.now) c.new.ensures }
