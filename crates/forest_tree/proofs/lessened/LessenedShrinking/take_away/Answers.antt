use Rattle.std.proofs.Common.{sym, ◌∙◌}
use Rattle.std.specs.FinSet.{union}
use Rattle.forest_tree.proofs.Beside.{away-already, of-difference, taken-away, within-tried}
use Rattle.forest_tree.specs.Grown.{left_of}
use Rattle.forest_tree.proofs.lessened.LessenedShrinking.take_away.Goals as goal

pub invariant_of-self : goal.invariant_of-self
invariant_of-self c =
    let all = union c.args.self.now.members.now c.args.self.now.fresh.now in
    record { within = within-tried all c.args.self.now.gone c.insert.new.self c.args.name c.insert.result (of-difference all c.args.self.now.gone c.args.name (sym c.is_left.ensures ∙ c.if-is_left.true)) c.args.self.now.within c.insert.ensures.held c.insert.ensures.err }

pub returns-in_ok-insert-clause-left : goal.returns-in_ok-insert-clause-left
returns-in_ok-insert-clause-left c = taken-away (union c.args.self.now.members.now c.args.self.now.fresh.now) c.args.self.now.gone c.insert.new.self c.args.name c.in_ok-insert.ensures.held

pub returns-else-is_left-clause-left : goal.returns-else-is_left-clause-left
returns-else-is_left-clause-left c = away-already (left_of c.args.self.now) c.args.name (sym c.is_left.ensures ∙ c.if-is_left.false)
