use Rattle.std.proofs.Common.{sym, ◌∙◌}
use Rattle.std.specs.FinSet.{union}
use Rattle.forest_tree.proofs.Beside.{gone-out, in-first-of, in-second-of, still-in}
use Rattle.forest_tree.proofs.lessened.LessenedShrinking.is_left.Goals as goal

pub returns-then-contains : goal.returns-then-contains
returns-then-contains c = gone-out (union c.args.self.now.members.now c.args.self.now.fresh.now) c.args.self.now.gone c.args.name (sym c.contains.ensures ∙ c.if-contains.true)

pub returns-then-contains-2 : goal.returns-then-contains-2
returns-then-contains-2 c = c.if-contains-2.true ∙ still-in (union c.args.self.now.members.now c.args.self.now.fresh.now) c.args.self.now.gone c.args.name _ (sym c.contains.ensures ∙ c.if-contains.false) (in-first-of c.args.self.now.members.now c.args.self.now.fresh.now c.args.name (sym c.contains-2.ensures ∙ c.if-contains-2.true))

pub returns-else-contains-2 : goal.returns-else-contains-2
returns-else-contains-2 c = still-in (union c.args.self.now.members.now c.args.self.now.fresh.now) c.args.self.now.gone c.args.name _ (sym c.contains.ensures ∙ c.if-contains.false) (in-second-of c.args.self.now.members.now c.args.self.now.fresh.now c.args.name _ (sym c.contains-2.ensures ∙ c.if-contains-2.false) c.contains-else-contains-2.ensures)
