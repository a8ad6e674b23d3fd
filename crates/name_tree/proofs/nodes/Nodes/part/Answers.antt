use Rattle.std.proofs.Common.{ap, ◌∙◌, List, ℕ, ◌++◌, ◌∷◌, []}
use Rattle.name_tree.proofs.MorePairs.{parted-given, parted-kept}
use Rattle.name_tree.proofs.nodes.Nodes.part.Goals as goal

pub returns-then-len-capacity-clause-kept : goal.returns-then-len-capacity-clause-kept
returns-then-len-capacity-clause-kept c = parted-given c.args.self.now _ c.args.place c.args.pair c.requires.kept c.requires.named c.requires.below c.requires.blank c.join.ensures.nodes c.join.ensures.tops (c.push_reserved.ensures.items ∙ ap (λ (l : List ℕ). l ++ c.args.pair ∷ []) c.join.ensures.spare)

pub returns-else-len-capacity-clause-kept : goal.returns-else-len-capacity-clause-kept
returns-else-len-capacity-clause-kept c = parted-kept c.args.self.now _ c.args.place c.args.pair c.requires.kept c.requires.named c.requires.below c.requires.blank c.join.ensures.nodes c.join.ensures.tops c.join.ensures.spare
