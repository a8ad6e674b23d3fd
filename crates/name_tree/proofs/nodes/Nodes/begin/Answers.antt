use Rattle.std.proofs.Common.{arith, sym, ◌∙◌}
use Rattle.name_tree.specs.Trees.{Root, pairs_of}
use Rattle.name_tree.proofs.Places.{common-leads}
use Rattle.name_tree.proofs.nodes.Nodes.begin.Goals as goal

pub returns-clause-leads : goal.returns-clause-leads
returns-clause-leads c =
    let both = c.in-Some-common_letters.ensures.within in
    common-leads (pairs_of c.args.self.now) c.in-Some.last c.args.name c.in-Some-common_letters.letters c.args.path.now.places both.0 both.1 c.in-Some-common_letters.ensures.same (rw c.in-Some.is at c.requires.path)

pub overflow_mul-path : goal.overflow_mul-path
overflow_mul-path c =
    let low = c.requires.kept.tree.within (Root c.root.result) c.in_ok-pair.pair (sym c.top.ensures ∙ c.in_ok-pair.was) in
    let few = c.requires.kept.small in
    omega arith
