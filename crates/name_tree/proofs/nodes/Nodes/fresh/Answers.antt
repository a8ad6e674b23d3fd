use Rattle.std.proofs.Common.{◌≡◌, ◌/◌, arith, ◌∙◌, subst}
use Rattle.name_tree.specs.Trees.{IsKept}
use Rattle.name_tree.specs.Growth.{IsFree}
use Rattle.name_tree.proofs.MorePairs.{empty_list, kept-wider}
use Rattle.name_tree.proofs.nodes.Nodes.fresh.Goals as goal

both : (c : goal.In_ok-widen) → IsKept c.widen.new.self × IsFree c.widen.new.self c.requires.count
both c =
    let e = c.in_ok-widen.ensures in
    let w = c.requires.whole in
    let none = c.in_default.ensures.cases in
    kept-wider c.args.self.now c.widen.new.self c.requires (omega arith) e.ok e.nodes e.tops (e.spare ∙ empty_list c.pop.new.self.items (omega arith))

pub returns-clause-kept : goal.returns-clause-kept
returns-clause-kept c = (both c).0

pub returns-clause-free : goal.returns-clause-free
returns-clause-free c = let w = c.requires.whole in let same : c.requires.count ≡ c.len-pair.result / 2 = omega arith in subst (IsFree c.widen.new.self) same (both c).1
