use Rattle.std.proofs.Common.{◌≡◌, sym, ap, ◌∙◌, refl, List, ℕ, Option, None, length, ◌<◌, subst}
use Rattle.std.specs.Prelude.{slice_index_or}
use Rattle.name_tree.specs.Trees.{Root, pairs_of}
use Rattle.name_tree.proofs.MorePairs.{planted-kept}
use Rattle.name_tree.proofs.nodes.Nodes.plant.Goals as goal

pub returns-clause-kept : goal.returns-clause-kept
returns-clause-kept c =
    let e = c.in_ok-pair.ensures in
    let tops : c.fresh.new.self.tops.items ≡ c.reach.new.self.tops.items = e.tops in
    let low : c.args.root < length c.fresh.new.self.tops.items = subst (λ (l : List (Option ℕ)). c.args.root < length l) (sym tops) c.in_ok-reach.ensures.long in
    let none : pairs_of c.fresh.new.self (Root c.args.root) ≡ None = ap (λ (l : List (Option ℕ)). slice_index_or l c.args.root None) tops ∙ c.in_ok-reach.ensures.tops (Root c.args.root) ∙ c.requires.none in
    planted-kept c.fresh.new.self _ c.args.root c.in_ok-pair.pair e.kept low none e.free refl refl refl
