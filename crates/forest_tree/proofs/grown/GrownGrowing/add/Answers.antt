use Rattle.std.proofs.Common.{◌≡◌, false, sym, ap, subst, ◌∙◌}
use Rattle.std.specs.FinSet.{contains, insert, union}
use Rattle.mesh_names.specs.Forests.{Names}
use Rattle.forest_tree.specs.Apart.{IsApart}
use Rattle.forest_tree.proofs.Beside.{added-known, apart-tried, is-known, is-new}
use Rattle.forest_tree.proofs.HeldSets.{union-insert}
use Rattle.forest_tree.proofs.grown.GrownGrowing.add.Goals as goal

pub invariant_of-self : goal.invariant_of-self
invariant_of-self c = record { apart = subst (λ (s : Names). IsApart s c.args.self.now.fresh) (sym c.contains.ensures.same) c.args.self.now.apart }

pub returns-then-contains-clause-added : goal.returns-then-contains-clause-added
returns-then-contains-clause-added c = is-known c.args.self.now.members c.args.self.now.fresh c.args.name (sym c.contains.ensures.found ∙ c.if-contains.true)

pub returns-then-contains-clause-held : goal.returns-then-contains-clause-held
returns-then-contains-clause-held c =
    ap (λ (s : Names). union s c.args.self.now.fresh) c.contains.ensures.same
    ∙ added-known c.args.self.now.members c.args.self.now.fresh c.args.name (sym c.contains.ensures.found ∙ c.if-contains.true)

pub invariant_of-self-2 : goal.invariant_of-self-2
invariant_of-self-2 c = record {
  apart = subst (λ (s : Names). IsApart s c.insert.new.self) (sym c.contains.ensures.same) (apart-tried c.args.self.now.members c.args.self.now.fresh c.insert.new.self c.args.name c.insert.result (sym c.contains.ensures.found ∙ c.if-contains.false) c.args.self.now.apart c.insert.ensures.held c.insert.ensures.err);
}

pub returns-clause-added : goal.returns-clause-added
returns-clause-added c = is-new c.args.self.now.members c.args.self.now.fresh c.args.name _ (sym c.contains.ensures.found ∙ c.if-contains.false) c.in_ok-added.ensures.added

pub returns-clause-held : goal.returns-clause-held
returns-clause-held c =
    ap (λ (s : Names). union s c.insert.new.self) c.contains.ensures.same
    ∙ ap (union c.args.self.now.members) c.in_ok-added.ensures.held
    ∙ sym (union-insert c.args.self.now.members c.args.self.now.fresh c.args.name)
