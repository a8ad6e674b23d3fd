use Rattle.std.proofs.Common.{◌≡◌, cond, refl, subst, ◌∙◌}
use Rattle.std.specs.FinSet.{contains, insert}
use Rattle.mesh_names.specs.Forests.{Names}
use Rattle.forest_plain.specs.Rounds.{set_of}
use Rattle.forest_plain.proofs.LeafSets.{pair-push}
use Rattle.forest_plain.proofs.leaves.add_children.Goals as goal

pub loop-name-preserved : goal.loop-name-preserved
loop-name-preserved g c =
    let same = c.loop-name.invariant.same in
    let after = c.in_ok-add_leaf.ensures.same ∙ same in
    let old = set_of c.loop-name.found.items in
    let mid = set_of c.add_leaf.new.found.items in
    let first = subst (λ (s : Names). mid ≡ cond (contains s c.child_at.result) old (insert old c.child_at.result)) same c.in_ok-add_leaf.ensures.found in
    let second = subst (λ (s : Names). set_of c.add_leaf-in-loop-name.new.found.items ≡ cond (contains s c.child_at-in-loop-name.result) mid (insert mid c.child_at-in-loop-name.result)) after c.in_ok-add_leaf-2.ensures.found in
    record {
      unsplit = λ all h. pair-push all c.args.names.now c.loop-name.name-index c.name-item.result _ _ _ (g.S.Asked.names c.args.members.now) old mid (set_of c.add_leaf-in-loop-name.new.found.items)
          c.loop-name-test.true c.name-item.is (c.loop-name.invariant.unsplit all h) c.child_at.ensures c.child_at-in-loop-name.ensures first second;
      same = c.in_ok-add_leaf-2.ensures.same ∙ after;
    }
