use Rattle.std.proofs.Common.{◌≡◌, cond, refl, ap, subst, ◌∙◌}
use Rattle.std.specs.FinSet.{contains, insert}
use Rattle.mesh_names.specs.Forests.{Names}
use Rattle.forest_plain.specs.Rounds.{set_of}
use Rattle.forest_plain.proofs.LeafSets.{nothing_found, top-push}
use Rattle.forest_plain.proofs.leaves.add_tops.Goals as goal

pub loop-root-init : goal.loop-root-init
loop-root-init g c = record { unsplit = ap set_of c.requires ∙ nothing_found (g.S.Asked.names c.args.members.now); same = refl }

pub loop-root-preserved : goal.loop-root-preserved
loop-root-preserved g c =
    let old = set_of c.loop-root.found.items in
    let same = c.loop-root.invariant.same in
    let told = subst (λ (s : Names). set_of c.add_leaf.new.found.items ≡ cond (contains s c.top.result) old (insert old c.top.result)) same c.in_ok-add_leaf.ensures.found in
    record {
      unsplit = top-push c.loop-root.root (g.S.Asked.names c.args.members.now) old (set_of c.add_leaf.new.found.items) c.top.result c.loop-root.invariant.unsplit c.top.ensures told;
      same = c.in_ok-add_leaf.ensures.same ∙ same;
    }
