use Rattle.std.proofs.Common.{Bool, cond, ap, ◌∙◌}
use Rattle.std.specs.FinSet.{insert}
use Rattle.forest_plain.specs.Rounds.{set_of}
use Rattle.forest_plain.proofs.LeafSets.{pushed-insert}
use Rattle.forest_plain.proofs.leaves.add_leaf.Goals as goal

pub returns-in_ok-push-clause-found : goal.returns-in_ok-push-clause-found
returns-in_ok-push-clause-found g c =
    let old = c.args.found.now.items in
    ap set_of c.in_ok-push.ensures.items
    ∙ pushed-insert old c.args.name
    ∙ ap (λ (b : Bool). cond b (set_of old) (insert (set_of old) c.args.name)) c.if-not-has.ensures.found
