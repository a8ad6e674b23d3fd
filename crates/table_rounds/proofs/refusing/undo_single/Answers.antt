use Rattle.std.proofs.Common.{◌≡◌, refl, sym, ap, ◌∙◌, subst, false}
use Rattle.table_words.specs.Places.{place_number, member_of}
use Rattle.table_words.specs.Words.{node_of}
use Rattle.mesh_table.specs.Sights.{Sight}
use Rattle.mesh_table.specs.Rounds.{MayUnlinkFirst, unborn, unlinked_first}
use Rattle.mesh_table.specs.Told.{noted_died, sight}
use Rattle.table_rounds.specs.Refusals.{RolledBackOne}
use Rattle.table_rounds.proofs.Undoing.{single, may_single, rolled_back_single}
use Rattle.table_rounds.proofs.refusing.undo_single.Goals as goal

pub unlink_first-requires-clause-may : goal.unlink_first-requires-clause-may
unlink_first-requires-clause-may c =
    let x = place_number c.args.table.now.site.layout c.args.first in
    let b = c.args.block in
    let e = c.unbear.ensures.view ∙ ap (λ (z : Sight). unborn z x b) c.look_history-old.ensures.view in
    subst (λ (z : Sight). MayUnlinkFirst z x 0 b (node_of c.look_history-old.result)) (sym e) (may_single (sight c.args.owner.now) c.args.round c.requires.taking x b (node_of c.look_history-old.result) c.requires.claim)

pub returns-clause-rolled_back : goal.returns-clause-rolled_back
returns-clause-rolled_back c =
    let x = place_number c.args.table.now.site.layout c.args.first in
    let b = c.args.block in
    let n = node_of c.look_history-old.result in
    let e = c.unbear.ensures.view ∙ ap (λ (z : Sight). unborn z x b) c.look_history-old.ensures.view in
    let f = c.bury.ensures.view ∙ ap (λ (z : Sight). noted_died z b c.args.round) (c.unlink_first.ensures.view ∙ ap (λ (z : Sight). unlinked_first z x 0 b n) e) in
    subst (λ (z : Sight). RolledBackOne (sight c.args.owner.now) z x 0 b c.args.round) (sym f) (rolled_back_single (sight c.args.owner.now) c.args.round c.requires.taking x b n)
