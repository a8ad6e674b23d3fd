use Rattle.std.proofs.Common.{◌≡◌, ◌+◌, refl, sym, ap, ◌∙◌, subst, true, false}
use Rattle.table_words.specs.Places.{place_number, member_of}
use Rattle.table_words.specs.Words.{node_of}
use Rattle.mesh_table.specs.Sights.{Sight}
use Rattle.mesh_table.specs.Rounds.{MayUnbear, MayUnlinkFirst, MayUnlinkSecond, unborn, unlinked_first, unlinked_second}
use Rattle.mesh_table.specs.Told.{noted_died, noted_history, sight}
use Rattle.table_rounds.specs.Refusals.{RolledBackOne}
use Rattle.table_rounds.proofs.Undoing.{may_second, may_pair, rolled_back_pair}
use Rattle.table_rounds.proofs.refusing.undo_pair.Goals as goal

pub unbear-requires-clause-may : goal.unbear-requires-clause-may
unbear-requires-clause-may c =
    let x = place_number c.args.table.now.site.layout c.args.first in
    let y = place_number c.args.table.now.site.layout c.args.second in
    let b = c.args.block in
    let n = node_of c.look_history-old.result in
    let m = node_of c.look_history-older.result in
    let e = c.look_history-older.ensures.view ∙ ap (λ (z : Sight). noted_history z (member_of b true) m) c.look_history-old.ensures.view in
    subst (λ (z : Sight). MayUnbear z x b) (sym e) record { rules = c.requires.taking.rules; back = c.requires.taking.back; mate = y + 1; claim_is = c.requires.claim }

pub unlink_second-requires-clause-may : goal.unlink_second-requires-clause-may
unlink_second-requires-clause-may c =
    let x = place_number c.args.table.now.site.layout c.args.first in
    let y = place_number c.args.table.now.site.layout c.args.second in
    let b = c.args.block in
    let n = node_of c.look_history-old.result in
    let m = node_of c.look_history-older.result in
    let e = c.unbear.ensures.view ∙ ap (λ (z : Sight). unborn z x b) (c.look_history-older.ensures.view ∙ ap (λ (z : Sight). noted_history z (member_of b true) m) c.look_history-old.ensures.view) in
    subst (λ (z : Sight). MayUnlinkSecond z x y b m) (sym e) (may_second (sight c.args.owner.now) c.args.round c.requires.taking x b n y m c.requires.claim)

pub unlink_first-requires-clause-may : goal.unlink_first-requires-clause-may
unlink_first-requires-clause-may c =
    let x = place_number c.args.table.now.site.layout c.args.first in
    let y = place_number c.args.table.now.site.layout c.args.second in
    let b = c.args.block in
    let n = node_of c.look_history-old.result in
    let m = node_of c.look_history-older.result in
    let e = c.unbear.ensures.view ∙ ap (λ (z : Sight). unborn z x b) (c.look_history-older.ensures.view ∙ ap (λ (z : Sight). noted_history z (member_of b true) m) c.look_history-old.ensures.view) in
    let f = c.unlink_second.ensures.view ∙ ap (λ (z : Sight). unlinked_second z x y b m) e in
    subst (λ (z : Sight). MayUnlinkFirst z x (y + 1) b n) (sym f) (may_pair (sight c.args.owner.now) c.args.round c.requires.taking x b n y m c.requires.claim)

pub returns-clause-rolled_back : goal.returns-clause-rolled_back
returns-clause-rolled_back c =
    let x = place_number c.args.table.now.site.layout c.args.first in
    let y = place_number c.args.table.now.site.layout c.args.second in
    let b = c.args.block in
    let n = node_of c.look_history-old.result in
    let m = node_of c.look_history-older.result in
    let e = c.unbear.ensures.view ∙ ap (λ (z : Sight). unborn z x b) (c.look_history-older.ensures.view ∙ ap (λ (z : Sight). noted_history z (member_of b true) m) c.look_history-old.ensures.view) in
    let f = c.unlink_second.ensures.view ∙ ap (λ (z : Sight). unlinked_second z x y b m) e in
    let h = c.bury.ensures.view ∙ ap (λ (z : Sight). noted_died z b c.args.round) (c.unlink_first.ensures.view ∙ ap (λ (z : Sight). unlinked_first z x (y + 1) b n) f) in
    subst (λ (z : Sight). RolledBackOne (sight c.args.owner.now) z x (y + 1) b c.args.round) (sym h) (rolled_back_pair (sight c.args.owner.now) c.args.round c.requires.taking x b n y m)
