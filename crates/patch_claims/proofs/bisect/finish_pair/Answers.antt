use Rattle.std.proofs.Common.{ℕ, ◌+◌, List, true, refl, sym, ap, ◌∙◌, subst, inl, inr, ⊎_elim}
use Rattle.table_words.specs.Claims.{Claim, Drawn, Half, Whole, Living, moved_on}
use Rattle.table_words.specs.Entries.{HasEntry}
use Rattle.table_words.specs.NameWords.{name_code}
use Rattle.table_words.specs.Places.{place_number}
use Rattle.table_words.specs.Views.{Work}
use Rattle.table_state.proofs.HeldClaims.{moved_on_here}
use Rattle.mesh_table.specs.Told.{sight}
use Rattle.patch_claims.specs.Claims.{AllLivingBut}
use Rattle.patch_claims.proofs.Claims.{but_moves, all_lives, linked_half}
use Rattle.patch_claims.proofs.Listing.{moved_twice}
use Rattle.patch_claims.proofs.bisect.finish_pair.Goals as goal

pub link_second-requires-clause-may : goal.link_second-requires-clause-may
link_second-requires-clause-may c =
    let x = place_number c.args.table.now.site.layout c.args.at in
    let y = place_number c.args.table.now.site.layout c.args.other in
    let may = c.fill_pair.ensures.may in
    rw (linked_half _ _ (place_number c.args.table.now.site.layout c.args.at) (place_number c.args.table.now.site.layout c.args.other) c.args.block c.link_first.ensures.view) (record {
      works = may.works;
      half = moved_on_here (sight c.fill_pair.new.pass).claims x (y + 1) (Half c.args.block) (Drawn c.args.block) may.drew;
      old = may.olds true y refl;
    })

pub publish-requires-clause-may : goal.publish-requires-clause-may
publish-requires-clause-may c =
    let x = place_number c.args.table.now.site.layout c.args.at in
    let y = place_number c.args.table.now.site.layout c.args.other in
    let b = c.args.block in
    let may = c.fill_pair.ensures.may in
    rw (c.link_second.ensures.view, (linked_half _ _ (place_number c.args.table.now.site.layout c.args.at) (place_number c.args.table.now.site.layout c.args.other) c.args.block c.link_first.ensures.view)) (record {
      works = may.works;
      whole = moved_on_here _ x (y + 1) (Whole b) (Half b) (moved_on_here (sight c.fill_pair.new.pass).claims x (y + 1) (Half b) (Drawn b) may.drew);
      named = λ k e. ⊎_elim (λ d. (x, inl refl, subst (λ (a : ℕ). HasEntry (sight c.fill_pair.new.pass).work.found (x, a)) (sym d) may.found))
          (λ t. ⊎_elim (λ d. (y, inr refl, subst (λ (a : ℕ). HasEntry (sight c.fill_pair.new.pass).work.found (y, a)) (sym d) (subst (λ (a : Work). HasEntry a.found (y, name_code c.args.partner)) (sym c.fill_pair.ensures.same.work) c.requires.mate))) (λ d. absurd d) t) e;
    })

pub returns-clause-lives : goal.returns-clause-lives
returns-clause-lives c =
    let x = place_number c.args.table.now.site.layout c.args.at in
    let y = place_number c.args.table.now.site.layout c.args.other in
    let b = c.args.block in
    let may = c.fill_pair.ensures.may in
    rw (c.publish.ensures.view, c.link_second.ensures.view, (linked_half _ _ (place_number c.args.table.now.site.layout c.args.at) (place_number c.args.table.now.site.layout c.args.other) c.args.block c.link_first.ensures.view)) (moved_on_here _ x (y + 1) (Living b) (Whole b) (moved_on_here _ x (y + 1) (Whole b) (Half b) (moved_on_here (sight c.fill_pair.new.pass).claims x (y + 1) (Half b) (Drawn b) may.drew)))

pub returns-clause-others : goal.returns-clause-others
returns-clause-others c but =
    let x = place_number c.args.table.now.site.layout c.args.at in
    let b = c.args.block in
    rw (c.publish.ensures.view, c.link_second.ensures.view, (linked_half _ _ (place_number c.args.table.now.site.layout c.args.at) (place_number c.args.table.now.site.layout c.args.other) c.args.block c.link_first.ensures.view)) (all_lives _ x b (but_moves _ x (Whole b) (but_moves _ x (Half b) (subst (AllLivingBut x) (sym c.fill_pair.ensures.same.claims) but))))

pub returns-clause-moved : goal.returns-clause-moved
returns-clause-moved c =
    let x = place_number c.args.table.now.site.layout c.args.at in
    let b = c.args.block in
    let cs = (sight c.fill_pair.new.pass).claims in
    rw (c.publish.ensures.view, c.link_second.ensures.view, (linked_half _ _ (place_number c.args.table.now.site.layout c.args.at) (place_number c.args.table.now.site.layout c.args.other) c.args.block c.link_first.ensures.view))
    (moved_twice (moved_on cs x (Half b)) x (Whole b) (Living b) ∙ moved_twice cs x (Half b) (Living b) ∙ ap (λ (ds : List Claim). moved_on ds x (Living b)) c.fill_pair.ensures.same.claims)
