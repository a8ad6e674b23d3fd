use Rattle.std.proofs.Common.{ℕ, List, refl, sym, ap, ◌∙◌, subst, inl, ⊎_elim}
use Rattle.table_words.specs.Claims.{Claim, Drawn, Whole, Living, moved_on}
use Rattle.table_words.specs.Entries.{HasEntry}
use Rattle.table_words.specs.Places.{place_number}
use Rattle.table_state.proofs.HeldClaims.{moved_on_here}
use Rattle.mesh_table.specs.Told.{sight}
use Rattle.patch_claims.specs.Claims.{AllLivingBut}
use Rattle.patch_claims.proofs.Claims.{but_moves, all_lives}
use Rattle.patch_claims.proofs.Listing.{moved_twice}
use Rattle.patch_claims.proofs.bisect.finish_alone.Goals as goal

pub publish-requires-clause-may : goal.publish-requires-clause-may
publish-requires-clause-may c =
    let x = place_number c.args.table.now.site.layout c.args.at in
    let may = c.fill_alone.ensures.may in
    rw c.link_first.ensures.view (record {
      works = may.works;
      whole = moved_on_here (sight c.fill_alone.new.pass).claims x 0 (Whole c.args.block) (Drawn c.args.block) may.drew;
      named = λ k e. ⊎_elim (λ d. (x, inl refl, subst (λ (a : ℕ). HasEntry (sight c.fill_alone.new.pass).work.found (x, a)) (sym d) may.found)) (λ d. absurd d) e;
    })

pub returns-clause-lives : goal.returns-clause-lives
returns-clause-lives c =
    let x = place_number c.args.table.now.site.layout c.args.at in
    let b = c.args.block in
    let may = c.fill_alone.ensures.may in
    rw (c.publish.ensures.view, c.link_first.ensures.view) (moved_on_here _ x 0 (Living b) (Whole b) (moved_on_here (sight c.fill_alone.new.pass).claims x 0 (Whole b) (Drawn b) may.drew))

pub returns-clause-others : goal.returns-clause-others
returns-clause-others c but =
    let x = place_number c.args.table.now.site.layout c.args.at in
    let b = c.args.block in
    rw (c.publish.ensures.view, c.link_first.ensures.view) (all_lives _ x b (but_moves _ x (Whole b) (subst (AllLivingBut x) (sym c.fill_alone.ensures.same.claims) but)))

pub returns-clause-moved : goal.returns-clause-moved
returns-clause-moved c =
    let x = place_number c.args.table.now.site.layout c.args.at in
    let b = c.args.block in
    rw (c.publish.ensures.view, c.link_first.ensures.view) (moved_twice (sight c.fill_alone.new.pass).claims x (Whole b) (Living b) ∙ ap (λ (cs : List Claim). moved_on cs x (Living b)) c.fill_alone.ensures.same.claims)
