use Rattle.std.proofs.Common.{◌≡◌, ℕ, List, ◌∷◌, sym, ap, ◌∙◌, subst}
use Rattle.table_words.specs.Claims.{Claim, Claimed, Failed, Drawn, Living, claim, moved_on}
use Rattle.table_words.specs.Entries.{HasEntry}
use Rattle.table_words.specs.Places.{place_number}
use Rattle.mesh_table.specs.Saw.{Saw, SawFree, SawDraw, SawBirth}
use Rattle.mesh_table.specs.Sights.{Sight}
use Rattle.mesh_table.specs.Told.{sight, claimed}
use Rattle.patch_claims.specs.Claims.{AllLivingBut}
use Rattle.patch_walk.proofs.Learning.{works_more}
use Rattle.patch_claims.proofs.Claims.{claimed_works, same_works, but_claimed, but_moves, even_of}
use Rattle.patch_claims.proofs.Listing.{moved_head, moved_twice}
use Rattle.patch_claims.proofs.bisect.bisect_alone.Goals as goal

pub returns-in-Err-clause-ends : goal.returns-in-Err-clause-ends
returns-in-Err-clause-ends g c =
    let x = place_number c.args.table.now.site.layout c.args.at in
    let u = sight c.args.pass.now in
    let n = c.claim-word.result in
    let e : sight c.claim-word.new.seat ≡ claimed u x 0 n = c.claim-word.ensures.won (even_of n c.if-word-eq1.false) in
    let none = c.in-Err.ensures.none in (
      none.0,
      (n, none.2 ∙ ap (λ (a : Sight). SawFree c.in-Err.free ∷ SawDraw c.in-Err.drawn ∷ a.saw) e),
      λ all. subst (AllLivingBut x) (sym (none.1 ∙ ap (λ (a : Sight). moved_on a.claims x Failed) e)) (but_moves (claim x 0 Claimed ∷ u.claims) x Failed (but_claimed u.claims x 0 Claimed all)),
      λ free. none.1 ∙ ap (λ (q : Sight). moved_on q.claims x Failed) e ∙ moved_head u.claims x 0 Claimed Failed free,
      λ y a d fa fd. c.draw_block.ensures.named y a d (subst (λ (q : Sight). HasEntry q.work.found (y, a)) (sym e) fa) (subst (λ (q : Sight). HasEntry q.work.found (y, d)) (sym e) fd),
    )

pub returns-in-Ok-clause-ends : goal.returns-in-Ok-clause-ends
returns-in-Ok-clause-ends g c =
    let x = place_number c.args.table.now.site.layout c.args.at in
    let u = sight c.args.pass.now in
    let n = c.claim-word.result in
    let b = c.in-Ok.block in
    let e : sight c.claim-word.new.seat ≡ claimed u x 0 n = c.claim-word.ensures.won (even_of n c.if-word-eq1.false) in
    let some = c.in-Ok.ensures.some in
    let end = c.finish_alone.ensures in (
      some.0,
      end.lives,
      end.known,
      (n, some.2.0, some.2.1, end.saw ∙ ap (λ (l : List Saw). SawBirth b ∷ l) (some.2.2 ∙ ap (λ (a : Sight). SawFree some.2.1 ∷ SawDraw some.2.0 ∷ a.saw) e)),
      λ all. end.others (subst (AllLivingBut x) (sym (some.1 ∙ ap (λ (a : Sight). moved_on a.claims x (Drawn b)) e)) (but_moves (claim x 0 Claimed ∷ u.claims) x (Drawn b) (but_claimed u.claims x 0 Claimed all))),
      λ free. end.moved ∙ ap (λ (q : List Claim). moved_on q x (Living b)) (some.1 ∙ ap (λ (q : Sight). moved_on q.claims x (Drawn b)) e) ∙ moved_twice (claim x 0 Claimed ∷ u.claims) x (Drawn b) (Living b) ∙ moved_head u.claims x 0 Claimed (Living b) free,
      λ y a d fa fd. c.draw_block.ensures.named y a d (subst (λ (q : Sight). HasEntry q.work.found (y, a)) (sym e) fa) (subst (λ (q : Sight). HasEntry q.work.found (y, d)) (sym e) fd),
      λ y a d fa low at. end.unfound y a d (subst (λ (q : List (ℕ × ℕ)). HasEntry q (y, a)) (sym (c.draw_block.ensures.same.found ∙ ap (λ (q : Sight). q.work.found) e)) fa) low at,
    )

pub returns-in-Err-clause-works : goal.returns-in-Err-clause-works
returns-in-Err-clause-works g c =
    let x = place_number c.args.table.now.site.layout c.args.at in
    let u = sight c.args.pass.now in
    let n = c.claim-word.result in
    (works_more (claimed_works u (sight c.claim-word.new.seat) x 0 n (c.claim-word.ensures.won (even_of n c.if-word-eq1.false))) (same_works (sight c.claim-word.new.seat) (sight c.draw_block.new.pass) c.draw_block.ensures.same))

pub returns-in-Ok-clause-works : goal.returns-in-Ok-clause-works
returns-in-Ok-clause-works g c =
    let x = place_number c.args.table.now.site.layout c.args.at in
    let u = sight c.args.pass.now in
    let n = c.claim-word.result in
    works_more (works_more (claimed_works u (sight c.claim-word.new.seat) x 0 n (c.claim-word.ensures.won (even_of n c.if-word-eq1.false))) (same_works (sight c.claim-word.new.seat) (sight c.draw_block.new.pass) c.draw_block.ensures.same)) c.finish_alone.ensures.works
