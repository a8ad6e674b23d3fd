use Rattle.std.proofs.Common.{◌≡◌, List, [], ◌∷◌, inl, inr, sym, ap, ◌∙◌, subst}
use Rattle.table_words.specs.Entries.{HasEntry}
use Rattle.table_words.specs.NameWords.{name_code}
use Rattle.table_words.specs.Views.{Plan}
use Rattle.mesh_table.specs.Saw.{Saw, SawDied, SawEnd, SawHad}
use Rattle.mesh_table.specs.Sights.{Sight}
use Rattle.mesh_table.specs.SecondHalf.{MayOpen}
use Rattle.mesh_table.specs.Told.{sight}
use Rattle.table_words.specs.Places.{place_number}
use Rattle.patch_claims.proofs.Leaving.{old_on}
use Rattle.patch_claims.proofs.retire.open_at.Goals as goal

pub visit_finished-requires-clause-may : goal.visit_finished-requires-clause-may
visit_finished-requires-clause-may c = (c.requires.works.0, inr (inl c.requires.stood))

pub look_leaf-requires-clause-may : goal.look_leaf-requires-clause-may
look_leaf-requires-clause-may c =
    let keeps = c.visit_finished.ensures.keeps in
    let u = sight c.args.pass.now in
    let v = sight c.visit_finished.new.pass in
    let k = name_code c.args.name in
    subst (λ (a : Sight). MayOpen a (place_number c.args.table.now.site.layout c.args.at) k) (sym c.look_told.ensures.same) (record {
      works = (keeps.kind ∙ c.requires.works.0, keeps.half ∙ c.requires.works.1);
      stood = keeps.stood _ c.requires.stood;
      outside = λ h. c.look_told.ensures.present k (old_on u v keeps k (c.requires.old (subst (λ (p : Plan). HasEntry p.target k) keeps.plan h))) c.in-None.ensures.none;
    })

pub returns-in-None-clause-saw : goal.returns-in-None-clause-saw
returns-in-None-clause-saw c = (SawEnd (name_code c.args.name) ∷ [], ap (λ (a : Sight). a.saw) c.look_leaf.ensures.view ∙ ap (λ (a : Sight). a.saw) c.look_told.ensures.same ∙ c.in-None.ensures.saw)

pub returns-in-None-clause-open_ : goal.returns-in-None-clause-open_
returns-in-None-clause-open_ c = rw (c.look_leaf.ensures.view) (inl (λ i. name_code c.args.name))

pub returns-then-word-eq0-clause-saw : goal.returns-then-word-eq0-clause-saw
returns-then-word-eq0-clause-saw c = (SawDied c.in-Some.block c.look_word-word.result ∷ SawHad (name_code c.args.name) ∷ [], c.look_word-word.ensures.saw ∙ ap (λ (l : List Saw). SawDied c.in-Some.block c.look_word-word.result ∷ l) c.in-Some.ensures.saw)

pub returns-then-word-eq0-clause-deeper : goal.returns-then-word-eq0-clause-deeper
returns-then-word-eq0-clause-deeper c =
    let b = c.in-Some.block in
    let k = name_code c.args.name in
    let keeps = c.visit_finished.ensures.keeps in (
      c.look_word-word.ensures.keeps.had _ c.in-Some.ensures.some.1.0,
      ([], c.look_word-word.ensures.saw ∙ (λ i. SawDied b (c.if-word-eq0.true i) ∷ c.in-Some.ensures.saw i)),
      subst (λ (p : Plan). HasEntry p.target k) keeps.plan c.look_word-word.ensures.target,
      (λ gone. c.look_word-word.ensures.undead c.if-word-eq0.true (keeps.open_ k gone)),
    )

pub returns-else-word-eq0-clause-saw : goal.returns-else-word-eq0-clause-saw
returns-else-word-eq0-clause-saw c = (SawDied c.in-Some.block c.look_word-word.result ∷ SawHad (name_code c.args.name) ∷ [], c.look_word-word.ensures.saw ∙ ap (λ (l : List Saw). SawDied c.in-Some.block c.look_word-word.result ∷ l) c.in-Some.ensures.saw)
