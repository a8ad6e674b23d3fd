use Rattle.std.proofs.Common.{◌≡◌, ◌∙◌, ◌++◌, ◌∷◌, [], ap, sym, subst, map, List, All}
use Rattle.std.proofs.lemmas.List.{map-append}
use Rattle.std.proofs.lemmas.List.Elements.{All-push}
use Rattle.table_passes.specs.Tasks.{HasRoom}
use Rattle.table_passes.specs.declared.owner.Draft.{Draft}
use Rattle.table_passes.proofs.owner.drafts.Goals as goal

pub loop-names-preserved : goal.loop-names-preserved
loop-names-preserved c =
    let old = c.loop-names.invariant in
    let grew = c.in_ok-push.ensures.items in
    let d = c.in_ok-draft_of.field-0 in
    record {
      names = ap (map (λ (e : Draft). e.names.items)) grew ∙ map-append (λ (e : Draft). e.names.items) c.loop-names.drafts.items (d ∷ []) ∙ (λ i. old.names i ++ c.in_ok-draft_of.ensures.names i ∷ [])
          ∙ sym (map-append (λ w. w.items) c.loop-names.yielded (c.in-Some.names ∷ []));
      room = subst (All (λ (e : Draft). HasRoom c.args.pool e.names.items e.lists)) (sym grew)
          (All-push (λ (e : Draft). HasRoom c.args.pool e.names.items e.lists) c.loop-names.drafts.items d old.room c.in_ok-draft_of.ensures.room);
    }
