use Rattle.std.proofs.Common.{rules, ◌≡◌, ◌+◌, ◌∙◌, ap, sym, subst, refl, length, length-append, List, ◌∷◌, [], ◌++◌, map, All}
use Rattle.std.proofs.lemmas.List.{map-append}
use Rattle.std.proofs.lemmas.List.Elements.{All-push}
use Rattle.compat_check.specs.Meshes.{shape_of}
use Rattle.macro_file.proofs.AssemblyLemmas.{made_more}
use Rattle.mesh_table.specs.Passes.{left_by_split}
use Rattle.mesh_table.specs.Sights.{Sight, setup_at}
use Rattle.mesh_table.specs.Told.{sight}
use Rattle.std.proofs.lemmas.Iterator.Adapters.{YieldsList-from_vec}
use Rattle.std.proofs.lemmas.Iterator.Consumers.{YieldsList-turn}
use Rattle.table_passes.specs.Tasks.{HasRoom, IsNew}
use Rattle.table_passes.specs.declared.lists.Lists.{Lists}
use Rattle.table_passes.specs.declared.owner.Draft.{Draft}
use Rattle.table_passes.specs.declared.work.Task.{Task}
use Rattle.table_passes.proofs.Crews.{left_phase, left_more}
use Rattle.table_passes.proofs.Making.{made_next}
use Rattle.table_passes.proofs.owner.OwnerSeat.split_drafts.Goals as goal

pub split-pass-requires-clause-half : goal.split-pass-requires-clause-half
split-pass-requires-clause-half c = ap (λ (v : Sight). v.ruling.phase) c.loop-draft.invariant.left ∙ left_phase c.loop-draft.number (sight c.args.self.now.seat) ∙ c.requires.half

pub loop-draft-preserved : goal.loop-draft-preserved
loop-draft-preserved c =
    let old = c.loop-draft.invariant in
    let v = sight c.args.self.now.seat in
    let id = c.args.table.now.table.shared.table_id in
    let k = c.args.table.now.site in
    let turn = YieldsList-turn (YieldsList-from_vec {s = c.into_iter-draft-iterator.result} c.args.drafts.items (search rules) (search rules)) c.loop-draft.yielded c.loop-draft.draft-iterator c.loop-draft.yielded_by c.next.result c.next.new.self c.in-Some.draft c.in-Some.is c.next.ensures.steps in
    let room = subst (λ (d : Draft). HasRoom k.layout.pool d.names.items d.lists) (sym turn.1) (c.requires.lists (length c.loop-draft.yielded) c.in-Some.draft turn.0) in
    let grew = c.push_reserved.ensures.items in
    record {
      stays = (c.split-pass.ensures.stays.0 ∙ old.stays.0, c.split-pass.ensures.stays.1 ∙ old.stays.1, c.split-pass.ensures.stays.2 ∙ old.stays.2);
      left = c.split-pass.ensures.left ∙ ap left_by_split old.left ∙ sym (left_more c.loop-draft.number v);
      count = length-append c.loop-draft.yielded (c.in-Some.draft ∷ []) ∙ ap (λ n. n + 1) old.count;
      tasks = ap length grew ∙ length-append c.loop-draft.tasks.items _ ∙ ap (λ n. n + 1) old.tasks;
      room = c.push_reserved.ensures.capacity ∙ old.room;
      new = subst (All (IsNew id k v)) (sym grew) (All-push (IsNew id k v) c.loop-draft.tasks.items _ old.new record {
        fit = c.split-pass.ensures.pass;
        made = made_next v (sight c.loop-draft.self.seat) (sight c.split-pass.result.seat) c.loop-draft.number c.split-pass.result.number old.left c.split-pass.ensures.made c.split-pass.ensures.number;
        empty = c.in-Some.draft.empty;
        kept = c.split-pass.ensures.kept;
        room = subst (λ (a : Lists). HasRoom k.layout.pool c.in-Some.draft.names.items a) (sym c.split-pass.ensures.lists) room;
      });
      numbers = made_more (λ (t : Task). t.pass.number) (λ i. i + 1) c.loop-draft.tasks.items c.push_reserved.new.self.items _ c.loop-draft.number old.numbers grew c.split-pass.ensures.number;
      names = ap (map (λ (t : Task). t.names.items)) grew ∙ map-append (λ (t : Task). t.names.items) c.loop-draft.tasks.items _ ∙ (λ i. old.names i ++ c.in-Some.draft.names.items ∷ []) ∙ sym (map-append (λ (d : Draft). d.names.items) c.loop-draft.yielded (c.in-Some.draft ∷ []));
    }
