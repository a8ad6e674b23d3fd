use Rattle.std.proofs.Common.{◌≡◌, ◌+◌, ◌++◌, ◌∷◌, [], List, refl, ◌∙◌, sym, ap, subst, map, length, length-append, All, Some, arith}
use Rattle.std.proofs.lemmas.List.{map-append}
use Rattle.std.proofs.lemmas.List.Elements.{All-pop}
use Rattle.table_words.specs.Claims.{Claim}
use Rattle.mesh_table.specs.Sights.{Sight}
use Rattle.mesh_table.specs.Told.{sight}
use Rattle.table_passes.specs.Crew.{joined_all}
use Rattle.table_passes.specs.Kept.{all_claims}
use Rattle.table_passes.specs.Tasks.{IsWorkers}
use Rattle.table_passes.specs.declared.lists.Lists.{Lists}
use Rattle.table_passes.specs.declared.work.Joined.{Joined}
use Rattle.table_passes.specs.declared.work.Task.{Task}
use Rattle.table_passes.proofs.Crews.{joined_step}
use Rattle.table_passes.proofs.Keeping.{claims_joined, turned}
use Rattle.table_passes.proofs.owner.OwnerSeat.join_tasks.Goals as goal

pub loop-task-preserved : goal.loop-task-preserved
loop-task-preserved c =
    let old = c.loop-task.invariant in
    let id = c.args.table.now.table.shared.table_id in
    let k = c.args.table.now.site in
    let rest = c.loop-task.rest.items in
    let fewer = c.pop.new.self.items in
    let done = c.loop-task.joined.items in
    let more = c.push_reserved.new.self.items in
    let task = c.in-Some.task in
    let grew = c.push_reserved.ensures.items in
    let popped = All-pop (IsWorkers id k) rest fewer (Some task) c.in-Some.ensures.items old.passes in
    record {
      stays = (c.join-lists.ensures.stays.0 ∙ old.stays.0, c.join-lists.ensures.stays.1 ∙ old.stays.1, c.join-lists.ensures.stays.2 ∙ old.stays.2);
      passes = popped.0;
      room = c.push_reserved.ensures.capacity ∙ old.room;
      count = (let a : length more ≡ length done + 1 = ap length grew ∙ length-append done _ in let b : length rest ≡ length fewer + 1 = ap length c.in-Some.ensures.items ∙ length-append fewer (task ∷ []) in let e = old.count in omega arith);
      view = ap (λ (v : Sight). joined_all v (map (λ (t : Task). sight t.pass.seat) fewer)) c.join-lists.ensures.joined
          ∙ joined_step (λ (t : Task). sight t.pass.seat) (sight c.loop-task.self.seat) rest fewer task c.in-Some.ensures.items ∙ old.view;
      names = turned (λ (t : Task). t.names.items) (λ (d : Joined). d.names.items) done more _ rest fewer task _ c.in-Some.ensures.items grew refl old.names;
      answers = turned (λ (t : Task). t.answers.items) (λ (d : Joined). d.answers.items) done more _ rest fewer task _ c.in-Some.ensures.items grew refl old.answers;
      lists = turned (λ (t : Task). t.pass.lists) (λ (d : Joined). d.lists) done more _ rest fewer task _ c.in-Some.ensures.items grew c.join-lists.ensures.lists old.lists;
      claims = ap (λ (v : Sight). v.claims) c.join-lists.ensures.joined
          ∙ claims_joined k (sight c.args.self.now.seat) (sight c.loop-task.self.seat) (sight task.pass.seat) (map (λ (d : Joined). d.lists) done) task.pass.lists popped.1.2 old.claims
          ∙ ap (λ (all : List Lists). (sight c.args.self.now.seat).claims ++ all_claims k.layout all) (sym (ap (map (λ (d : Joined). d.lists)) grew ∙ map-append (λ (d : Joined). d.lists) done _ ∙ ap (λ (a : Lists). map (λ (d : Joined). d.lists) done ++ a ∷ []) c.join-lists.ensures.lists));
    }
