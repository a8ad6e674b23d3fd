use Rattle.std.proofs.Common.{◌≡◌, ◌+◌, ◌∷◌, [], List, refl, ◌∙◌, sym, ap, subst, map, length, length-append, All, Some, arith}
use Rattle.std.proofs.lemmas.List.Elements.{All-pop, All-push}
use Rattle.mesh_table.specs.Passes.{joined}
use Rattle.mesh_table.specs.Sights.{Sight, setup_at}
use Rattle.mesh_table.specs.Told.{sight}
use Rattle.table_passes.specs.Crew.{joined_all}
use Rattle.table_passes.specs.Late.{AreJoined, CanSplitLate, IsLateWorker}
use Rattle.table_passes.specs.declared.late_work.LateJoined.{LateJoined}
use Rattle.table_passes.specs.declared.late_work.LateTask.{LateTask}
use Rattle.table_passes.proofs.Crews.{joined_step}
use Rattle.table_passes.proofs.Keeping.{turned}
use Rattle.table_passes.proofs.Taking.{all_joined, joined_can, joined_gone, no_claims, retired_joined}
use Rattle.table_passes.proofs.owner.OwnerSeat.join_late.Goals as goal

pub loop-task-preserved : goal.loop-task-preserved
loop-task-preserved c =
    let old = c.loop-task.invariant in
    let id = c.args.table.now.table.shared.table_id in
    let k = c.args.table.now.site in
    let s = setup_at k in
    let v = sight c.loop-task.self.seat in
    let rest = c.loop-task.rest.items in
    let fewer = c.pop.new.self.items in
    let done = c.loop-task.joined.items in
    let more = c.push_reserved.new.self.items in
    let task = c.in-Some.task in
    let w = sight task.pass.seat in
    let grew = c.push_reserved.ensures.items in
    let popped = All-pop (IsLateWorker id k) rest fewer (Some task) c.in-Some.ensures.items old.passes in
    record {
      stays = (c.join.ensures.stays.0 ∙ old.stays.0, c.join.ensures.stays.1 ∙ old.stays.1, c.join.ensures.stays.2 ∙ old.stays.2);
      still = subst (CanSplitLate s) (sym c.join.ensures.joined) (joined_can s v w old.still);
      passes = popped.0;
      room = c.push_reserved.ensures.capacity ∙ old.room;
      count = (let a : length more ≡ length done + 1 = ap length grew ∙ length-append done _ in let b : length rest ≡ length fewer + 1 = ap length c.in-Some.ensures.items ∙ length-append fewer (task ∷ []) in let e = old.count in omega arith);
      view = ap (λ (x : Sight). joined_all x (map (λ (t : LateTask). sight t.pass.seat) fewer)) c.join.ensures.joined
          ∙ joined_step (λ (t : LateTask). sight t.pass.seat) v rest fewer task c.in-Some.ensures.items ∙ old.view;
      claims = ap (λ (x : Sight). x.claims) c.join.ensures.joined ∙ no_claims v w popped.1.claims ∙ old.claims;
      blocks = ap (λ (x : Sight). x.work.retired) c.join.ensures.joined ∙ retired_joined (sight c.args.self.now.seat) v w done more _ grew popped.1.blocks old.blocks;
      gone = subst (λ (x : Sight). All (AreJoined s x) more) (sym c.join.ensures.joined) (subst (All (AreJoined s (joined v w))) (sym grew) (All-push (AreJoined s (joined v w)) done _ (all_joined s v w done old.gone) (joined_gone s v w task.patches.items task.left.items popped.1.gone)));
      patches = turned (λ (t : LateTask). t.patches.items) (λ (d : LateJoined). d.patches.items) done more _ rest fewer task _ c.in-Some.ensures.items grew refl old.patches;
      retired = turned (λ (t : LateTask). t.retired.items) (λ (d : LateJoined). d.retired.items) done more _ rest fewer task _ c.in-Some.ensures.items grew refl old.retired;
      left = turned (λ (t : LateTask). t.left.items) (λ (d : LateJoined). d.left.items) done more _ rest fewer task _ c.in-Some.ensures.items grew refl old.left;
    }
