use Rattle.std.proofs.Common.{◌≡◌, ◌+◌, ◌++◌, length, map, reverse, All}
use Rattle.std.specs.Prelude.{vec_len, vec_capacity}
use Rattle.mesh_table.specs.Sights.{setup_at}
use Rattle.mesh_table.specs.Told.{Stays, sight}
use Rattle.table_passes.specs.Crew.{joined_all}
use Rattle.table_passes.specs.Late.{AreJoined, CanSplitLate, IsLateWorker, all_retired}
use Rattle.table_passes.specs.declared.late_work.LateJoined.{LateJoined}
use Rattle.table_passes.specs.declared.late_work.LateTask.{LateTask}
use Rattle.table_passes.proofs.owner.OwnerSeat.join_late.Given as goal

abbrev pub invariant-loop-task : goal.invariant-loop-task
invariant-loop-task l = record {
  stays : Stays l.fn.self.seat l.self.seat;
  still : CanSplitLate (setup_at l.table.site) (sight l.self.seat);
  passes : All (IsLateWorker l.table.table.shared.table_id l.table.site) l.rest.items;
  room : vec_capacity l.joined ≡ vec_capacity l.initial.joined;
  count : length l.joined.items + length l.rest.items ≡ length l.fn.tasks.items;
  view : joined_all (sight l.self.seat) (map (λ (t : LateTask). sight t.pass.seat) l.rest.items) ≡ joined_all (sight l.fn.self.seat) (map (λ (t : LateTask). sight t.pass.seat) l.fn.tasks.items);
  claims : (sight l.self.seat).claims ≡ (sight l.fn.self.seat).claims;
  blocks : (sight l.self.seat).work.retired ≡ (sight l.fn.self.seat).work.retired ++ all_retired (map (λ (d : LateJoined). d.retired.items) l.joined.items);
  gone : All (AreJoined (setup_at l.table.site) (sight l.self.seat)) l.joined.items;
  patches : map (λ (d : LateJoined). d.patches.items) l.joined.items ++ reverse (map (λ (t : LateTask). t.patches.items) l.rest.items) ≡ reverse (map (λ (t : LateTask). t.patches.items) l.fn.tasks.items);
  retired : map (λ (d : LateJoined). d.retired.items) l.joined.items ++ reverse (map (λ (t : LateTask). t.retired.items) l.rest.items) ≡ reverse (map (λ (t : LateTask). t.retired.items) l.fn.tasks.items);
  left : map (λ (d : LateJoined). d.left.items) l.joined.items ++ reverse (map (λ (t : LateTask). t.left.items) l.rest.items) ≡ reverse (map (λ (t : LateTask). t.left.items) l.fn.tasks.items);
}

abbrev pub decreases-loop-task : goal.decreases-loop-task
decreases-loop-task l = vec_len l.rest
