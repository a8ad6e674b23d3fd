use Rattle.std.proofs.Common.{◌≡◌, ◌+◌, ◌++◌, length, map, reverse, All}
use Rattle.std.specs.Prelude.{vec_len, vec_capacity}
use Rattle.mesh_table.specs.Told.{IsOf, Stays, sight}
use Rattle.table_passes.specs.Crew.{joined_all}
use Rattle.table_passes.specs.Kept.{all_claims}
use Rattle.table_passes.specs.Tasks.{IsWorkers}
use Rattle.table_passes.specs.declared.work.Joined.{Joined}
use Rattle.table_passes.specs.declared.work.Task.{Task}
use Rattle.table_passes.proofs.owner.OwnerSeat.join_tasks.Given as goal

abbrev pub invariant-loop-task : goal.invariant-loop-task
invariant-loop-task l = record {
  stays : Stays l.fn.self.seat l.self.seat;
  passes : All (IsWorkers l.table.table.shared.table_id l.table.site) l.rest.items;
  room : vec_capacity l.joined ≡ vec_capacity l.initial.joined;
  count : length l.joined.items + length l.rest.items ≡ length l.fn.tasks.items;
  view : joined_all (sight l.self.seat) (map (λ (t : Task). sight t.pass.seat) l.rest.items) ≡ joined_all (sight l.fn.self.seat) (map (λ (t : Task). sight t.pass.seat) l.fn.tasks.items);
  names : map (λ (d : Joined). d.names.items) l.joined.items ++ reverse (map (λ (t : Task). t.names.items) l.rest.items) ≡ reverse (map (λ (t : Task). t.names.items) l.fn.tasks.items);
  answers : map (λ (d : Joined). d.answers.items) l.joined.items ++ reverse (map (λ (t : Task). t.answers.items) l.rest.items) ≡ reverse (map (λ (t : Task). t.answers.items) l.fn.tasks.items);
  lists : map (λ (d : Joined). d.lists) l.joined.items ++ reverse (map (λ (t : Task). t.pass.lists) l.rest.items) ≡ reverse (map (λ (t : Task). t.pass.lists) l.fn.tasks.items);
  claims : (sight l.self.seat).claims ≡ (sight l.fn.self.seat).claims ++ all_claims l.table.site.layout (map (λ (d : Joined). d.lists) l.joined.items);
}

abbrev pub decreases-loop-task : goal.decreases-loop-task
decreases-loop-task l = vec_len l.rest
