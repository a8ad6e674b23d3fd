use Rattle.std.proofs.Common.{◌≡◌, ◌+◌, ◌≤◌, length, map, All}
use Rattle.std.specs.List.{range_with_len}
use Rattle.std.specs.Prelude.{vec_capacity}
use Rattle.mesh_table.specs.Told.{Stays, sight}
use Rattle.table_passes.specs.Crew.{left_by}
use Rattle.table_passes.specs.Tasks.{IsNew}
use Rattle.table_passes.specs.declared.work.Task.{Task}
use Rattle.table_passes.proofs.owner.OwnerSeat.split_drafts.Given as goal

abbrev pub invariant-loop-draft : goal.invariant-loop-draft
invariant-loop-draft l = record {
  stays : Stays l.fn.self.seat l.self.seat;
  left : sight l.self.seat ≡ left_by l.number (sight l.fn.self.seat);
  count : length l.yielded ≡ l.number;
  tasks : length l.tasks.items ≡ l.number;
  room : vec_capacity l.tasks ≡ vec_capacity l.initial.tasks;
  new : All (IsNew l.table.table.shared.table_id l.table.site (sight l.fn.self.seat)) l.tasks.items;
  numbers : map (λ t. t.pass.number) l.tasks.items ≡ map (λ i. i + 1) (range_with_len 0 l.number);
  names : map (λ t. t.names.items) l.tasks.items ≡ map (λ d. d.names.items) l.yielded;
}
