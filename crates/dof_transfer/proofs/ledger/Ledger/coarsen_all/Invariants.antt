use Rattle.std.proofs.Common.{◌≡◌, ◌≤◌, ◌+◌, ◌-◌, drop, length}
use Rattle.std.specs.Prelude.{vec_capacity}
use Rattle.compat_check.specs.Meshes.{shape_of}
use Rattle.dof_transfer.specs.Held.{AreSized, IsSound}
use Rattle.dof_transfer.specs.Exchanges.{all_coarsened, by_level}
use Rattle.dof_transfer.specs.Ledgers.{KeepsReady, held_of}
use Rattle.dof_transfer.proofs.ledger.Ledger.coarsen_all.Given as goal

abbrev pub invariant-loop-at : goal.invariant-loop-at
invariant-loop-at l = record {
  held : all_coarsened (held_of l.self) (by_level (shape_of l.mesh) (drop l.at l.died)) ≡ all_coarsened (held_of l.fn.self) (by_level (shape_of l.mesh) l.died);
  within : l.at ≤ length l.died;
  sound : IsSound (held_of l.self);
  sized : AreSized (held_of l.self);
  kept : KeepsReady l.fn.self l.self;
  spare : l.fn.self.admin.spare ≤ l.self.admin.spare + l.at;
  capacity : vec_capacity l.sums ≡ vec_capacity l.fn.sums;
}

abbrev pub decreases-loop-at : goal.decreases-loop-at
decreases-loop-at l = length l.initial.died - l.at
