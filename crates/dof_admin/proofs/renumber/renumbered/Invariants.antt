use Rattle.std.proofs.Common.{take}
use Rattle.std.proofs.Common.{◌≡◌}
use Rattle.dof_admin.specs.Administration.{IsRenumbering, used_count}
use Rattle.dof_admin.proofs.renumber.renumbered.Given as goal

abbrev pub invariant-loop-flag : goal.invariant-loop-flag
invariant-loop-flag l = record {
  used : l.used ≡ used_count (take l.flag-index l.flags);
  moved : IsRenumbering (take l.flag-index l.flags) l.moved.items;
}
