use Rattle.std.proofs.Common.{◌≡◌, take}
use Rattle.dof_transfer.specs.Exchanges.{all_members}
use Rattle.dof_transfer.proofs.preparing.member_list.Given as goal

abbrev pub invariant-loop-patch : goal.invariant-loop-patch
invariant-loop-patch l = l.names.items ≡ all_members (take l.patch-index l.patches)
