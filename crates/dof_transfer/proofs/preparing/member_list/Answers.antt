use Rattle.std.proofs.Common.{◌<◌, length, ap, ◌∙◌, sym, arith, List, ◌++◌}
use Rattle.mesh_names.specs.Names.{Name}
use Rattle.dof_transfer.specs.Exchanges.{members_of}
use Rattle.dof_transfer.proofs.MemberLists.{members-next}
use Rattle.dof_transfer.proofs.preparing.member_list.Goals as goal

pub loop-patch-preserved : goal.loop-patch-preserved
loop-patch-preserved c =
    let within : c.loop-patch.patch-index < length c.args.patches.now = omega arith in
    c.in_ok-push_members.ensures ∙ ap (λ (l : List Name). l ++ members_of c.patch-item.result) c.loop-patch.invariant ∙ sym (members-next c.args.patches.now c.loop-patch.patch-index c.patch-item.result within c.patch-item.is)
