use Rattle.std.proofs.Common.{ap, ◌∙◌, arith}
use Rattle.std.specs.Ordering.{is_gt}
use Rattle.restart_file.proofs.Windowing.{tells_greater}
use Rattle.restart_file.proofs.members.are_greater.Goals as goal

pub returns-else-place-members : goal.returns-else-place-members
returns-else-place-members c = tells_greater c.args.members.now c.args.place c.index-members-place.result c.args.name c.is_gt.result c.requires.in_order (omega (arith, c.if-place-members.false, c.requires.inside)) c.index-members-place.is (c.is_gt.ensures ∙ ap is_gt c.cmp.ensures)
