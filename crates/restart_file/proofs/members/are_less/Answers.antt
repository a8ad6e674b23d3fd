use Rattle.std.proofs.Common.{◌-◌, ap, ◌∙◌, arith}
use Rattle.std.specs.Ordering.{is_lt}
use Rattle.restart_file.proofs.Windowing.{tells_less}
use Rattle.restart_file.proofs.members.are_less.Goals as goal

pub returns-else-place-eq0 : goal.returns-else-place-eq0
returns-else-place-eq0 c = tells_less c.args.members.now c.args.place (c.args.place - 1) c.index-members-place.result c.args.name c.is_lt.result c.requires.in_order (omega (arith, c.if-place-eq0.false)) c.requires.inside c.index-members-place.is (c.is_lt.ensures ∙ ap is_lt c.cmp.ensures)
