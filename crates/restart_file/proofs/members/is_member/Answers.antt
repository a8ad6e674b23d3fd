use Rattle.restart_file.proofs.Windowing.{is_there, is_absent}
use Rattle.restart_file.proofs.members.is_member.Goals as goal

pub returns-in-Ok : goal.returns-in-Ok
returns-in-Ok c = is_there c.args.members.now c.args.name c.gallop_down-low.result c.gallop_up-high.result c.requires.in_order c.gallop_down-low.ensures.less c.gallop_up-high.ensures.greater c.binary_search.result c.in-Ok.place c.in-Ok.is c.binary_search.ensures.bound c.binary_search.ensures.position

pub returns-in-Err : goal.returns-in-Err
returns-in-Err c = is_absent c.args.members.now c.args.name c.gallop_down-low.result c.gallop_up-high.result c.requires.in_order c.gallop_down-low.ensures.less c.gallop_up-high.ensures.greater c.binary_search.result c.in-Err.place c.in-Err.is c.binary_search.ensures.bound c.binary_search.ensures.position
