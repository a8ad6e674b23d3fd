use Rattle.compat_check.proofs.Climbs.{climb_here, climb_on}
use Rattle.compat_check.proofs.climbing.climbed.Goals as goal

pub loop-parent-init : goal.loop-parent-init
loop-parent-init c = climb_here c.args.name

pub loop-parent-preserved : goal.loop-parent-preserved
loop-parent-preserved c = climb_on c.args.name c.loop-parent.at _ _ _ _ c.loop-parent.invariant c.in-Some.ensures c.in-Some-split.ensures c.if-before-last.false
