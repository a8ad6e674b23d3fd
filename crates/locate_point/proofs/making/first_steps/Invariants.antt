use Rattle.std.proofs.Common.{◌<◌, ◌≤◌}
use Rattle.locate_point.proofs.making.first_steps.Given as goal

abbrev pub invariant-loop-steps : goal.invariant-loop-steps
invariant-loop-steps l = (0 < l.steps) × (l.steps ≤ 1024)

abbrev pub decreases-loop-steps : goal.decreases-loop-steps
decreases-loop-steps l = l.steps
