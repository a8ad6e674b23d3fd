use Rattle.locate_point.proofs.Adding.{line-continues, fewer_left}
use Rattle.locate_point.proofs.points.read_points.Goals as goal

pub loop-left-preserved : goal.loop-left-preserved
loop-left-preserved c = record {
  means = line-continues c.args.bytes.now c.loop-left.points.items c.take_line.new.points.items c.loop-left.line c.loop-left.left c.in-Some.text c.next_line.result.0.now c.next_line.result.1 c.loop-left.invariant.means c.in-Some.is c.next_line.ensures.line c.in_ok-take_line.ensures.ok;
  within = c.in_ok-take_line.ensures.within c.loop-left.invariant.within;
  small = fewer_left c.loop-left.left c.in-Some.text c.next_line.result.1 c.loop-left.line _ c.in-Some.is c.next_line.ensures.shorter c.loop-left.invariant.small;
}
