use Rattle.std.proofs.Common.{◌<◌, ◌+◌, ◌-◌, ◌/◌, length, arith}
use Rattle.locate_point.proofs.Sorting.{below_half, from_half}
use Rattle.locate_point.proofs.grid.first_at.Goals as goal

pub loop-low-preserved-then-entries-middle : goal.loop-low-preserved-then-entries-middle
loop-low-preserved-then-entries-middle c =
    let middle = c.loop-low.low + (c.loop-low.high - c.loop-low.low) / 2 in
    let inside : middle < length c.args.entries.now = omega (arith, c.loop-low.invariant.bounds, c.loop-low-test.true) in
    record {
      bounds = (omega (arith, c.loop-low-test.true), c.loop-low.invariant.bounds.1);
      below = below_half c.args.entries.now c.requires c.args.number middle c.index-entries-middle.result inside c.if-entries-middle.true;
      from = c.loop-low.invariant.from;
    }

pub loop-low-preserved : goal.loop-low-preserved
loop-low-preserved c =
    let middle = c.loop-low.low + (c.loop-low.high - c.loop-low.low) / 2 in
    let inside : middle < length c.args.entries.now = omega (arith, c.loop-low.invariant.bounds, c.loop-low-test.true) in
    record {
      bounds = (omega arith, omega (arith, inside));
      below = c.loop-low.invariant.below;
      from = from_half c.args.entries.now c.requires c.args.number middle c.index-entries-middle.result inside c.if-entries-middle.false;
    }
