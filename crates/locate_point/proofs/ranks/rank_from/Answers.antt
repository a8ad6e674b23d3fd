use Rattle.std.proofs.Common.{◌+◌, ◌-◌, ◌/◌, ◌<◌, length, arith, sym, ◌∙◌}
use Rattle.mesh_names.specs.Names.{name_cmp}
use Rattle.locate_point.proofs.Searching.{earlier_half, later_half, not_less_from_not_lt}
use Rattle.locate_point.proofs.ranks.rank_from.Goals as goal

pub loop-low-preserved-then-lt : goal.loop-low-preserved-then-lt
loop-low-preserved-then-lt c =
    let middle = c.loop-low.low + (c.loop-low.high - c.loop-low.low) / 2 in
    let inside : middle < length c.args.names.now = omega (arith, c.loop-low.invariant.order, c.loop-low-test.true) in
    record {
      order = (omega (arith, c.loop-low-test.true), c.loop-low.invariant.order.1);
      before = earlier_half c.args.names.now c.requires.sorted c.args.name middle c.index-names-middle.result inside c.index-names-middle.is (sym c.lt.ensures ∙ c.if-lt.true);
      after = c.loop-low.invariant.after;
    }

pub loop-low-preserved : goal.loop-low-preserved
loop-low-preserved c =
    let middle = c.loop-low.low + (c.loop-low.high - c.loop-low.low) / 2 in
    let inside : middle < length c.args.names.now = omega (arith, c.loop-low.invariant.order, c.loop-low-test.true) in
    let x = c.index-names-middle.result in
    record {
      order = (omega arith, omega (arith, inside));
      before = c.loop-low.invariant.before;
      after = later_half c.args.names.now c.requires.sorted c.args.name middle x inside c.index-names-middle.is (not_less_from_not_lt (name_cmp x c.args.name) (sym c.lt.ensures ∙ c.if-lt.false));
    }
