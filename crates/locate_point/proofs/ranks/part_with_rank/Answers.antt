use Rattle.std.proofs.Common.{◌+◌, ◌-◌, ◌<◌, length, arith, sym, ◌∙◌}
use Rattle.mesh_names.specs.Names.{name_cmp}
use Rattle.locate_point.proofs.Searching.{earlier_half, later_half, less_from_not_ge, not_less_from_ge}
use Rattle.locate_point.proofs.ranks.part_with_rank.Goals as goal

pub returns-then-ge-clause-high : goal.returns-then-ge-clause-high
returns-then-ge-clause-high c =
    let last = c.loop-step.low + c.loop-step.step - 1 in
    let inside : last < length c.args.names.now = omega (arith, c.loop-step.invariant.within, c.loop-step.invariant.step, c.loop-step-test.true) in
    let x = c.index-names-last.result in
    later_half c.args.names.now c.requires.sorted c.args.name last x inside c.index-names-last.is (not_less_from_ge (name_cmp x c.args.name) (sym c.ge.ensures ∙ c.if-ge.true))

pub loop-step-preserved : goal.loop-step-preserved
loop-step-preserved c =
    let last = c.loop-step.low + c.loop-step.step - 1 in
    let inside : last < length c.args.names.now = omega (arith, c.loop-step.invariant.within, c.loop-step.invariant.step, c.loop-step-test.true) in
    let x = c.index-names-last.result in
    record {
      within = omega (arith, inside);
      before = earlier_half c.args.names.now c.requires.sorted c.args.name last x inside c.index-names-last.is (less_from_not_ge (name_cmp x c.args.name) (sym c.ge.ensures ∙ c.if-ge.false));
      step = omega (arith, c.loop-step.invariant.step, c.saturating_mul-step.ensures);
    }
