use Rattle.std.proofs.Common.{rules}
use Rattle.std.specs.Prelude.{◌*ℤ◌}
use Rattle.std.specs.Int.{w128}
use Rattle.std.specs.Int.RustNames.{FitsSigned}
use mir.Val.{SFits}
use Rattle.compat_check.proofs.Areas.{rectangle_fits, rectangle_is, way_is}
use Rattle.locate_point.proofs.Signs.{rectangle_small}
use Rattle.locate_point.proofs.triangle.rectangle.Goals as goal

pub overflow_mul-result : goal.overflow_mul-result
overflow_mul-result c =
    let f : FitsSigned w128 (c.span.result *ℤ c.span-2.result) = rectangle_fits c.span.result c.span-2.result c.span.ensures.small c.span-2.ensures.small in
    search (rules, f)

pub returns-clause-value : goal.returns-clause-value
returns-clause-value c =
    let f : FitsSigned w128 (c.span.result *ℤ c.span-2.result) = rectangle_fits c.span.result c.span-2.result c.span.ensures.small c.span-2.ensures.small in
    let a : SFits w128 c.span.result = search rules in
    let b : SFits w128 c.span-2.result = search rules in
    rectangle_is c.span.result c.span-2.result _ _ a b (way_is c.span.result c.args.from.0 c.args.across.0 c.requires.0.0 c.requires.1.0 c.span.ensures.way) (way_is c.span-2.result c.args.from.1 c.args.up.1 c.requires.0.1 c.requires.2.1 c.span-2.ensures.way) f

pub returns-clause-small : goal.returns-clause-small
returns-clause-small c =
    let f : FitsSigned w128 (c.span.result *ℤ c.span-2.result) = rectangle_fits c.span.result c.span-2.result c.span.ensures.small c.span-2.ensures.small in
    let a : SFits w128 c.span.result = search rules in
    let b : SFits w128 c.span-2.result = search rules in
    rectangle_small c.span.result c.span-2.result a b c.span.ensures.small c.span-2.ensures.small f
