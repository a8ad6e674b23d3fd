use Rattle.std.proofs.Common.{rules}
use Rattle.std.specs.Prelude.{◌*ℤ◌}
use Rattle.std.specs.Int.{w128}
use Rattle.std.specs.Int.RustNames.{FitsSigned}
use mir.Val.{SFits}
use Rattle.compat_check.proofs.Areas.{rectangle_fits, rectangle_is, way_is}
use Rattle.compat_check.proofs.triples.rectangle.Goals as goal

pub overflow_mul-result : goal.overflow_mul-result
overflow_mul-result c =
    let f : FitsSigned w128 (c.span.result *ℤ c.span-2.result) = rectangle_fits c.span.result c.span-2.result c.span.ensures.small c.span-2.ensures.small in
    search (rules, f)

pub returns : goal.returns
returns c =
    let f : FitsSigned w128 (c.span.result *ℤ c.span-2.result) = rectangle_fits c.span.result c.span-2.result c.span.ensures.small c.span-2.ensures.small in
    let a : SFits w128 c.span.result = search rules in
    let b : SFits w128 c.span-2.result = search rules in
    rectangle_is c.span.result c.span-2.result _ _ a b (way_is c.span.result c.args.from.now.x c.args.across.now.x c.args.from.now.in_range.0 c.args.across.now.in_range.0 c.span.ensures.way) (way_is c.span-2.result c.args.from.now.y c.args.up.now.y c.args.from.now.in_range.1 c.args.up.now.in_range.1 c.span-2.ensures.way) f
