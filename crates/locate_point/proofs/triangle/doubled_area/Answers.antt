use Rattle.std.proofs.Common.{rules}
use Rattle.std.specs.Int.{w128}
use mir.Val.{SFits}
use Rattle.locate_point.proofs.Signs.{area_answer}
use Rattle.locate_point.proofs.triangle.doubled_area.Goals as goal

pub returns : goal.returns
returns c =
    let a : SFits w128 c.rectangle.result = search rules in
    let b : SFits w128 c.rectangle-2.result = search rules in
    area_answer c.args.first c.args.second c.args.third c.rectangle.result c.rectangle-2.result a b c.rectangle.ensures.value c.rectangle-2.ensures.value c.rectangle.ensures.small c.rectangle-2.ensures.small
