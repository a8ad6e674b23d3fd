use Rattle.std.proofs.Common.{◌∙◌, sym, Some, true, false}
use Rattle.mesh_io.proofs.Measures.{fine_is}
use Rattle.mesh_io.proofs.decimal.read_decimal.Goals as goal

pub returns-then-below : goal.returns-then-below
returns-then-below c =
    let s = c.sign-minus in let m = c.mantissa_of-number in let size = c.in-Some.size in
    fine_is c.args.token.now s.result.1.now m.result.rest.now s.result.0 true m.result.count m.result.places size c.in_units.result s.ensures.minus s.ensures.rest m.ensures.count m.ensures.places m.ensures.rest c.if-number-eq0.false
    ((λ i. Some (sym c.if-below.true i, size)) ∙ c.in-Some.ensures.value) (c.in_units.ensures _ m.ensures.heads)

pub returns-else-below : goal.returns-else-below
returns-else-below c =
    let s = c.sign-minus in let m = c.mantissa_of-number in let size = c.in-Some.size in
    fine_is c.args.token.now s.result.1.now m.result.rest.now s.result.0 false m.result.count m.result.places size c.in_units-else-below.result s.ensures.minus s.ensures.rest m.ensures.count m.ensures.places m.ensures.rest c.if-number-eq0.false
    ((λ i. Some (sym c.if-below.false i, size)) ∙ c.in-Some.ensures.value) (c.in_units-else-below.ensures _ m.ensures.heads)
