use Rattle.std.proofs.Common.{sym, ◌∙◌, length, rules, arith}
use Rattle.std.specs.Int.{w32}
use Rattle.std.proofs.lemmas.Int.{to_z-of_z}
use mir.Val.{SFits, to_z, of_z}
use Rattle.compat_check.proofs.Asking.{settled_none, settled_some, stuck}
use Rattle.compat_check.proofs.grading.ask_all.Goals as goal

pub loop-place-preserved-in_default : goal.loop-place-preserved-in_default
loop-place-preserved-in_default c = settled_none c.args.count c.args.sides.now c.loop-place.place c.loop-place.parts c.in_default.is c.loop-place.invariant

pub loop-place-preserved : goal.loop-place-preserved
loop-place-preserved c =
    let fits : SFits w32 c.rise.result = search rules in
    settled_some c.args.count (length c.loop-place.parts.parents.items) c.args.sides.now c.loop-place.place c.in-Some.side (to_z w32 (of_z w32 c.rise.result)) c.loop-place.parts c.ask.new.self
    (sym c.loop-place.invariant.1.1.each) c.in-Some.is (to_z-of_z w32 c.rise.result fits ∙ c.rise.ensures.rise) c.loop-place.invariant c.if-not-ask.ensures

pub returns-then-not-ask : goal.returns-then-not-ask
returns-then-not-ask c =
    let fits : SFits w32 c.rise.result = search rules in
    let settled = c.loop-place.invariant in
    let place = c.loop-place.place in
    let same = sym settled.1.1.each in
    stuck c.args.sides.now place c.in-Some.side (omega arith) c.in-Some.is c.args.count (length c.loop-place.parts.parents.items) c.loop-place.parts (to_z w32 (of_z w32 c.rise.result)) same (to_z-of_z w32 c.rise.result fits ∙ c.rise.ensures.rise) settled c.if-not-ask.ensures
