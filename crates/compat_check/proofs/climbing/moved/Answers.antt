use Rattle.std.proofs.Common.{◌<◌, ◌≤◌, ◌+◌, ◌^◌, ℕ, length, arith, sym, ◌∙◌, subst, refl}
use Rattle.std.proofs.Math.Pow.{pow_mono}
use Rattle.mesh_names.specs.Names.{depth}
use Rattle.compat_check.specs.Climbing.{moved}
use Rattle.compat_check.proofs.Climbs.{moved_by, moved_spelled, moved_small, passed_long}
use Rattle.compat_check.proofs.Words.{bits_below}
use Rattle.compat_check.proofs.climbing.moved.Goals as goal

pub turned_letters-below-requires-clause-bits : goal.turned_letters-below-requires-clause-bits
turned_letters-below-requires-clause-bits c =
    let is = c.passed-letters.ensures c.requires.climbs.passed c.requires.climbs.below in
    subst (λ (p : ℕ × ℕ). p.1 < 2 ^ p.0) (λ i. (sym is.0 i, sym is.1 i)) (bits_below c.requires.climbs.passed)

pub overflow_add-bits : goal.overflow_add-bits
overflow_add-bits c =
    let v = c.requires.climbs.passed in
    let is = c.passed-letters.ensures v c.requires.climbs.below in
    let r = c.requires.low in
    let at = c.passed-letters.ensures c.requires.climbs.passed c.requires.climbs.below in
    let long = passed_long c.args.name c.args.top c.requires.climbs.passed c.requires.climbs.below in
    let l : depth c.args.other + c.passed-letters.result.0 ≤ 24 = omega (arith, at.0) in
    let by = moved_by v c.args.turned c.args.other c.passed-letters.result.0 c.passed-letters.result.1 (depth c.args.other) c.bits.result c.turned_letters-below.result is.0 is.1 refl c.bits.ensures.bits c.turned_letters-below.ensures l in
    let small = bits_below (moved v c.args.turned c.args.other).1 in
    let fit : length (moved v c.args.turned c.args.other).1 ≤ 24 = omega (arith, by.0) in
    let power : 2 ^ length (moved v c.args.turned c.args.other).1 ≤ 2 ^ 24 = pow_mono fit in
    omega (arith, by.1)

pub of_bits-requires : goal.of_bits-requires
of_bits-requires c =
    let v = c.requires.climbs.passed in
    let is = c.passed-letters.ensures v c.requires.climbs.below in
    let r = c.requires.low in
    let at = c.passed-letters.ensures c.requires.climbs.passed c.requires.climbs.below in
    let long = passed_long c.args.name c.args.top c.requires.climbs.passed c.requires.climbs.below in
    let l : depth c.args.other + c.passed-letters.result.0 ≤ 24 = omega (arith, at.0) in
    let by = moved_by v c.args.turned c.args.other c.passed-letters.result.0 c.passed-letters.result.1 c.depth.result c.bits.result c.turned_letters-below.result is.0 is.1 c.depth.ensures.depth c.bits.ensures.bits c.turned_letters-below.ensures l in
    (c.root.ensures.small, omega (arith, c.depth.ensures.depth), moved_small v c.args.turned c.args.other (c.depth.result + c.passed-letters.result.0) _ by.0 by.1)

pub returns : goal.returns
returns c = λ v below.
    let is = c.passed-letters.ensures v below in
    let r = c.requires.low in
    let at = c.passed-letters.ensures c.requires.climbs.passed c.requires.climbs.below in
    let long = passed_long c.args.name c.args.top c.requires.climbs.passed c.requires.climbs.below in
    let l : depth c.args.other + c.passed-letters.result.0 ≤ 24 = omega (arith, at.0) in
    let by = moved_by v c.args.turned c.args.other c.passed-letters.result.0 c.passed-letters.result.1 c.depth.result c.bits.result c.turned_letters-below.result is.0 is.1 c.depth.ensures.depth c.bits.ensures.bits c.turned_letters-below.ensures l in
    c.of_bits.ensures ∙ (λ i. (c.root.ensures.root i, moved_spelled v c.args.turned c.args.other (c.depth.result + c.passed-letters.result.0) _ by.0 by.1 i))
