use Rattle.std.proofs.Common.{arith, length, ◌≡◌, subst}
use Rattle.compat_check.specs.Paired.{AreSides}
use Rattle.compat_check.proofs.Pairings.{sides_skip, sides_more}
use Rattle.compat_check.proofs.edges.sides.Goals as goal

pub loop-place-preserved-in_default : goal.loop-place-preserved-in_default
loop-place-preserved-in_default c = sides_skip c.args.triples.now c.args.earlier.now c.loop-place.sides.items c.loop-place.place c.in_default.is c.loop-place.invariant

pub loop-place-preserved : goal.loop-place-preserved
loop-place-preserved c = sides_more c.args.triples.now c.args.earlier.now c.loop-place.sides.items c.loop-place.place c.in-Some.before c.side_at.result c.side_at-in-loop-place.result c.requires.earlier (omega (arith, c.requires.earlier.each)) c.in-Some.is c.side_at.ensures c.side_at-in-loop-place.ensures c.loop-place.invariant

pub returns : goal.returns
returns c =
    let all : c.loop-place.place ≡ length c.args.earlier.now = omega arith in
    subst (AreSides c.args.triples.now c.args.earlier.now c.loop-place.sides.items) all c.loop-place.invariant
