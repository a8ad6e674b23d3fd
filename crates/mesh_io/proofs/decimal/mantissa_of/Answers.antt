use Rattle.std.proofs.Common.{ap, subst, arith, length}
use Rattle.mesh_io.specs.Decimals.{digits_at, number, places_at}
use Rattle.mesh_io.specs.Heads.{Heads}
use Rattle.mesh_io.proofs.DigitLists.{before, no_digits}
use Rattle.mesh_io.proofs.decimal.mantissa_of.Goals as goal

pub returns-clause-heads : goal.returns-clause-heads
returns-clause-heads c = subst (λ ys. Heads (number (number 0 (digits_at c.args.bare.now)) (places_at ys)) c.places-places.result.0.kept c.places-places.result.0.dropped) c.digits.ensures.rest (c.places-places.ensures.heads _ (c.digits.ensures.heads 0 no_digits))

pub returns-clause-count : goal.returns-clause-count
returns-clause-count c = omega (arith, before c.args.bare.now c.digits.result.1.now c.digits.ensures.rest, c.places-places.ensures.places, ap (λ ys. length (places_at ys)) c.digits.ensures.rest)
