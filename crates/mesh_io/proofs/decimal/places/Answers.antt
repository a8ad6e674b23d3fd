use Rattle.std.proofs.Common.{◌≡◌, sym, ap, subst, arith, get_or, length, ◌≤◌}
use Rattle.mesh_io.specs.Decimals.{number}
use Rattle.mesh_io.specs.Heads.{Heads}
use Rattle.mesh_io.proofs.DigitLists.{tail, tail-short, before, places-point}
use Rattle.mesh_io.proofs.decimal.places.Goals as goal

pub overflow_sub-result : goal.overflow_sub-result
overflow_sub-result c = omega (arith, before (tail c.args.after.now) c.digits.result.1.now c.digits.ensures.rest)

pub returns-in-46-clause-heads : goal.returns-in-46-clause-heads
returns-in-46-clause-heads c = λ m h. let e : get_or c.args.after.now 0 0 ≡ 46 = omega arith in
    subst (λ ds. Heads (number m ds) c.digits.result.0.kept c.digits.result.0.dropped) (sym (places-point c.args.after.now c.in-46.len_at_least e)) (c.digits.ensures.heads m h)

pub returns-in-46-clause-places : goal.returns-in-46-clause-places
returns-in-46-clause-places c = let e : get_or c.args.after.now 0 0 ≡ 46 = omega arith in
    omega (arith, before (tail c.args.after.now) c.digits.result.1.now c.digits.ensures.rest, ap length (places-point c.args.after.now c.in-46.len_at_least e))

pub returns-in-46-clause-short : goal.returns-in-46-clause-short
returns-in-46-clause-short c =
    let b = before (tail c.args.after.now) c.digits.result.1.now c.digits.ensures.rest in
    let s : length (tail c.args.after.now) ≤ length c.args.after.now = tail-short c.args.after.now in (omega (arith, b, s), omega (arith, b, s))
