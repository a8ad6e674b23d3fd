use Rattle.std.proofs.Common.{◌≡◌, ◌+◌, ◌-◌, ◌*◌, ◌∙◌, sym, ap, arith, get_or, [], subst}
use Rattle.mesh_io.specs.Heads.{Heads}
use Rattle.mesh_io.specs.Decimals.{digits_at, number}
use Rattle.mesh_io.proofs.DigitLists.{digits-tail, digits-none, digits-empty}
use Rattle.mesh_io.proofs.decimal.more_digits.Goals.{in_default, in-len1-up+then-not-is_digit}
use Rattle.mesh_io.proofs.decimal.more_digits.Goals as goal

pub loop-rest-preserved : goal.loop-rest-preserved
loop-rest-preserved c =
    let xs = c.loop-rest.rest.now in
    let step = digits-tail xs c.in-len1-up.len_at_least (sym c.is_digit.ensures.value ∙ c.if-not-is_digit.false) in
    record {
      heads = λ m h. let i = c.loop-rest.invariant.heads m h in (10 * i.0 + (get_or xs 0 0 - 48), c.more-head.ensures.heads i.0 i.1, sym (ap (number i.0) step.0) ∙ i.2);
      rest = sym step.1 ∙ c.loop-rest.invariant.rest;
      room = omega (arith, step.2, c.loop-rest.invariant.room, c.more-head.ensures.room);
    }

pub returns-clause-heads : goal.returns-clause-heads
returns-clause-heads c = λ m h. let i = c.loop-rest.invariant.heads m h in
    let none : digits_at c.loop-rest.rest.now ≡ [] = elim c.if-rest-lt1.branch [ in_default w ↦ digits-empty c.loop-rest.rest.now (omega arith) | in-len1-up+then-not-is_digit w ↦ (digits-none c.loop-rest.rest.now w.in-len1-up.len_at_least (sym w.is_digit.ensures.value ∙ w.if-not-is_digit.true)).0 ] in
    subst (λ n. Heads n c.loop-rest.head.kept c.loop-rest.head.dropped) (sym (ap (number i.0) none) ∙ i.2) i.1
