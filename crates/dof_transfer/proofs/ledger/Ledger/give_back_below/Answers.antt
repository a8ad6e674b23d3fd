use Rattle.std.proofs.Common.{◌≡◌, ◌^◌, ◌≤◌, ℤ, ap, ◌∙◌, sym, subst, arith, true, false, rules, w64}
use Rattle.std.specs.Prelude.{◌+ℤ◌, nat_abs}
use Rattle.std.specs.Int.{cast_signed, cast_unsigned}
use Rattle.std.proofs.lemmas.Int.{to_z-of_z, fits_signed_from_abs}
use Rattle.dof_transfer.specs.Held.{given_back}
use Rattle.dof_transfer.specs.Exchanges.{child, sum_in, value_in}
use Rattle.dof_transfer.specs.Ledgers.{held_of}
use Rattle.dof_transfer.proofs.Exchanging.{other_child, value-given_back}
use Rattle.dof_transfer.proofs.Sizes.{sum-in-fits}
use Rattle.dof_transfer.proofs.ledger.Ledger.give_back_below.Goals as goal

-- what the two children give
zero : (c : goal.After-give_back-one) → c.give_back-zero.result ≡ value_in (held_of c.args.self.now) (child false c.args.name)
zero c = c.give_back-zero.ensures.value ∙ ap (value_in (held_of c.args.self.now)) c.child_at.ensures

given : (c : goal.After-give_back-one) → held_of c.give_back-zero.new.self ≡ given_back (held_of c.args.self.now) (child false c.args.name)
given c = c.give_back-zero.ensures.held ∙ ap (given_back (held_of c.args.self.now)) c.child_at.ensures

one : (c : goal.After-give_back-one) → c.give_back-one.result ≡ value_in (held_of c.args.self.now) (child true c.args.name)
one c =
    c.give_back-one.ensures.value
    ∙ (λ i. value_in (given c i) (c.child_at-2.ensures i))
    ∙ value-given_back (held_of c.args.self.now) (child false c.args.name) (child true c.args.name) (other_child c.args.name)

sum : (c : goal.After-give_back-one) → cast_signed w64 (cast_unsigned w64 c.give_back-zero.result) +ℤ cast_signed w64 (cast_unsigned w64 c.give_back-one.result) ≡ sum_in (held_of c.args.self.now) c.args.name
sum c = λ i. (to_z-of_z w64 c.give_back-zero.result (search rules) ∙ zero c) i +ℤ (to_z-of_z w64 c.give_back-one.result (search rules) ∙ one c) i

pub overflow_add-result : goal.overflow_add-result
overflow_add-result c =
    let small : nat_abs (sum_in (held_of c.args.self.now) c.args.name) ≤ 2 ^ 55 = sum-in-fits (held_of c.args.self.now) c.args.name c.requires.deep c.requires.sized in
    fits_signed_from_abs w64 _ (omega (arith, subst (λ (z : ℤ). nat_abs z ≤ 2 ^ 55) (sym (sum c)) small))

pub returns : goal.returns
returns c = record {
  sum = to_z-of_z w64 _ (overflow_add-result c) ∙ sum c;
  held = c.give_back-one.ensures.held ∙ (λ i. given_back (given c i) (c.child_at-2.ensures i));
  sound = c.give_back-one.ensures.sound;
  kept = λ n there. c.give_back-one.ensures.kept n (c.give_back-zero.ensures.kept n there);
  spare = omega (arith, c.give_back-zero.ensures.spare, c.give_back-one.ensures.spare);
}
