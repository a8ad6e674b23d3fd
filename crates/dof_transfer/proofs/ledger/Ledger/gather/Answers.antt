use Rattle.std.proofs.Common.{◌≡◌, ℕ, ℤ, ap, ◌∙◌, sym, subst, arith, length, true, false, List, [], ◌∷◌, ◌++◌, w64, rules}
use Rattle.std.specs.Prelude.{◌<◌, ◌+ℤ◌}
use Rattle.std.proofs.lemmas.Int.{to_z-of_z}
use Rattle.mesh_names.specs.Names.{Name}
use Rattle.dof_transfer.specs.Held.{Held, AreSized, given_back}
use Rattle.dof_transfer.specs.Exchanges.{child, sum_in}
use Rattle.dof_transfer.specs.Ledgers.{held_of}
use Rattle.dof_transfer.proofs.Exchanging.{given_back-next, sum-before, sums-next}
use Rattle.dof_transfer.proofs.Sizes.{sized-given_back}
use Rattle.dof_transfer.proofs.ledger.Ledger.gather.Goals as goal

pub loop-name-preserved : goal.loop-name-preserved
loop-name-preserved c =
    let h0 : Held = held_of c.args.self.now in
    let i : ℕ = c.loop-name.name-index in
    let names : List Name = c.args.names.now in
    let n : Name = c.name-item.result in
    let within : i < length names = omega arith in
    let sum : c.give_back_below-sum.result ≡ sum_in h0 n =
    c.give_back_below-sum.ensures.sum ∙ ap (λ (h : Held). sum_in h n) c.loop-name.invariant.held
    ∙ (λ j. sum-before h0 names i n false c.requires.apart within c.name-item.is j +ℤ sum-before h0 names i n true c.requires.apart within c.name-item.is j) in
    record {
      held = c.give_back_below-sum.ensures.held ∙ ap (λ (h : Held). given_back (given_back h (child false n)) (child true n)) c.loop-name.invariant.held ∙ sym (given_back-next h0 names i n within c.name-item.is);
      sums = sums-next h0 names i n c.loop-name.sums.items c.push_reserved.new.self.items c.give_back_below-sum.result within c.name-item.is c.loop-name.invariant.sums sum (c.push_reserved.ensures.items ∙ ap (λ (v : ℤ). c.loop-name.sums.items ++ v ∷ []) (to_z-of_z w64 c.give_back_below-sum.result (search rules)));
      sound = c.give_back_below-sum.ensures.sound;
      sized = subst AreSized (sym c.give_back_below-sum.ensures.held) (sized-given_back _ (child true n) (sized-given_back _ (child false n) c.loop-name.invariant.sized));
      kept = λ q there. c.give_back_below-sum.ensures.kept q (c.loop-name.invariant.kept q there);
      spare = omega (arith, c.give_back_below-sum.ensures.spare);
      capacity = c.push_reserved.ensures.capacity ∙ c.loop-name.invariant.capacity;
    }
