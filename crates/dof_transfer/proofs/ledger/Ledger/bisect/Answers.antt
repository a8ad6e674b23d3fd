use Rattle.std.proofs.Common.{◌≢◌, ap, ◌∙◌, sym, ℤ, true, false, rules, w64, subst, Option}
use Rattle.std.specs.Prelude.{IfSome, ◌-ℤ◌, ◌<◌}
use Rattle.std.proofs.lemmas.Int.{to_z-of_z}
use Rattle.mesh_names.specs.Names.{Name, depth}
use Rattle.dof_transfer.specs.Held.{Held, given_back, taken}
use Rattle.dof_transfer.specs.Exchanges.{child, floor_half, value_in}
use Rattle.dof_transfer.specs.Ledgers.{held_of}
use Rattle.dof_transfer.proofs.Exchanging.{bisected-two}
use Rattle.dof_transfer.proofs.ledger.Ledger.bisect.Goals as goal

-- the children of a name take one each, with the parts of a value
abbrev step : Held → Name → ℤ → Held
step held n v = taken (taken held (child false n) (floor_half v)) (child true n) (v -ℤ floor_half v)

pub returns-in-Some-clause-held : goal.returns-in-Some-clause-held
returns-in-Some-clause-held c =
    let p = c.args.patch.now in
    let b = c.in-Some.second in
    let value = to_z-of_z w64 c.give_back-value.result (search rules) ∙ c.give_back-value.ensures.value in
    let given = c.give_back-other.ensures.held ∙ ap (λ (h : Held). given_back h b) c.give_back-value.ensures.held in
    let one = c.take_halves-in-Some.ensures.held ∙ (λ i. step (given i) p.first (value i)) in
    let other = to_z-of_z w64 c.give_back-other.result (search rules) ∙ c.give_back-other.ensures.value ∙ ap (λ (h : Held). value_in h b) c.give_back-value.ensures.held in
    let apart : b ≢ p.first = (subst (λ (o : Option Name). IfSome o (λ m. (depth m < 24) × (m ≢ p.first))) c.in-Some.is c.requires.pair.second).1 in
    c.take_halves-in-Some-2.ensures.held ∙ (λ i. step (one i) b (other i)) ∙ sym (bisected-two (held_of c.args.self.now) p b c.in-Some.is apart)
