use Rattle.std.proofs.Common.{◌≡◌, true, ◌∙◌, refl, arith}
use Rattle.std.specs.FinMap.{contains_key}
use Rattle.forest_plain.proofs.RowOrder.{all-next, all_taken}
use Rattle.forest_tree.proofs.slots.make_ready.Goals as goal

pub loop-name-init : goal.loop-name-init
loop-name-init c = record { live = refl; ready = λ k d l. absurd (omega (arith, l)) }

pub loop-name-preserved : goal.loop-name-preserved
loop-name-preserved c = record {
  live = c.in_ok-ready.ensures.live ∙ c.loop-name.invariant.live;
  ready = all-next (λ n. contains_key c.ready.new.self n ≡ true) c.args.names.now c.loop-name.name-index c.name-item.result _ c.loop-name-test.true c.name-item.is (λ k d l. c.in_ok-ready.ensures.kept _ (c.loop-name.invariant.ready k d l)) c.in_ok-ready.ensures.ready;
}

pub returns-clause-ready : goal.returns-clause-ready
returns-clause-ready c = all_taken (λ n. contains_key c.loop-name.tree n ≡ true) c.args.names.now c.loop-name.name-index c.loop-name-test.false c.loop-name.invariant.ready
