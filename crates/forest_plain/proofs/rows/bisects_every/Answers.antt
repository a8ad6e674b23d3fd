use Rattle.forest_plain.specs.Rounds.{BisectsEvery}
use Rattle.forest_plain.proofs.RowOrder.{all-next, all_taken}
use Rattle.forest_plain.proofs.rows.bisects_every.Goals as goal

pub loop-row-preserved : goal.loop-row-preserved
loop-row-preserved c = all-next (λ row. BisectsEvery row → ⊥) c.args.rows.now c.loop-row.row-index c.row-item.result _ c.loop-row-test.true c.row-item.is c.loop-row.invariant (c.is_of_every.ensures c.if-is_of_every.false)

pub returns : goal.returns
returns c = λ e. all_taken (λ row. BisectsEvery row → ⊥) c.args.rows.now c.loop-row.row-index c.loop-row-test.false c.loop-row.invariant
