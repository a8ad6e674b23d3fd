use Rattle.std.proofs.Common.{refl, sym, ◌∙◌, arith}
use Rattle.std.proofs.lemmas.Bool.{false≢true, true≢false}
use Rattle.locate_point.proofs.Tenths.{none_at, all_tenths, more_tenths}
use Rattle.locate_point.proofs.exact.is_exact.Goals as goal

pub returns-then-not-lies_on_tenths : goal.returns-then-not-lies_on_tenths
returns-then-not-lies_on_tenths c = (
  λ e. absurd (false≢true e),
  λ all. absurd (none_at c.args.mesh.now.vertices c.loop-number.number c.vertex.result c.vertex.ensures (λ h. true≢false (sym (c.lies_on_tenths.ensures.1 h) ∙ c.if-not-lies_on_tenths.true)) all),
)

pub loop-number-preserved : goal.loop-number-preserved
loop-number-preserved c = more_tenths c.args.mesh.now.vertices c.loop-number.number c.vertex.result c.vertex.ensures (c.lies_on_tenths.ensures.0 c.if-not-lies_on_tenths.false) c.loop-number.invariant

pub returns : goal.returns
returns c = (λ e. all_tenths c.args.mesh.now.vertices c.loop-number.number (omega (arith, c.vertex_count-number-end.ensures, c.loop-number-test.false)) c.loop-number.invariant, λ all. refl)
