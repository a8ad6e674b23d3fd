use Rattle.std.proofs.Common.{◌≡◌, None, All, ◌∙◌, subst, sym, ap}
use Rattle.std.specs.Option.{is_some}
use Rattle.std.proofs.lemmas.List.{take_all}
use Rattle.std.proofs.lemmas.List.Elements.{All-more}
use Rattle.table_passes.specs.declared.work.Joined.{Joined}
use Rattle.shared_rounds.proofs.Failing.{not_some, some_failed}
use Rattle.shared_rounds.proofs.answers.any_failed.Goals as goal

pub returns-then-is_some-clause-some : goal.returns-then-is_some-clause-some
returns-then-is_some-clause-some c = λ e l. some_failed l c.args.joined.now c.loop-pass.pass-index c.pass-item.result c.loop-pass-test.true
    (ap (λ (d : Joined). is_some d.lists.failed) (sym c.pass-item.is) ∙ sym c.is_some.ensures ∙ c.if-is_some.true)

pub loop-pass-preserved : goal.loop-pass-preserved
loop-pass-preserved c = All-more (λ (d : Joined). d.lists.failed ≡ None) c.args.joined.now c.loop-pass.pass-index c.pass-item.result c.loop-pass-test.true c.loop-pass.invariant
    (subst (λ (d : Joined). d.lists.failed ≡ None) c.pass-item.is (not_some c.pass-item.result.lists.failed (sym c.is_some.ensures ∙ c.if-is_some.false)))

pub returns-clause-none : goal.returns-clause-none
returns-clause-none c = λ e. subst (All (λ (d : Joined). d.lists.failed ≡ None)) (take_all c.loop-pass.pass-index c.args.joined.now c.loop-pass-test.false) c.loop-pass.invariant
