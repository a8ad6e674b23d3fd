use Rattle.std.proofs.Common.{sym, subst}
use Rattle.std.proofs.lemmas.Result.{IfOk-weaker}
use Rattle.compat_check.specs.Twins.{AreCornerKeys}
use Rattle.compat_check.proofs.TwinKeys.{twins_from_ties}
use Rattle.compat_check.proofs.twins.earlier_twins.Goals as goal

pub returns : goal.returns
returns c =
    let keys : AreCornerKeys c.args.triples.now c.as_slice.result.now = subst (AreCornerKeys c.args.triples.now) (sym c.as_slice.ensures.value) c.in_ok-keys.ensures in
    IfOk-weaker c.earlier_equals.result _ _ (λ v h. twins_from_ties c.args.triples.now c.requires.distinct c.as_slice.result.now keys v.items h) c.earlier_equals.ensures
