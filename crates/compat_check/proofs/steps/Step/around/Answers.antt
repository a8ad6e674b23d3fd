use Rattle.compat_check.proofs.Stepping.{around_top, around_under}
use Rattle.compat_check.proofs.steps.Step.around.Goals as goal

pub returns-in-None-clause-around : goal.returns-in-None-clause-around
returns-in-None-clause-around c = λ mesh h. around_top mesh c.args.self.now c.under.result c.in-None.ensures c.under.ensures h

pub returns-in-Some-clause-around : goal.returns-in-Some-clause-around
returns-in-Some-clause-around c = λ mesh h. around_under mesh c.args.self.now c.under-in-Some.result c.in-Some.parent.0 c.in-Some.parent.1 c.in-Some.ensures c.under-in-Some.ensures h
