use Rattle.std.proofs.Common.{◌∙◌, ap₂, arith, [], List, ℕ}
use Rattle.clap.specs.Words.{new_app, with_rule}
use Rattle.adapt_words.specs.Commands.{required}
use Rattle.adapt_words.proofs.AnswerLemmas.{rules-all, rules-more}
use Rattle.adapt_words.proofs.commands.taking.Goals as goal

pub loop-id-preserved : goal.loop-id-preserved
loop-id-preserved c =
    c.in_ok-command.ensures.shape c.required_arg.ensures.local
    ∙ ap₂ with_rule c.loop-id.invariant c.required_arg.ensures.rule
    ∙ rules-more (λ id. required id.now) (new_app c.args.name.now) c.args.ids.now c.loop-id.id-index _ (omega arith)

pub returns : goal.returns
returns c = c.loop-id.invariant ∙ rules-all (λ id. required id.now) (new_app c.args.name.now) c.args.ids.now c.loop-id.id-index (omega arith)
