use Rattle.std.proofs.Common.{◌≡◌, fold, map, take}
use Rattle.clap.specs.Words.{app_of, new_app, with_rule}
use Rattle.adapt_words.specs.Commands.{required}
use Rattle.adapt_words.proofs.commands.taking.Given as goal

abbrev pub invariant-loop-id : goal.invariant-loop-id
invariant-loop-id l = app_of l.command ≡ fold with_rule (new_app l.name) (map (λ id. required id.now) (take l.id-index l.ids))
