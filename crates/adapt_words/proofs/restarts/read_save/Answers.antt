use Rattle.std.proofs.Common.{map, string_bytes, Err}
use Rattle.std.specs.Prelude.{option_and_then, ok_or}
use Rattle.std.proofs.lemmas.Result.{err_from_is_err_and}
use Rattle.clap.specs.Words.{found_of, rows_of}
use Rattle.clap.specs.declared.parser.matches.ArgMatches.{ArgMatches}
use Rattle.adapt_words.specs.Commands.{found_in, save_app}
use Rattle.adapt_words.specs.Restarts.{save_in, save_of, save_said}
use Rattle.adapt_words.specs.Words.{Answers}
use Rattle.adapt_words.specs.declared.words.WordsRefusal.TheVariants.{Outside}
use Rattle.adapt_words.proofs.AnswerLemmas.{answered, still_refused}
use Rattle.adapt_words.proofs.restarts.read_save.Goals as goal

pub returns-in_err-matches-clause-told : goal.returns-in_err-matches-clause-told
unfolding save_of
returns-in_err-matches-clause-told c =
    let found = found_in save_app (map string_bytes c.args.words.now) in
    let p = err_from_is_err_and c.from_residual.result c.from_residual.ensures.1 in
    let told : Answers save_said (option_and_then save_in found) (Err c.in_err-matches.field-0.0) = still_refused (λ (m : ArgMatches). rows_of (found_of m)) save_said found save_in c.in_err-matches.field-0.0 (c.in_err-matches.ensures save_app c.save_command.ensures) in
    rw (p.1, p.2) told

pub returns-clause-told : goal.returns-clause-told
unfolding save_of
returns-clause-told c =
    let found = found_in save_app (map string_bytes c.args.words.now) in
    let told : Answers save_said (option_and_then save_in found) (ok_or c.save_in.result Outside) = answered save_said found save_in (rows_of (found_of c.in_ok-matches.matches)) c.save_in.result (c.in_ok-matches.ensures save_app c.save_command.ensures) c.save_in.ensures.told in
    rw c.ok_or.ensures.value told
