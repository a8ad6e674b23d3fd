use Rattle.std.proofs.Common.{map, string_bytes, Err}
use Rattle.std.specs.Prelude.{option_and_then, ok_or}
use Rattle.std.proofs.lemmas.Result.{err_from_is_err_and}
use Rattle.clap.specs.Words.{found_of, rows_of}
use Rattle.clap.specs.declared.parser.matches.ArgMatches.{ArgMatches}
use Rattle.adapt_words.specs.Commands.{found_in, join_app}
use Rattle.adapt_words.specs.Restarts.{join_in, join_of, join_said}
use Rattle.adapt_words.specs.Words.{Answers}
use Rattle.adapt_words.specs.declared.words.WordsRefusal.TheVariants.{Outside}
use Rattle.adapt_words.proofs.AnswerLemmas.{answered, still_refused}
use Rattle.adapt_words.proofs.restarts.read_join.Goals as goal

pub returns-in_err-matches : goal.returns-in_err-matches
unfolding join_of
returns-in_err-matches c =
    let found = found_in join_app (map string_bytes c.args.words.now) in
    let p = err_from_is_err_and c.from_residual.result c.from_residual.ensures.1 in
    let told : Answers join_said (option_and_then join_in found) (Err c.in_err-matches.field-0.0) = still_refused (λ (m : ArgMatches). rows_of (found_of m)) join_said found join_in c.in_err-matches.field-0.0 (c.in_err-matches.ensures join_app c.join_command.ensures) in
    rw (p.1, p.2) told

pub returns : goal.returns
unfolding join_of
returns c =
    let found = found_in join_app (map string_bytes c.args.words.now) in
    let told : Answers join_said (option_and_then join_in found) (ok_or c.join_in.result Outside) = answered join_said found join_in (rows_of (found_of c.in_ok-matches.matches)) c.join_in.result (c.in_ok-matches.ensures join_app c.join_command.ensures) c.join_in.ensures in
    rw c.ok_or.ensures.value told
