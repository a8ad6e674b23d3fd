use Rattle.std.proofs.Common.{map, string_bytes, Err, None, Some}
use Rattle.std.specs.Prelude.{option_and_then}
use Rattle.std.proofs.lemmas.Result.{err_from_is_err_and}
use Rattle.clap.specs.Words.{found_of, rows_of}
use Rattle.clap.specs.declared.parser.matches.ArgMatches.{ArgMatches}
use Rattle.adapt_words.specs.Commands.{found_in, mark_app}
use Rattle.adapt_words.specs.Rounds.{mark_in, mark_of, mark_said}
use Rattle.adapt_words.specs.Words.{Answers}
use Rattle.adapt_words.specs.declared.words.WordsRefusal.TheVariants.{Outside}
use Rattle.adapt_words.proofs.AnswerLemmas.{answered, still_refused}
use Rattle.adapt_words.proofs.rounds.read_mark.Goals as goal

pub returns-in_err-matches-clause-told : goal.returns-in_err-matches-clause-told
unfolding mark_of
returns-in_err-matches-clause-told c =
    let found = found_in mark_app (map string_bytes c.args.words.now) in
    let p = err_from_is_err_and c.from_residual.result c.from_residual.ensures.1 in
    let told : Answers mark_said (option_and_then mark_in found) (Err c.in_err-matches.field-0.0) = still_refused (λ (m : ArgMatches). rows_of (found_of m)) mark_said found mark_in c.in_err-matches.field-0.0 (c.in_err-matches.ensures mark_app c.mark_command.ensures) in
    rw (p.1, p.2) told

pub returns-clause-told : goal.returns-clause-told
unfolding mark_of
returns-clause-told c = answered mark_said (found_in mark_app (map string_bytes c.args.words.now)) mark_in (rows_of (found_of c.in_ok-matches.matches)) (Some c.in-Some.mark) (c.in_ok-matches.ensures mark_app c.mark_command.ensures) c.in-Some.ensures.told

pub returns-in_default-clause-told : goal.returns-in_default-clause-told
unfolding mark_of
returns-in_default-clause-told c = answered mark_said (found_in mark_app (map string_bytes c.args.words.now)) mark_in (rows_of (found_of c.in_ok-matches.matches)) None (c.in_ok-matches.ensures mark_app c.mark_command.ensures) c.in_default.ensures.told
