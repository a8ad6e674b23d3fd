use Rattle.std.proofs.Common.{map, string_bytes, Err}
use Rattle.std.specs.Prelude.{option_and_then, ok_or}
use Rattle.std.proofs.lemmas.Result.{err_from_is_err_and}
use Rattle.clap.specs.Words.{found_of, rows_of}
use Rattle.clap.specs.declared.parser.matches.ArgMatches.{ArgMatches}
use Rattle.adapt_words.specs.Commands.{found_in, mend_app}
use Rattle.adapt_words.specs.Mending.{mend_in, mend_of, mend_said}
use Rattle.adapt_words.specs.Words.{Answers}
use Rattle.adapt_words.specs.declared.words.WordsRefusal.TheVariants.{Outside}
use Rattle.adapt_words.proofs.AnswerLemmas.{answered, still_refused}
use Rattle.adapt_words.proofs.mending.read_mend.Goals as goal

pub returns-in_err-matches : goal.returns-in_err-matches
unfolding mend_of
returns-in_err-matches c =
    let found = found_in mend_app (map string_bytes c.args.words.now) in
    let p = err_from_is_err_and c.from_residual.result c.from_residual.ensures.1 in
    let told : Answers mend_said (option_and_then mend_in found) (Err c.in_err-matches.field-0.0) = still_refused (λ (m : ArgMatches). rows_of (found_of m)) mend_said found mend_in c.in_err-matches.field-0.0 (c.in_err-matches.ensures mend_app c.mend_command.ensures) in
    rw (p.1, p.2) told

pub returns : goal.returns
unfolding mend_of
returns c =
    let found = found_in mend_app (map string_bytes c.args.words.now) in
    let told : Answers mend_said (option_and_then mend_in found) (ok_or c.mend_in.result Outside) = answered mend_said found mend_in (rows_of (found_of c.in_ok-matches.matches)) c.mend_in.result (c.in_ok-matches.ensures mend_app c.mend_command.ensures) c.mend_in.ensures in
    rw c.ok_or.ensures.value told
