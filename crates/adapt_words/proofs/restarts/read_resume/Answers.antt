use Rattle.std.proofs.Common.{map, string_bytes, Err}
use Rattle.std.specs.Prelude.{option_and_then, ok_or}
use Rattle.std.proofs.lemmas.Result.{err_from_is_err_and}
use Rattle.clap.specs.Words.{found_of, rows_of}
use Rattle.clap.specs.declared.parser.matches.ArgMatches.{ArgMatches}
use Rattle.adapt_words.specs.Commands.{found_in, resume_app}
use Rattle.adapt_words.specs.Restarts.{resume_in, resume_of, resume_said}
use Rattle.adapt_words.specs.Words.{Answers}
use Rattle.adapt_words.specs.declared.words.WordsRefusal.TheVariants.{Outside}
use Rattle.adapt_words.proofs.AnswerLemmas.{answered, still_refused}
use Rattle.adapt_words.proofs.restarts.read_resume.Goals as goal

pub returns-in_err-matches-clause-told : goal.returns-in_err-matches-clause-told
unfolding resume_of
returns-in_err-matches-clause-told c =
    let found = found_in resume_app (map string_bytes c.args.words.now) in
    let p = err_from_is_err_and c.from_residual.result c.from_residual.ensures.1 in
    let told : Answers resume_said (option_and_then resume_in found) (Err c.in_err-matches.field-0.0) = still_refused (λ (m : ArgMatches). rows_of (found_of m)) resume_said found resume_in c.in_err-matches.field-0.0 (c.in_err-matches.ensures resume_app c.resume_command.ensures) in
    rw (p.1, p.2) told

pub returns-clause-told : goal.returns-clause-told
unfolding resume_of
returns-clause-told c =
    let found = found_in resume_app (map string_bytes c.args.words.now) in
    let told : Answers resume_said (option_and_then resume_in found) (ok_or c.resume_in.result Outside) = answered resume_said found resume_in (rows_of (found_of c.in_ok-matches.matches)) c.resume_in.result (c.in_ok-matches.ensures resume_app c.resume_command.ensures) c.resume_in.ensures.told in
    rw c.ok_or.ensures.value told
