use Rattle.std.proofs.Common.{◌≡◌, ◌∙◌, ⊎_elim, map, string_bytes, subst, sym, Err}
use Rattle.std.proofs.lemmas.Bool.{and_parts}
use Rattle.clap.specs.Words.{IsAmong, app_of, fault_of, found_of, kind_of, rows_of}
use Rattle.clap.specs.declared.error.kind.ErrorKind.TheVariants.{OutOfMemory}
use Rattle.clap.specs.declared.parser.matches.ArgMatches.{ArgMatches}
use Rattle.adapt_words.specs.Commands.{found_in}
use Rattle.adapt_words.specs.Words.{Answers}
use Rattle.adapt_words.specs.declared.words.WordsRefusal.{WordsRefusal}
use Rattle.adapt_words.proofs.AnswerLemmas.{found-some, found-none, refused}
use Rattle.adapt_words.proofs.commands.found_by.Goals as goal

pub returns-in-Ok : goal.returns-in-Ok
returns-in-Ok c =
    found-some (app_of c.args.command) (map string_bytes c.args.words.now) (rows_of (found_of c.in-Ok.matches))
    (c.in-Ok.ensures.kinds c.requires) (c.in-Ok.ensures.matches (and_parts _ _ c.requires).0).0

pub returns-in-Err : goal.returns-in-Err
returns-in-Err c =
    let app = app_of c.args.command in
    let words = map string_bytes c.args.words.now in
    let Told : WordsRefusal → Type 0 = λ refusal. Answers (λ (m : ArgMatches). rows_of (found_of m)) (found_in app words) (Err refusal) in
    ⊎_elim
    (λ (memory : kind_of c.in-Err.error ≡ OutOfMemory). subst Told (sym (c.refusal.ensures.memory (c.kind.ensures ∙ memory))) tt)
    (λ (among : IsAmong (kind_of c.in-Err.error) (fault_of app words)). refused (λ (m : ArgMatches). rows_of (found_of m)) _ c.refusal.result (found-none app words (kind_of c.in-Err.error) among))
    (c.in-Err.ensures.kinds c.requires)
