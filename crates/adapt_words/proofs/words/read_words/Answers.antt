use Rattle.std.proofs.Common.{◌∙◌, Some, ap, map, string_bytes, sym}
use Rattle.std.specs.Prelude.{option_map}
use Rattle.std.proofs.lemmas.Option.{slice_get-map}
use Rattle.adapt_words.proofs.AnswerLemmas.{command_of-other}
use Rattle.adapt_words.proofs.words.read_words.Goals as goal

pub returns-in_default-as_str-clause-told : goal.returns-in_default-as_str-clause-told
returns-in_default-as_str-clause-told c =
    let first = slice_get-map string_bytes c.args.words.now 0 ∙ ap (option_map string_bytes) (sym c.in-Some.ensures.value) ∙ ap Some (sym c.as_str.ensures.value) in
    command_of-other (map string_bytes c.args.words.now) c.as_str.result.now first c.in_default-as_str.not-run c.in_default-as_str.not-soak c.in_default-as_str.not-mark c.in_default-as_str.not-save c.in_default-as_str.not-join c.in_default-as_str.not-resume c.in_default-as_str.not-find c.in_default-as_str.not-mend
