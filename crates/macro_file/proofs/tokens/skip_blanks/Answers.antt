use Rattle.std.proofs.Common.{◌∙◌, sym, ap, drop}
use Rattle.std.proofs.lemmas.List.{take_rest}
use Rattle.macro_file.specs.Walks.{tokens_from}
use Rattle.macro_file.proofs.TokenLemmas.{tokens-blanks}
use Rattle.macro_file.proofs.tokens.skip_blanks.Goals as goal

pub returns-clause-same : goal.returns-clause-same
returns-clause-same c = λ n. tokens-blanks n c.args.bytes.now ∙ ap (λ k. tokens_from n (drop k c.args.bytes.now)) (sym c.blank_count.ensures.value) ∙ ap (tokens_from n) (sym (take_rest c.args.bytes.now c.blank_count.result))
