use Rattle.std.proofs.Common.{◌≡◌, ◌∙◌, sym, ap, drop, true}
use Rattle.std.proofs.lemmas.List.{take_rest}
use Rattle.macro_file.specs.Walks.{ends_word}
use Rattle.macro_file.proofs.TokenLemmas.{tokens-word, some_at}
use Rattle.macro_file.proofs.tokens.token_length.Goals as goal

pub returns-clause-token : goal.returns-clause-token
returns-clause-token c =
    let bytes = c.args.bytes.now in
    let ends : ends_word (drop c.loop-at.at bytes) ≡ true = ap ends_word (sym (take_rest bytes c.loop-at.at)) ∙ sym c.ends_word.ensures ∙ c.loop-at-test.false in
    λ n. tokens-word n c.loop-at.at bytes (some_at c.loop-at.at bytes c.requires ends) c.loop-at.invariant.within c.loop-at.invariant.on ends
