use Rattle.std.proofs.Common.{◌∷◌, ◌∙◌, ◌-◌, sym, ap, take, drop, length}
use Rattle.std.proofs.lemmas.List.{take_rest}
use Rattle.std.proofs.lemmas.Bool.{eqb-true}
use Rattle.macro_file.specs.Lines.{words}
use Rattle.macro_file.proofs.WordLemmas.{words-first, words-none, some_left}
use Rattle.locate_point.proofs.words.next_word.Goals as goal

pub returns-then-is_empty-clause-word : goal.returns-then-is_empty-clause-word
returns-then-is_empty-clause-word c = words-none c.args.text.now _ (take_rest c.args.text.now c.blank_count.result ∙ ap (λ n. drop n c.args.text.now) c.blank_count.ensures.value) (eqb-true _ _ (sym c.if-is_empty.ensures))

pub returns-clause-word : goal.returns-clause-word
returns-clause-word c =
    let text = c.args.text.now in
    let rest = take (length text - c.blank_count.result) (drop c.blank_count.result text) in
    words-first text rest (take_rest text c.blank_count.result ∙ ap (λ n. drop n text) c.blank_count.ensures.value) (some_left _ c.if-is_empty.ensures)
    ∙ (λ i. (ap (λ n. take n rest) (sym c.word_length.ensures.value) ∙ sym c.split_at.ensures.front) i ∷ words ((ap (λ n. drop n rest) (sym c.word_length.ensures.value) ∙ sym c.split_at.ensures.back) i))
