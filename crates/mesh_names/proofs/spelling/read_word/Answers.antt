use Rattle.std.proofs.Common.{rules, ◌≡◌, ◌<◌, length, take, reverse, ap, ◌∙◌, arith}
use Rattle.std.proofs.Math.Seq.{take-length}
use Rattle.mesh_names.proofs.SpelledNames.{word_other, word_whole}
use Rattle.mesh_names.proofs.spelling.read_word.Goals as goal

pub returns-then-letter-ne49 : goal.returns-then-letter-ne49
returns-then-letter-ne49 c = word_other c.args.letters.now c.loop-letter.letter-index c.loop-letter-test.true c.if-letter-ne48.true c.if-letter-ne49.true

pub returns : goal.returns
returns c =
    let inv = c.loop-letter.invariant in
    let whole : take c.loop-letter.letter-index c.args.letters.now ≡ c.args.letters.now = ap (λ k. take k c.args.letters.now) (omega arith) ∙ take-length c.args.letters.now in
    let some : 0 < length c.args.letters.now = search rules in
    (inv.0, word_whole c.args.letters.now c.loop-letter.name.1 (inv.1 ∙ ap reverse whole) (omega (arith, some)) (omega arith))
