use Rattle.std.proofs.Common.{◌∙◌, sym, arith}
use Rattle.macro_file.proofs.TokenLemmas.{between_tail, comment_tail, part-short, tail}
use Rattle.macro_file.proofs.tokens.next_token.Goals as goal

pub loop-left-preserved-then-byte-eq35 : goal.loop-left-preserved-then-byte-eq35
loop-left-preserved-then-byte-eq35 c = record {
  same = c.loop-left.invariant.same ∙ comment_tail c.loop-left.here c.to_newline.result c.loop-left.left.now c.in-len1-up.len_at_least c.if-byte-eq35.true c.to_newline.ensures.value;
  within = omega (arith, c.loop-left.invariant.within, part-short c.to_newline.result (tail c.loop-left.left.now), part-short 1 c.loop-left.left.now);
  short = omega (arith, c.loop-left.invariant.short, part-short c.to_newline.result (tail c.loop-left.left.now), part-short 1 c.loop-left.left.now);
}

pub loop-left-preserved : goal.loop-left-preserved
loop-left-preserved c = record {
  same = c.loop-left.invariant.same
      ∙ between_tail c.loop-left.here c.loop-left.left.now c.in-len1-up.len_at_least (sym c.ends_word.ensures ∙ c.if-not-ends_word.false) c.if-byte-eq10.false c.if-byte-eq35.false
      ∙ c.skip_blanks-left-else-byte-eq35.ensures.same c.loop-left.here;
  within = omega (arith, c.loop-left.invariant.within, part-short 1 c.loop-left.left.now, c.skip_blanks-left-else-byte-eq35.ensures.short);
  short = omega (arith, c.loop-left.invariant.short, part-short 1 c.loop-left.left.now, c.skip_blanks-left-else-byte-eq35.ensures.short);
}
