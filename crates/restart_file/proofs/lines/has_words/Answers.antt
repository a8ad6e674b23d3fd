use Rattle.std.proofs.Common.{◌+◌, arith, refl, drop}
use Rattle.restart_file.proofs.Parsing.{step_more, step_fewer, step_none, last_words}
use Rattle.restart_file.proofs.lines.has_words.Goals as goal

pub loop-count-preserved-then-is_at : goal.loop-count-preserved-then-is_at
loop-count-preserved-then-is_at c =
    let bs = c.args.bytes.now in let p = c.loop-count.place in
    let s = step_more c.loop-count.count (drop p bs) (drop (p + 1) bs) c.loop-count-test.true c.if-is_at.ensures.next in
    record {
      within = omega (arith, c.if-is_at.ensures.within refl);
      few = omega arith;
      back = λ w. c.loop-count.invariant.back (s.1 w);
      on = λ w. s.0 (c.loop-count.invariant.on w);
    }

pub loop-count-preserved : goal.loop-count-preserved
loop-count-preserved c =
    let bs = c.args.bytes.now in let p = c.loop-count.place in
    let s = step_fewer c.loop-count.count (drop p bs) (drop (p + 1) bs) c.loop-count-test.true c.if-is_at-2.ensures.next in
    record {
      within = omega (arith, c.if-is_at-2.ensures.within refl);
      few = omega arith;
      back = λ w. c.loop-count.invariant.back (s.1 w);
      on = λ w. s.0 (c.loop-count.invariant.on w);
    }

pub returns-else-is_at-2 : goal.returns-else-is_at-2
returns-else-is_at-2 c = λ w. step_none c.loop-count.count (drop c.loop-count.place c.args.bytes.now) c.loop-count-test.true c.if-is_at.ensures.next c.if-is_at-2.ensures.next (c.loop-count.invariant.on w)

pub returns : goal.returns
returns c = last_words c.loop-count.count c.args.words (drop c.args.first c.args.bytes.now) (drop c.loop-count.place c.args.bytes.now) (drop (c.loop-count.place + 1) c.args.bytes.now) c.is_at-2.result c.loop-count-test.false c.loop-count.invariant.back c.loop-count.invariant.on c.is_at-2.ensures.next
