use Rattle.std.proofs.Common.{◌≡◌, length, sym, ◌∙◌, arith}
use Rattle.macro_file.specs.Walks.{ends_key}
use Rattle.macro_file.proofs.Cuts.{first_is, none_is, any_below}
use Rattle.macro_file.proofs.lines.key_length.Goals as goal

pub returns-else-not-ends_key-clause-value : goal.returns-else-not-ends_key-clause-value
returns-else-not-ends_key-clause-value c =
    let i = c.loop-at.invariant in
    first_is ends_key c.args.bytes.now c.loop-at.at c.loop-at-test.true (any_below ends_key c.args.bytes.now c.loop-at.at i.within i.plain) (sym c.ends_key.ensures ∙ c.if-not-ends_key.false)

pub returns-after-loop-at-clause-value : goal.returns-after-loop-at-clause-value
returns-after-loop-at-clause-value c =
    let i = c.loop-at.invariant in
    let all : c.loop-at.at ≡ length c.args.bytes.now = omega arith in
    all ∙ none_is ends_key c.args.bytes.now c.loop-at.at c.loop-at-test.false (any_below ends_key c.args.bytes.now c.loop-at.at i.within i.plain)
