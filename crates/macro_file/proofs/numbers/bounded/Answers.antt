use Rattle.std.proofs.Common.{◌∙◌, sym, ap, Ok, rules}
use Rattle.std.proofs.lemmas.Int.{to_z-of_z}
use mir.Val.{SFits}
use mir.Syntax.{w64}
use Rattle.macro_file.specs.Numbers.{whole}
use Rattle.macro_file.proofs.NumberLemmas.{bounded_none, bounded_below, bounded_above, bounded_within, plain_lt}
use Rattle.macro_file.proofs.numbers.bounded.Goals as goal

pub returns-in-None : goal.returns-in-None
returns-in-None c = bounded_none c.args.least c.args.greatest c.args.below c.args.above c.args.line (whole c.args.word.now) c.requires.least c.requires.greatest (sym c.in-None.is ∙ c.read_whole.ensures)

pub returns-then-number-least : goal.returns-then-number-least
returns-then-number-least c =
    let fits : SFits w64 c.in-Some.number = search rules in
    bounded_below c.args.least c.args.greatest c.args.below c.args.above c.args.line (whole c.args.word.now) c.requires.least c.requires.greatest c.in-Some.number (sym c.in-Some.is ∙ c.read_whole.ensures)
    (plain_lt _ _ _ fits c.ranges.least c.if-number-least.true)

pub returns-then-greatest-number : goal.returns-then-greatest-number
returns-then-greatest-number c =
    let fits : SFits w64 c.in-Some.number = search rules in
    bounded_above c.args.least c.args.greatest c.args.below c.args.above c.args.line (whole c.args.word.now) c.requires.least c.requires.greatest c.in-Some.number (sym c.in-Some.is ∙ c.read_whole.ensures)
    (plain_lt _ _ _ fits c.ranges.least c.if-number-least.false) (plain_lt _ _ _ c.ranges.greatest fits c.if-greatest-number.true)

pub returns-else-greatest-number : goal.returns-else-greatest-number
returns-else-greatest-number c =
    let fits : SFits w64 c.in-Some.number = search rules in
    ap Ok (to_z-of_z w64 c.in-Some.number fits)
    ∙ bounded_within c.args.least c.args.greatest c.args.below c.args.above c.args.line (whole c.args.word.now) c.requires.least c.requires.greatest c.in-Some.number (sym c.in-Some.is ∙ c.read_whole.ensures)
    (plain_lt _ _ _ fits c.ranges.least c.if-number-least.false) (plain_lt _ _ _ c.ranges.greatest fits c.if-greatest-number.false)
