use Rattle.mesh_mend.specs.Refusals.{IsMendable}
use Rattle.mesh_mend.proofs.CutTexts.{grades_are_zero, mended_passes, pieces_sum}
use Rattle.mesh_mend.proofs.mending.mend.Goals as goal

pub returns-clause-passes : goal.returns-clause-passes
returns-clause-passes c =
    let ok : IsMendable c.args.text.now = record { faultless = c.in_ok-labels.ensures.ok; fits = c.in_ok-check_size.ensures.ok; thick = c.in_ok-check_pieces.ensures.ok } in
    mended_passes c.args.text.now c.in_ok-made.made ok c.in_ok-made.ensures

pub returns-clause-grades : goal.returns-clause-grades
returns-clause-grades c =
    let ok : IsMendable c.args.text.now = record { faultless = c.in_ok-labels.ensures.ok; fits = c.in_ok-check_size.ensures.ok; thick = c.in_ok-check_pieces.ensures.ok } in
    grades_are_zero c.args.text.now c.in_ok-made.made ok c.in_ok-made.ensures

pub returns-clause-sums : goal.returns-clause-sums
returns-clause-sums c =
    let ok : IsMendable c.args.text.now = record { faultless = c.in_ok-labels.ensures.ok; fits = c.in_ok-check_size.ensures.ok; thick = c.in_ok-check_pieces.ensures.ok } in
    pieces_sum c.args.text.now c.in_ok-made.made ok c.in_ok-made.ensures
