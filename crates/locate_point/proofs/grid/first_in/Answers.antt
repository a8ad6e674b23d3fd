use Rattle.std.proofs.Common.{◌≡◌, ◌+◌, ◌*◌, sym, subst, ◌∙◌, arith}
use Rattle.std.proofs.lemmas.Bool.{true≢false}
use Rattle.locate_point.specs.Covering.{Covers}
use Rattle.locate_point.specs.Grids.{cell}
use Rattle.locate_point.proofs.Sorting.{first_least, no_place, none_left, none_more, none_past, some_place}
use Rattle.locate_point.proofs.grid.first_in.Goals as goal

pub returns-then-entry-number : goal.returns-then-entry-number
returns-then-entry-number c names grid =
    let es = c.args.entries.now in
    let number = c.up.result * (c.args.columns.last + 1) + c.across.result in
    let at : number ≡ cell c.args.columns c.args.rows c.args.point = λ i. c.up.ensures.place i * (c.args.columns.last + 1) + c.across.ensures.place i in
    let x = c.index-entries-at.result in
    no_place c.args.mesh.now c.args.columns c.args.rows names es c.args.point number grid at
    (none_past es grid.sorted c.args.mesh.now c.args.point number c.loop-at.at x c.loop-at-test.true c.index-entries-at.is c.if-entry-number.true c.loop-at.invariant.from c.loop-at.invariant.before)

pub corners_of-requires : goal.corners_of-requires
corners_of-requires c =
    let es = c.args.entries.now in
    let grid = c.requires.grid.1 in
    let x = c.index-entries-at.result in
    grid.rooted x.1 (grid.entries_are.named x (c.loop-at.at, c.loop-at-test.true, sym c.index-entries-at.is))

pub returns-then-contains : goal.returns-then-contains
returns-then-contains c names grid =
    let es = c.args.entries.now in
    let number = c.up.result * (c.args.columns.last + 1) + c.across.result in
    let at : number ≡ cell c.args.columns c.args.rows c.args.point = λ i. c.up.ensures.place i * (c.args.columns.last + 1) + c.across.ensures.place i in
    let x = c.index-entries-at.result in
    let here = c.index-entries-at.is in
    some_place c.args.mesh.now c.args.columns c.args.rows names es c.args.point number x grid at (c.loop-at.at, c.loop-at-test.true, sym here) (subst (λ t. Covers t c.args.point) c.corners_of.ensures.corners (c.contains.ensures.0 c.if-contains.true))
    (first_least es grid.sorted c.args.mesh.now c.args.point number c.loop-at.at x c.loop-at-test.true here c.if-entry-number.false c.loop-at.invariant.before)

pub loop-at-preserved : goal.loop-at-preserved
loop-at-preserved c =
    let es = c.args.entries.now in
    let grid = c.requires.grid.1 in
    let number = c.up.result * (c.args.columns.last + 1) + c.across.result in
    let x = c.index-entries-at.result in
    record {
      before = none_more es grid.sorted c.args.mesh.now c.args.point number c.loop-at.at x c.loop-at-test.true c.index-entries-at.is (λ h. true≢false (sym (c.contains.ensures.1 (subst (λ t. Covers t c.args.point) (sym c.corners_of.ensures.corners) h)) ∙ c.if-contains.false)) c.loop-at.invariant.before;
      from = λ k d low high. c.loop-at.invariant.from k d (omega (arith, low)) high;
    }

pub returns : goal.returns
returns c names grid =
    let es = c.args.entries.now in
    let number = c.up.result * (c.args.columns.last + 1) + c.across.result in
    let at : number ≡ cell c.args.columns c.args.rows c.args.point = λ i. c.up.ensures.place i * (c.args.columns.last + 1) + c.across.ensures.place i in
    no_place c.args.mesh.now c.args.columns c.args.rows names es c.args.point number grid at (none_left es grid.sorted c.args.mesh.now c.args.point number c.loop-at.at c.loop-at-test.false c.loop-at.invariant.before)
