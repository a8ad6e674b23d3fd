use Rattle.std.proofs.Common.{◌≡◌, ℕ, ◌+◌, ◌-◌, ◌<◌, ◌≤◌, length, refl, sym, ap, ◌∙◌, subst, arith}
use Rattle.mesh_table.specs.Sights.{Sight}
use Rattle.mesh_table.specs.Told.{sight}
use Rattle.table_rounds.specs.Rows.{IsShut, RowsLaid}
use Rattle.table_rounds.proofs.Laying.{opens_low, opens_high, still_shut}
use Rattle.table_rounds.proofs.rows.lay_rest.Goals as goal

pub returns-then-low-high-clause-may : goal.returns-then-low-high-clause-may
returns-then-low-high-clause-may c =
    let e = c.lay_stock-next.ensures in
    let a = c.lay_stock-next.result.0 in
    let h = c.lay_stock-next.result.1 in
    let low = c.args.low in
    let p = c.requires.low.0 in
    let q = c.requires.low.1 in
    let test : low < h = c.if-low-high.true in
    let x = e.ends.0 in
    let y = e.ends.2 in
    opens_low (sight c.lay_stock-next.new.owner) c.args.hand.now c.args.drawn h (still_shut (sight c.args.owner.now) (sight c.lay_stock-next.new.owner) c.args.drawn c.args.rows h c.requires.shut e.same e.high) (length c.args.hand.now) a c.args.rows low h e.laid (omega arith) p
    (λ l. let z = c.requires.low.2 (omega arith) in (sym z, e.ends.3 l, refl)) (λ l. absurd (omega arith)) x (omega arith) y (λ l. let z = c.requires.low.2 (omega arith) in sym z)

pub returns-else-low-high-clause-may : goal.returns-else-low-high-clause-may
returns-else-low-high-clause-may c =
    let e = c.lay_stock-next.ensures in
    let a = c.lay_stock-next.result.0 in
    let h = c.lay_stock-next.result.1 in
    let low = c.args.low in
    let p = c.requires.low.0 in
    let q = c.requires.low.1 in
    let test = c.if-low-high.false in
    let x = e.ends.0 in
    let y = e.ends.2 in
    opens_low (sight c.lay_stock-next.new.owner) c.args.hand.now c.args.drawn h (still_shut (sight c.args.owner.now) (sight c.lay_stock-next.new.owner) c.args.drawn c.args.rows h c.requires.shut e.same e.high) (length c.args.hand.now) a c.args.rows low a e.laid (omega arith) p
    (λ (l : low < h). absurd (omega arith)) (λ l. refl) x (omega arith) y (λ (l : c.args.drawn < h). absurd (omega arith))

pub returns-else-hand-low-clause-may : goal.returns-else-hand-low-clause-may
returns-else-hand-low-clause-may c =
    let v = sight c.args.owner.now in
    let hand = c.args.hand.now in
    let low = c.args.low in
    let rows = c.args.rows in
    let p = c.requires.low.0 in
    let q = c.requires.low.1 in
    let test = c.if-hand-low.false in
    let long : low ≤ length hand = omega arith in
    let is : length hand - (length hand - low) ≡ low = omega arith in
    let so : RowsLaid v hand (length hand) low rows (rows + (length hand - low)) = subst (λ (a : ℕ). RowsLaid v hand (length hand) a rows (rows + (length hand - low))) is c.requires.laid in
    opens_high v hand c.args.drawn rows c.requires.shut low (rows + (length hand - low)) so p q (λ (l : c.args.drawn < rows). let z = c.requires.low.2 (omega arith) in sym z) (λ l. sym (c.requires.low.2 l)) (omega arith)
