use Rattle.std.proofs.Common.{◌≡◌, ℕ, ◌+◌, ◌-◌, ◌<◌, ◌≤◌, length, refl, sym, ap, ◌∙◌, subst, arith}
use Rattle.table_words.specs.Entries.{HasEntry}
use Rattle.mesh_table.specs.Sights.{Sight}
use Rattle.mesh_table.specs.Told.{Stays, sight}
use Rattle.table_rounds.specs.Rows.{StockTo}
use Rattle.table_rounds.proofs.Laying.{stock_goes, stock_stays}
use Rattle.atomic_table.specs.declared.shared.Seat.{Seat}
use Rattle.table_rounds.proofs.rows.lay_stock.Goals.{then-low-high, else-low-high}
use Rattle.table_rounds.proofs.rows.lay_stock.Goals as goal

pub move_row-requires-clause-take : goal.move_row-requires-clause-take
move_row-requires-clause-take c =
    let v = c.loop.invariant.so.same in
    let high = c.loop.invariant.so.high in
    let shut = c.requires.shut in
    let l = c.requires.low.2 in
    let test = c.if-low-high.true in
    let rows = c.loop.invariant.so.ends.2 in
    let low : (sight c.loop.owner).ruling.low ≡ c.args.drawn = ap (λ (z : Sight). z.ruling.low) v ∙ shut.low in
    let eq : c.args.drawn ≡ c.args.low = l (omega arith) in
    record { rules = ap (λ (z : Sight). z.kind) v ∙ shut.rules; home = ap (λ (z : Sight). z.ruling.workers) v ∙ shut.home; low = omega arith; last = omega arith }

pub loop-preserved : goal.loop-preserved
loop-preserved c =
    let u = sight c.args.owner.now in
    let hand = c.args.hand.now in
    let low = c.args.low in
    let rows = c.args.rows in
    let t = c.loop.invariant.stays in
    let so = c.loop.invariant.so in
    let n = c.loop.counter in
    elim c.if-low-high.branch [
      | then-low-high w ↦
          let d = w.move_row.ensures in
          let test = c.loop-test.true in
          subst (λ (x : Seat (Unit {0}) Sight × ℕ × ℕ). record { stays : Stays c.args.owner.now x.0; so : StockTo u (sight x.0) hand low rows x.1 x.2 (n + 1) }) (λ i. (sym w.owner-is i, sym w.next-is i, sym w.high-is i))
          record { stays = (d.stays.0 ∙ t.0, d.stays.1 ∙ t.1, d.stays.2 ∙ t.2); so = stock_goes u (sight c.loop.owner) (sight w.move_row.new.owner) hand low rows c.loop.next c.loop.high n d.moved.0 so w.if-low-high.true (omega arith) d.moved.2 d.moved.1 }
      | else-low-high w ↦
          subst (λ (x : Seat (Unit {0}) Sight × ℕ × ℕ). record { stays : Stays c.args.owner.now x.0; so : StockTo u (sight x.0) hand low rows x.1 x.2 (n + 1) }) (λ i. (sym w.owner-is i, sym w.next-is i, sym w.high-is i))
          record { stays = t; so = stock_stays u (sight c.loop.owner) hand low rows c.loop.next c.loop.high n so (λ (l : low < c.loop.high). let z = w.if-low-high.false in omega arith) }
    ]
