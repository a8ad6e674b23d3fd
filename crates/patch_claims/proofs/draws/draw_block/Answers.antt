use Rattle.std.proofs.Common.{◌+◌, ◌<◌, ◌∷◌, List, sym, ap, subst, arith}
use Rattle.table_words.specs.Entries.{HasEntry}
use Rattle.table_words.specs.Places.{place_number}
use Rattle.mesh_table.specs.Saw.{Saw, SawFree}
use Rattle.mesh_table.specs.Sights.{Sight}
use Rattle.mesh_table.specs.Told.{sight}
use Rattle.patch_claims.proofs.Drawn.{drew_none, drew_one, drew_saw}
use Rattle.patch_claims.proofs.draws.draw_block.Goals as goal

pub returns-then-number-free-clause-none : goal.returns-then-number-free-clause-none
returns-then-number-free-clause-none c =
    let x = place_number c.args.table.now.site.layout c.args.at in
    let v = sight c.args.pass.now in
    let u = sight c.draw-number.new.seat in
    rw c.look_free-free.ensures.view (
      c.if-number-free.true,
      drew_none v u x c.draw-number.result c.draw-number.ensures.drawn (λ d e. (c.look_free-free.ensures.told c.draw-number.result d e).0 c.if-number-free.true),
      ap (λ (l : List Saw). SawFree c.look_free-free.result ∷ l) (drew_saw v u x c.draw-number.result c.draw-number.ensures.drawn),
    )

pub overflow_cast-result : goal.overflow_cast-result
overflow_cast-result c =
    let l = c.args.table.now.site.layout in
    let x = place_number l c.args.at in
    let t = drew_one (sight c.args.pass.now) (sight c.draw-number.new.seat) x c.draw-number.result c.draw-number.ensures.drawn c.look_row.result l.pool
    (λ d e. (c.look_free-free.ensures.told c.draw-number.result d e).1 c.if-number-free.false) (λ b e. c.look_row.ensures.told b (subst (λ (v : Sight). HasEntry v.work.drawn (c.draw-number.result, b + 1)) (sym c.look_free-free.ensures.view) e)) in
    let low : c.look_row.result < l.pool = t.0 in
    let small = c.args.table.now.small in
    omega arith

pub returns-clause-some : goal.returns-clause-some
returns-clause-some c =
    let l = c.args.table.now.site.layout in
    let x = place_number l c.args.at in
    let v = sight c.args.pass.now in
    let u = sight c.draw-number.new.seat in
    let t = drew_one v u x c.draw-number.result c.draw-number.ensures.drawn c.look_row.result l.pool
    (λ d e. (c.look_free-free.ensures.told c.draw-number.result d e).1 c.if-number-free.false) (λ b e. c.look_row.ensures.told b (subst (λ (v : Sight). HasEntry v.work.drawn (c.draw-number.result, b + 1)) (sym c.look_free-free.ensures.view) e)) in
    rw (c.look_row.ensures.same, c.look_free-free.ensures.view) (
      t.0,
      t.1,
      (c.draw-number.result, c.look_free-free.result, ap (λ (l : List Saw). SawFree c.look_free-free.result ∷ l) (drew_saw v u x c.draw-number.result c.draw-number.ensures.drawn)),
    )
