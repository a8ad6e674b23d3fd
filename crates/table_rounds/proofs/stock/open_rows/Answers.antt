use Rattle.std.proofs.Common.{◌≡◌, ℕ, ◌+◌, ◌≤◌, List, [], ◌++◌, ◌⊎◌, ◌↔◌, length, refl, sym, ap, ◌∙◌, subst, arith}
use Rattle.std.proofs.lemmas.List.{length-append}
use Rattle.table_words.specs.Entries.{HasEntry, EntryAt}
use Rattle.mesh_table.specs.Sights.{Sight}
use Rattle.mesh_table.specs.Told.{sight}
use Rattle.table_rounds.specs.Stocks.{IsStock, blocks_of}
use Rattle.table_rounds.proofs.Piles.{are_given_up, blocks_length, once_given}
use Rattle.table_rounds.proofs.Stocking.{stock_laid}
use Rattle.table_rounds.proofs.stock.open_rows.Goals as goal

pub returns-clause-stock : goal.returns-clause-stock
returns-clause-stock c =
    let l = c.args.table.now.site.layout in
    let o = c.lay_rows-rows in
    let laid = c.look_blocks.ensures.same ∙ o.ensures.opened in
    let low = c.look_room.ensures.few o.result (ap (λ (z : Sight). z.ruling.free) laid) in
    let is = stock_laid l (sight c.args.owner.now) (sight o.new.owner) c.args.stock.now record c.args.stock.now { hand = c.clear.new.self } o.result c.requires.stock o.ensures.opened low c.clear.ensures.items c.clear.ensures.capacity in
    subst (λ (z : Sight). IsStock l z record c.args.stock.now { hand = c.clear.new.self; rows = o.result }) (sym (c.look_room.ensures.same ∙ c.look_blocks.ensures.same)) is

pub returns-clause-room : goal.returns-clause-room
returns-clause-room c names firsts at once_f same_f =
    let l = c.args.table.now.site.layout in
    let s = c.args.stock.now in
    let o = c.lay_rows-rows in
    let v = sight c.look_blocks.new.owner in
    let laid = c.look_blocks.ensures.same ∙ o.ensures.opened in
    let low = c.look_room.ensures.few o.result (ap (λ (z : Sight). z.ruling.free) laid) in
    let is = stock_laid l (sight c.args.owner.now) (sight o.new.owner) s record s { hand = c.clear.new.self } o.result c.requires.stock o.ensures.opened low c.clear.ensures.items c.clear.ensures.capacity in
    let given = blocks_of s.kept.items ++ blocks_of s.rolled_back.items in
    let once = once_given l (sight o.new.owner) c.clear.new.self.items s.kept.items s.rolled_back.items is.hand is.old is.old_once is.back is.back_once c.look_blocks.ensures.told in
    let are = are_given_up l (sight o.new.owner) c.clear.new.self.items s.kept.items s.rolled_back.items is.hand is.old is.old_once is.back is.back_once c.look_blocks.ensures.told in
    let same : (b : ℕ) → HasEntry given b ↔ (HasEntry v.ruling.kept b ⊎ HasEntry v.ruling.rolled_back b) = subst (λ (z : Sight). (b : ℕ) → HasEntry given b ↔ (HasEntry z.ruling.kept b ⊎ HasEntry z.ruling.rolled_back b)) (sym c.look_blocks.ensures.same) are in
    let stopped : v.ruling.high ≤ v.ruling.low = subst (λ (z : Sight). z.ruling.high ≤ z.ruling.low) (sym laid) (omega arith) in
    let now : EntryAt v.ruling.history v.ruling.finished names = subst (λ (z : Sight). EntryAt z.ruling.history z.ruling.finished names) c.look_room.ensures.same at in
    let count = c.look_room.ensures.told o.result given (ap (λ (z : Sight). z.ruling.hand) laid) stopped (ap (λ (z : Sight). z.ruling.cursor) laid) (ap (λ (z : Sight). z.ruling.free) laid) once same names firsts now once_f same_f in
    let a = length-append (blocks_of s.kept.items) (blocks_of s.rolled_back.items) in
    let b = blocks_length s.kept.items in
    let d = blocks_length s.rolled_back.items in
    omega arith
