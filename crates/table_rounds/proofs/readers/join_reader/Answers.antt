use Rattle.std.proofs.Common.{ℕ, ◌-◌, ◌++◌, cond, ltb, sym, ap, subst}
use Rattle.table_words.specs.Views.{Read}
use Rattle.mesh_table.specs.Told.{sight}
use Rattle.table_rounds.specs.Stocks.{IsStock}
use Rattle.table_rounds.proofs.Stocking.{stock_counted}
use Rattle.table_rounds.proofs.readers.join_reader.Goals as goal

pub returns-clause-stock : goal.returns-clause-stock
returns-clause-stock c =
    let l = c.args.table.now.site.layout in
    let u = sight c.args.owner.now in
    let w = sight c.args.pass in
    let s = c.args.stock.now in
    let is = c.requires.stock in
    let v = sight c.join_reader.new.owner in
    let notes : Read = record u.read { notes = u.read.notes ++ w.read.notes } in
    let counted = stock_counted l u v s notes (u.ruling.readers - 1) (cond (ltb w.read.made u.ruling.finished) (u.ruling.early - 1) u.ruling.early) (s.readers - 1) (cond (ltb c.args.made s.finished) (s.early - 1) s.early)
    c.join_reader.ensures.joined (ap (λ (n : ℕ). n - 1) is.readers) (λ t. cond (ltb (c.requires.made t) (is.finished t)) (is.early t - 1) (is.early t)) is in
    subst (IsStock l v) (sym c.count_joined.ensures.fewer) counted
