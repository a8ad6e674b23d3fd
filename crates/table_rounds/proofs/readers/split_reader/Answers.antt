use Rattle.std.proofs.Common.{ℕ, ◌+◌, ap}
use Rattle.mesh_table.specs.Told.{sight}
use Rattle.table_rounds.proofs.Stocking.{stock_counted}
use Rattle.table_rounds.proofs.readers.split_reader.Goals as goal

pub returns-clause-stock : goal.returns-clause-stock
returns-clause-stock c =
    let u = sight c.args.owner.now in
    let s = c.args.stock.now in
    let is = c.requires.stock in
    let o = c.split_reader-pass in
    stock_counted c.args.table.now.site.layout u (sight o.new.owner) s u.read (u.ruling.readers + 1) u.ruling.early (s.readers + 1) s.early o.ensures.left (ap (λ (n : ℕ). n + 1) is.readers) is.early is
