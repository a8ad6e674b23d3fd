use Rattle.std.proofs.Common.{◌≡◌, ◌≤◌, ℕ, List, ap, length, arith}
use Rattle.mesh_table.specs.Told.{sight}
use Rattle.table_rounds.proofs.Stocking.{stock_drained}
use Rattle.table_rounds.proofs.stock.find_drained.Goals as goal

pub returns-clause-stock : goal.returns-clause-stock
returns-clause-stock c =
    let e = c.requires.stock.left.1 in
    let o = c.drained_rounds-stock in
    let w = o.ensures.within in
    let d = ap (λ (xs : List ℕ). length xs) c.deref.ensures.value in
    stock_drained c.args.table.now.site.layout (sight c.args.owner.now) (sight o.new.owner) c.args.stock.now o.result o.ensures.more c.requires.stock o.ensures.drained (omega arith)
