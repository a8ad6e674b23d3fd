use Rattle.mesh_table.specs.Told.{sight}
use Rattle.table_rounds.proofs.Stocking.{stock_quiet}
use Rattle.table_rounds.proofs.stock.free_drained.Goals as goal

pub free_both-requires-clause-stock : goal.free_both-requires-clause-stock
free_both-requires-clause-stock c = stock_quiet c.args.table.now.site.layout (sight c.args.owner.now) (sight c.find_quiet.new.owner) c.args.stock.now c.find_quiet.ensures.same c.requires.stock

pub free_kept-requires-clause-stock : goal.free_kept-requires-clause-stock
free_kept-requires-clause-stock c = stock_quiet c.args.table.now.site.layout (sight c.args.owner.now) (sight c.find_quiet.new.owner) c.args.stock.now c.find_quiet.ensures.same c.requires.stock
