use Rattle.std.proofs.Common.{sym}
use Rattle.locate_point.proofs.making.are_few.Goals as goal

pub cell_count-count-requires : goal.cell_count-count-requires
cell_count-count-requires c = c.requires c.name-item.result (c.loop-name.name-index, c.loop-name-test.true, sym c.name-item.is)
