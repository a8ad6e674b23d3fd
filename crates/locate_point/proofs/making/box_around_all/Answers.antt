use Rattle.std.proofs.Common.{sym}
use Rattle.locate_point.proofs.making.box_around_all.Goals as goal

pub box_around-requires : goal.box_around-requires
box_around-requires c = c.requires c.name-item.result (c.loop-name.name-index, c.loop-name-test.true, sym c.name-item.is)
