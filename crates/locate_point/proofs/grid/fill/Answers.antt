use Rattle.std.proofs.Common.{sym}
use Rattle.locate_point.proofs.Filling.{name_more}
use Rattle.locate_point.proofs.grid.fill.Goals as goal

pub push_name-requires : goal.push_name-requires
push_name-requires c = c.requires.rooted c.name-item.result (c.loop-name.name-index, c.loop-name-test.true, sym c.name-item.is)

pub loop-name-preserved : goal.loop-name-preserved
loop-name-preserved c =
    name_more c.args.mesh.now c.args.columns c.args.rows c.args.names.now c.loop-name.name-index c.name-item.result c.loop-name.entries.items c.push_name.new.entries.items c.loop-name-test.true c.name-item.is c.loop-name.invariant
    c.in_ok-push_name.ensures.only c.in_ok-push_name.ensures.added
