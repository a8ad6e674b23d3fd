use Rattle.std.proofs.Common.{take}
use Rattle.locate_point.specs.Grids.{AreEntries}
use Rattle.locate_point.proofs.grid.fill.Given as goal

abbrev pub invariant-loop-name : goal.invariant-loop-name
invariant-loop-name l = AreEntries l.mesh l.columns l.rows (take l.name-index l.names) l.entries.items
