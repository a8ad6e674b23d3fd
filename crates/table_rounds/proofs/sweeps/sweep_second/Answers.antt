use Rattle.std.proofs.Common.{ap}
use Rattle.table_words.specs.Places.{place_number}
use Rattle.mesh_table.specs.Told.{mate_number}
use Rattle.table_rounds.proofs.sweeps.sweep_second.Goals as goal

pub sweep_place-requires-clause-rooted : goal.sweep_place-requires-clause-rooted
sweep_place-requires-clause-rooted c = c.requires.rooted (place_number c.args.table.now.site.layout c.in-Some.at) (ap (mate_number c.args.table.now.site.layout) c.in-Some.is)
