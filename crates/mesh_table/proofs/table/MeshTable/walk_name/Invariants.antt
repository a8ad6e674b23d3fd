use Rattle.mesh_table.specs.Told.{name_told}
use Rattle.mesh_table.specs.Told.{no_ask}
use Rattle.mesh_table.proofs.table.MeshTable.walk_name.Given as goal

abbrev pub ghosts-get : goal.ghosts-get
ghosts-get a = record { tells = name_told (record no_ask { block = a.asked.0; second = a.asked.1 }) }
