use Rattle.mesh_table.specs.Told.{row_told}
use Rattle.mesh_table.specs.Told.{no_ask}
use Rattle.mesh_table.proofs.table.MeshTable.look_row.Given as goal

abbrev pub ghosts-get : goal.ghosts-get
ghosts-get a = record { tells = row_told (record no_ask { place = a.asked; value = a.self.now.site.layout.pool }) }
