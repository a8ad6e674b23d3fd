use Rattle.mesh_table.specs.Told.{free_told}
use Rattle.mesh_table.specs.Told.{no_ask}
use Rattle.mesh_table.proofs.table.MeshTable.look_free.Given as goal

abbrev pub ghosts-get : goal.ghosts-get
ghosts-get a = record { tells = free_told (record no_ask { value = a.self.now.site.layout.pool }) }
