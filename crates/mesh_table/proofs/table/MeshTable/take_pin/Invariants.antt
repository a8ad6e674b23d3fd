use Rattle.mesh_table.specs.Told.{pin_told}
use Rattle.mesh_table.specs.Told.{no_ask}
use Rattle.mesh_table.proofs.table.MeshTable.take_pin.Given as goal

abbrev pub ghosts-count : goal.ghosts-count
ghosts-count a = record { tells = pin_told (record no_ask { value = a.self.now.site.layout.rounds }) }
