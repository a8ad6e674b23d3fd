use Rattle.mesh_table.specs.Sights.{setup_at}
use Rattle.mesh_table.specs.SecondHalf.{old_told}
use Rattle.mesh_table.proofs.table.MeshTable.look_told.Given as goal

abbrev pub ghosts-get : goal.ghosts-get
ghosts-get a = record { tells = old_told (setup_at a.self.now.site) }
