use Rattle.mesh_table.specs.Told.{moved}
use Rattle.mesh_table.specs.Sights.{setup_at}
use Rattle.mesh_table.specs.Told.{topped}
use Rattle.mesh_table.proofs.table.MeshTable.note_top.Given as goal

abbrev pub ghosts-get : goal.ghosts-get
ghosts-get a = record { tells = moved (λ n v. topped (setup_at a.self.now.site) a.asked v) }
