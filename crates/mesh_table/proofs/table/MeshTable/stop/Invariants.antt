use Rattle.mesh_table.specs.Told.{moved}
use Rattle.mesh_table.specs.Rounds.{stopped}
use Rattle.mesh_table.proofs.table.MeshTable.stop.Given as goal

abbrev pub ghosts-put : goal.ghosts-put
ghosts-put a = record { tells = moved (λ n v. stopped v a.asked.0 a.asked.1) }
