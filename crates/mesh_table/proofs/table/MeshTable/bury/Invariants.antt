use Rattle.mesh_table.specs.Told.{moved}
use Rattle.mesh_table.specs.Told.{noted_died}
use Rattle.mesh_table.proofs.table.MeshTable.bury.Given as goal

abbrev pub ghosts-put : goal.ghosts-put
ghosts-put a = record { tells = moved (λ n v. noted_died v a.asked.0 a.asked.1) }
