use Rattle.mesh_table.specs.Told.{moved}
use Rattle.mesh_table.specs.Rounds.{noted_row}
use Rattle.mesh_table.proofs.table.MeshTable.lay.Given as goal

abbrev pub ghosts-put : goal.ghosts-put
ghosts-put a = record { tells = moved (λ n v. noted_row v a.asked.0 a.asked.1) }
