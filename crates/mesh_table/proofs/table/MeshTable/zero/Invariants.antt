use Rattle.mesh_table.specs.Told.{moved}
use Rattle.mesh_table.specs.Rounds.{noted_born}
use Rattle.mesh_table.proofs.table.MeshTable.zero.Given as goal

abbrev pub ghosts-put : goal.ghosts-put
ghosts-put a = record { tells = moved (λ n v. noted_born v a.asked 0) }
