use Rattle.mesh_table.specs.Told.{moved}
use Rattle.mesh_table.specs.Rounds.{clearing}
use Rattle.mesh_table.proofs.table.MeshTable.look_drained.Given as goal

abbrev pub ghosts-get : goal.ghosts-get
ghosts-get a = record { tells = moved (λ n v. clearing a.asked.0 a.asked.1 n v) }
