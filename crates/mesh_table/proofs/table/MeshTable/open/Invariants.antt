use Rattle.mesh_table.specs.Told.{moved}
use Rattle.mesh_table.specs.Rounds.{opened}
use Rattle.mesh_table.proofs.table.MeshTable.open.Given as goal

abbrev pub ghosts-put : goal.ghosts-put
ghosts-put a = record { tells = moved (λ n v. opened v a.asked) }
