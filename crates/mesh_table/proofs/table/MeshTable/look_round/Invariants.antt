use Rattle.mesh_table.specs.Told.{moved}
use Rattle.mesh_table.specs.Told.{seen_round}
use Rattle.mesh_table.proofs.table.MeshTable.look_round.Given as goal

abbrev pub ghosts-get : goal.ghosts-get
ghosts-get a = record { tells = moved (λ n v. seen_round v n) }
