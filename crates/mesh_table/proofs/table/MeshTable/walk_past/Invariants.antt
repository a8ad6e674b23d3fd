use Rattle.mesh_table.specs.Told.{moved}
use Rattle.table_words.specs.NameWords.{name_code}
use Rattle.mesh_table.specs.Told.{ended_walk}
use Rattle.mesh_table.proofs.table.MeshTable.walk_past.Given as goal

abbrev pub ghosts-get : goal.ghosts-get
ghosts-get a = record { tells = moved (λ n v. ended_walk v (name_code a.asked)) }
