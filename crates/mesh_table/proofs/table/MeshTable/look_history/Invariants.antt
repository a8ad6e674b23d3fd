use Rattle.table_words.specs.Places.{member_of}
use Rattle.table_words.specs.Words.{node_of}
use Rattle.mesh_table.specs.Told.{moved, noted_history}
use Rattle.mesh_table.proofs.table.MeshTable.look_history.Given as goal

abbrev pub ghosts-get : goal.ghosts-get
ghosts-get a = record { tells = moved (λ n v. noted_history v (member_of a.asked.0 a.asked.1) (node_of n)) }
