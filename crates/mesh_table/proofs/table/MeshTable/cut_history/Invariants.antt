use Rattle.mesh_table.specs.Told.{moved}
use Rattle.table_words.specs.Places.{member_of}
use Rattle.table_words.specs.Words.{node_of}
use Rattle.mesh_table.specs.Told.{noted_history}
use Rattle.mesh_table.proofs.table.MeshTable.cut_history.Given as goal

abbrev pub ghosts-put : goal.ghosts-put
ghosts-put a = record { tells = moved (λ n v. noted_history v (member_of a.asked.0 a.asked.1) (node_of a.asked.5)) }
