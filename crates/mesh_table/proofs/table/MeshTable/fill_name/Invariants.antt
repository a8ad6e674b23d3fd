use Rattle.mesh_table.specs.Told.{moved}
use Rattle.table_words.specs.Places.{member_of}
use Rattle.mesh_table.specs.Told.{noted_name}
use Rattle.mesh_table.proofs.table.MeshTable.fill_name.Given as goal

abbrev pub ghosts-put : goal.ghosts-put
ghosts-put a = record { tells = moved (λ n v. noted_name v (member_of a.asked.0 a.asked.1) a.word) }
