use Rattle.table_words.specs.NameWords.{name_code}
use Rattle.mesh_table.specs.SecondHalf.{opened}
use Rattle.mesh_table.specs.Told.{moved}
use Rattle.mesh_table.proofs.table.MeshTable.look_leaf.Given as goal

abbrev pub ghosts-get : goal.ghosts-get
ghosts-get a = record { tells = moved (λ n v. opened (name_code a.asked) v) }
