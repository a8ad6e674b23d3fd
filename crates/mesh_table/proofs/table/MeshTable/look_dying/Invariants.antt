use Rattle.table_words.specs.NameWords.{name_code}
use Rattle.mesh_table.specs.SecondHalf.{dying_told}
use Rattle.mesh_table.proofs.table.MeshTable.look_dying.Given as goal

abbrev pub ghosts-get : goal.ghosts-get
ghosts-get a = record { tells = dying_told a.asked.1 (name_code a.asked.0) }
