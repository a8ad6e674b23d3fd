use Rattle.table_words.specs.NameWords.{name_code}
use Rattle.mesh_table.specs.Sights.{setup_at}
use Rattle.mesh_table.specs.SecondHalf.{mate_told}
use Rattle.mesh_table.proofs.table.MeshTable.look_mate.Given as goal

abbrev pub ghosts-get : goal.ghosts-get
ghosts-get a = record { tells = mate_told (setup_at a.self.now.site) a.asked.1 (name_code a.asked.0) }
