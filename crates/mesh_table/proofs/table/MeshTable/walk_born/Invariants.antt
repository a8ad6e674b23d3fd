use Rattle.mesh_table.specs.Told.{born_told}
use Rattle.table_words.specs.NameWords.{name_code}
use Rattle.table_words.specs.Places.{place_number}
use Rattle.mesh_table.specs.Sights.{setup_at}
use Rattle.mesh_table.specs.Told.{born_told}
use Rattle.mesh_table.proofs.table.MeshTable.walk_born.Given as goal

abbrev pub ghosts-get : goal.ghosts-get
ghosts-get a = record { tells = born_told (setup_at a.self.now.site) (place_number a.self.now.site.layout a.asked.0) (name_code a.asked.1) a.asked.2 a.asked.3 }
