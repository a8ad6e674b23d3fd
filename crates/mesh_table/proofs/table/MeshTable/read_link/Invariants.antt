use Rattle.mesh_table.specs.Told.{read_told}
use Rattle.table_words.specs.NameWords.{name_code}
use Rattle.table_words.specs.Places.{place_number}
use Rattle.mesh_table.specs.Told.{no_ask}
use Rattle.mesh_table.proofs.table.MeshTable.read_link.Given as goal

abbrev pub ghosts-get : goal.ghosts-get
ghosts-get a = record { tells = read_told (record no_ask { place = place_number a.self.now.site.layout a.asked.0; mate = name_code a.asked.1; block = a.asked.2; value = a.self.now.site.layout.pool }) }
