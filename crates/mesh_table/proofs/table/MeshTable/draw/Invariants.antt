use Rattle.mesh_table.specs.Told.{draws_told}
use Rattle.table_words.specs.Places.{place_number}
use Rattle.mesh_table.specs.Told.{no_ask}
use Rattle.mesh_table.proofs.table.MeshTable.draw.Given as goal

abbrev pub ghosts-count : goal.ghosts-count
ghosts-count a = record { tells = draws_told (record no_ask { place = place_number a.self.now.site.layout a.asked }) }
