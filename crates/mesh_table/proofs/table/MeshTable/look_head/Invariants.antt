use Rattle.table_words.specs.Places.{place_number}
use Rattle.mesh_table.specs.Rounds.{head_told}
use Rattle.mesh_table.proofs.table.MeshTable.look_head.Given as goal

abbrev pub ghosts-get : goal.ghosts-get
ghosts-get a = record { tells = head_told (place_number a.self.now.site.layout a.asked) }
