use Rattle.mesh_table.specs.Told.{moved}
use Rattle.table_words.specs.Places.{place_number}
use Rattle.table_words.specs.Words.{node_of}
use Rattle.mesh_table.specs.Told.{noted_head}
use Rattle.mesh_table.proofs.table.MeshTable.look_link.Given as goal

abbrev pub ghosts-get : goal.ghosts-get
ghosts-get a = record { tells = moved (λ n v. noted_head v (place_number a.self.now.site.layout a.asked) (node_of n)) }
