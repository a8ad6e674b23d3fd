use Rattle.mesh_table.specs.Told.{moved}
use Rattle.table_words.specs.Places.{place_number}
use Rattle.mesh_table.specs.Told.{codes, published}
use Rattle.mesh_table.proofs.table.MeshTable.publish.Given as goal

abbrev pub ghosts-exchange : goal.ghosts-exchange
ghosts-exchange a = record { tells = moved (λ n v. published v (place_number a.self.now.site.layout a.asked.0) a.asked.3 (codes a.asked.1 a.asked.2)) }
