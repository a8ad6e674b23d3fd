use Rattle.mesh_table.specs.Told.{moved}
use Rattle.table_words.specs.Places.{place_number}
use Rattle.mesh_table.specs.Told.{come}
use Rattle.table_words.specs.Claims.{Whole}
use Rattle.mesh_table.proofs.table.MeshTable.link_second.Given as goal

abbrev pub ghosts-put : goal.ghosts-put
ghosts-put a = record { tells = moved (λ n v. come v (place_number a.self.now.site.layout a.asked.0) (Whole a.asked.1)) }
