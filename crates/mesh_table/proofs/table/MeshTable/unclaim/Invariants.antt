use Rattle.mesh_table.specs.Told.{moved}
use Rattle.table_words.specs.Places.{place_number}
use Rattle.mesh_table.specs.Told.{mate_number}
use Rattle.mesh_table.specs.Rounds.{unclaimed}
use Rattle.mesh_table.proofs.table.MeshTable.unclaim.Given as goal

abbrev pub ghosts-put : goal.ghosts-put
ghosts-put a = record { tells = moved (λ n v. unclaimed v (place_number a.self.now.site.layout a.asked.0) (mate_number a.self.now.site.layout a.asked.1) a.asked.2) }
