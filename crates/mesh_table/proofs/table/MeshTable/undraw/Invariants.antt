use Rattle.mesh_table.specs.Told.{moved}
use Rattle.table_words.specs.Places.{place_number}
use Rattle.mesh_table.specs.Rounds.{undrawn}
use Rattle.mesh_table.proofs.table.MeshTable.undraw.Given as goal

abbrev pub ghosts-put : goal.ghosts-put
ghosts-put a = record { tells = moved (λ n v. undrawn v (place_number a.self.now.site.layout a.asked.0) a.asked.1) }
