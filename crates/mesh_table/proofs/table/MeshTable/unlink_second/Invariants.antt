use Rattle.mesh_table.specs.Told.{moved}
use Rattle.table_words.specs.Places.{place_number}
use Rattle.table_words.specs.Words.{node_of}
use Rattle.mesh_table.specs.Rounds.{unlinked_second}
use Rattle.mesh_table.proofs.table.MeshTable.unlink_second.Given as goal

abbrev pub ghosts-put : goal.ghosts-put
ghosts-put a = record { tells = moved (λ n v. unlinked_second v (place_number a.self.now.site.layout a.asked.0) (place_number a.self.now.site.layout a.asked.1) a.asked.2 (node_of a.asked.3)) }
