use Rattle.mesh_table.specs.Told.{moved}
use Rattle.table_words.specs.Places.{place_number}
use Rattle.table_words.specs.Words.{node_of}
use Rattle.mesh_table.specs.Told.{mate_number}
use Rattle.mesh_table.specs.Rounds.{unlinked_first}
use Rattle.mesh_table.proofs.table.MeshTable.unlink_first.Given as goal

abbrev pub ghosts-put : goal.ghosts-put
ghosts-put a = record { tells = moved (λ n v. unlinked_first v (place_number a.self.now.site.layout a.asked.0) (mate_number a.self.now.site.layout a.asked.1) a.asked.2 (node_of a.asked.3)) }
