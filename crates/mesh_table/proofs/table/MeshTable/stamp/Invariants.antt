use Rattle.mesh_table.specs.Told.{moved}
use Rattle.std.proofs.Common.{◌+◌}
use Rattle.table_words.specs.Places.{place_number}
use Rattle.table_words.specs.Words.{node}
use Rattle.mesh_table.specs.Told.{noted_head}
use Rattle.mesh_table.proofs.table.MeshTable.stamp.Given as goal

abbrev pub ghosts-put : goal.ghosts-put
ghosts-put a = record { tells = moved (λ n v. noted_head v (place_number a.self.now.site.layout a.asked.0) (node (a.asked.1 + 1) a.asked.2)) }
