use Rattle.mesh_table.specs.Told.{moved}
use Rattle.mesh_table.specs.Told.{unpinned}
use Rattle.mesh_table.proofs.table.MeshTable.unpin.Given as goal

abbrev pub ghosts-count : goal.ghosts-count
ghosts-count a = record { tells = moved (λ n v. unpinned v) }
