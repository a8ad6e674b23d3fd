use Rattle.std.proofs.Common.{map}
use Rattle.table_words.specs.NameWords.{name_code}
use Rattle.mesh_table.specs.Told.{moved}
use Rattle.mesh_table.specs.Rounds.{planned}
use Rattle.mesh_table.proofs.table.MeshTable.plan.Given as goal

abbrev pub ghosts-get : goal.ghosts-get
ghosts-get a = record { tells = moved (λ n v. planned v (map name_code a.asked.now)) }
