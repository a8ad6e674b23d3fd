use Rattle.table_words.specs.NameWords.{name_code}
use Rattle.mesh_table.specs.Sights.{setup_at}
use Rattle.mesh_table.specs.SecondHalf.{retiring}
use Rattle.mesh_table.specs.Told.{moved}
use Rattle.mesh_table.proofs.table.MeshTable.retire_block.Given as goal

abbrev pub ghosts-set_bits : goal.ghosts-set_bits
ghosts-set_bits a = record { tells = moved (λ n v. retiring (setup_at a.self.now.site) a.asked.1 (name_code a.asked.0) n v) }
