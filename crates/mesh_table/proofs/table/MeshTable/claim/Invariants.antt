use Rattle.table_words.specs.NameWords.{name_code}
use Rattle.table_words.specs.Places.{place_number}
use Rattle.mesh_table.specs.Sights.{setup_at}
use Rattle.mesh_table.specs.Told.{claim_told, mate_number}
use Rattle.mesh_table.proofs.table.MeshTable.claim.Given as goal

abbrev pub ghosts-set_bits : goal.ghosts-set_bits
ghosts-set_bits a = record { tells = claim_told (setup_at a.self.now.site) (place_number a.self.now.site.layout a.asked.0) (mate_number a.self.now.site.layout a.asked.1) (name_code a.asked.2) }
