use Rattle.mesh_table.specs.Sights.{setup_at}
use Rattle.shared_rounds.specs.Claims.{claims_told}
use Rattle.shared_rounds.proofs.looks.look_claims.Given as goal

abbrev pub ghosts-get : goal.ghosts-get
ghosts-get a = record { tells = claims_told (setup_at a.self.now.site) }
