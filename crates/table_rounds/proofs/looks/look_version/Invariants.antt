use Rattle.table_words.specs.Places.{place_number}
use Rattle.table_rounds.specs.Versions.{version_told}
use Rattle.table_rounds.proofs.looks.look_version.Given as goal

abbrev pub ghosts-get : goal.ghosts-get
ghosts-get a = record { tells = version_told a.self.now.site.layout.pool (place_number a.self.now.site.layout a.asked) }
