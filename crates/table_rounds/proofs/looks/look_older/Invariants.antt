use Rattle.table_words.specs.Places.{place_number}
use Rattle.table_rounds.specs.Versions.{older_told}
use Rattle.table_rounds.proofs.looks.look_older.Given as goal

abbrev pub ghosts-get : goal.ghosts-get
ghosts-get a = record { tells = older_told a.self.now.site.layout.pool a.asked.0 a.asked.1 (place_number a.self.now.site.layout a.asked.2) }
