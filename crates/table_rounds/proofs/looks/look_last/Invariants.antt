use Rattle.table_rounds.specs.Versions.{last_told}
use Rattle.table_rounds.proofs.looks.look_last.Given as goal

abbrev pub ghosts-get : goal.ghosts-get
ghosts-get a = record { tells = last_told a.asked }
