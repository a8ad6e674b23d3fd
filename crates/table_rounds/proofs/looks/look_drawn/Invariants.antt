use Rattle.table_rounds.specs.Rows.{drawn_told}
use Rattle.table_rounds.proofs.looks.look_drawn.Given as goal

abbrev pub ghosts-get : goal.ghosts-get
ghosts-get a = record { tells = drawn_told a.self.now.site.layout.pool }
