use Rattle.table_rounds.specs.Kinds.{blocks_told}
use Rattle.table_rounds.proofs.looks.look_blocks.Given as goal

abbrev pub ghosts-get : goal.ghosts-get
ghosts-get a = record { tells = blocks_told a.self.now.site.layout.elements }
