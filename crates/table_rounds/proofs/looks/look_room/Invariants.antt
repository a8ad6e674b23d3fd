use Rattle.mesh_table.specs.Sights.{setup_at}
use Rattle.table_rounds.specs.Stocks.{room_told}
use Rattle.table_rounds.proofs.looks.look_room.Given as goal

abbrev pub ghosts-get : goal.ghosts-get
ghosts-get a = record { tells = room_told (setup_at a.self.now.site) a.self.now.site.layout.pool }
