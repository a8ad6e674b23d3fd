use Rattle.table_words.specs.Layout.{Seats}
use Rattle.table_words.proofs.WordPlaces.{words_within}
use Rattle.mesh_table.proofs.Telling.{looks_old}
use Rattle.mesh_table.proofs.table.MeshTable.look_told.Goals as goal

pub get-requires-clause-within : goal.get-requires-clause-within
get-requires-clause-within c =
    let l = c.args.self.now.site.layout in
    words_within l Seats tt

pub get-requires-clause-allowed : goal.get-requires-clause-allowed
get-requires-clause-allowed c = looks_old c.args.self.now.site _ _ c.args.seat.now.me c.requires.works

pub returns-clause-present : goal.returns-clause-present
returns-clause-present c = c.get.ensures.told.1

pub returns-clause-closed : goal.returns-clause-closed
returns-clause-closed c = c.get.ensures.told.2
