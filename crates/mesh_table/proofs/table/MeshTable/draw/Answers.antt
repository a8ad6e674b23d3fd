use Rattle.std.proofs.Common.{◌<◌, refl, arith}
use Rattle.table_words.specs.Layout.{Cursor, address, word_count}
use Rattle.table_words.specs.Places.{place_number}
use Rattle.table_words.proofs.WordPlaces.{words_within}
use Rattle.mesh_table.specs.Told.{no_ask}
use Rattle.mesh_table.proofs.Drawing.{draws}
use Rattle.mesh_table.proofs.table.MeshTable.draw.Goals as goal

pub count-requires-clause-within : goal.count-requires-clause-within
count-requires-clause-within c =
    let l = c.args.self.now.site.layout in
    let within : address l Cursor < word_count l = words_within l Cursor tt in
    omega arith

pub count-requires-clause-allowed : goal.count-requires-clause-allowed
count-requires-clause-allowed c =
    let l = c.args.self.now.site.layout in
    let small = c.args.self.now.small in
    draws c.args.self.now.site _ _ _ (record no_ask { place = place_number l c.args.at }) refl c.requires.works c.requires.claim (omega arith, omega arith)
