use Rattle.std.proofs.Common.{◌<◌, refl, subst, arith}
use Rattle.table_words.specs.Layout.{Row, address, word_count}
use Rattle.table_words.proofs.WordPlaces.{words_within}
use Rattle.mesh_table.specs.Told.{row_told, Ask, no_ask}
use Rattle.mesh_table.proofs.Drawing.{looks_row}
use Rattle.mesh_table.proofs.table.MeshTable.look_row.Goals as goal

pub get-requires-clause-within : goal.get-requires-clause-within
get-requires-clause-within c =
    let l = c.args.self.now.site.layout in
    let within : address l (Row c.args.number) < word_count l = words_within l (Row c.args.number) c.requires.row in
    let word = c.row.ensures in
    omega arith

pub get-requires-clause-allowed : goal.get-requires-clause-allowed
get-requires-clause-allowed c =
    let l = c.args.self.now.site.layout in
    let small = c.args.self.now.small in
    let word = c.row.ensures in
    looks_row c.args.self.now.site _ _ _ (record no_ask { place = c.args.number; value = l.pool }) word c.requires.row refl

pub returns-clause-told : goal.returns-clause-told
returns-clause-told c = c.get.ensures.told.1
