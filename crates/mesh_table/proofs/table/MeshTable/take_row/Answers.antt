use Rattle.std.proofs.Common.{◌<◌, arith}
use Rattle.table_words.specs.Layout.{Row, address, word_count}
use Rattle.table_words.proofs.WordPlaces.{words_within}
use Rattle.mesh_table.proofs.Loading.{takes}
use Rattle.mesh_table.proofs.table.MeshTable.take_row.Goals as goal

pub get-requires-clause-within : goal.get-requires-clause-within
get-requires-clause-within c =
    let l = c.args.self.now.site.layout in
    let inside : address l (Row c.args.number) < word_count l = words_within l (Row c.args.number) c.requires.row in
    let lies = c.row.ensures in
    omega arith

pub get-requires-clause-allowed : goal.get-requires-clause-allowed
get-requires-clause-allowed c =
    let l = c.args.self.now.site.layout in
    let small = c.args.self.now.small in
    takes c.args.self.now.site _ _ c.args.owner.now.me c.requires.may.rules c.args.number c.row.ensures c.requires.row c.requires.may
