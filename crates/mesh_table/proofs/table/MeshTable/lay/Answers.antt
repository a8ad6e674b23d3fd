use Rattle.std.proofs.Common.{◌<◌, arith}
use Rattle.table_words.specs.Layout.{Row, address, word_count}
use Rattle.table_words.proofs.WordPlaces.{words_within}
use Rattle.mesh_table.proofs.Cutting.{lays}
use Rattle.mesh_table.proofs.table.MeshTable.lay.Goals as goal

pub put-requires-clause-within : goal.put-requires-clause-within
put-requires-clause-within c =
    let l = c.args.self.now.site.layout in
    let inside : address l (Row c.args.number) < word_count l = words_within l (Row c.args.number) c.requires.row in
    let lies = c.row.ensures in
    omega arith

pub put-requires-clause-allowed : goal.put-requires-clause-allowed
put-requires-clause-allowed c =
    let l = c.args.self.now.site.layout in
    let small = c.args.self.now.small in
    lays c.args.self.now.site _ _ c.args.owner.now.me c.args.number c.args.block _ c.from.ensures c.row.ensures c.requires.row c.requires.may
