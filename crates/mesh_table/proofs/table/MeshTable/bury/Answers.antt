use Rattle.std.proofs.Common.{◌<◌, arith}
use Rattle.table_words.specs.Layout.{OfBlock, Died, address, word_count}
use Rattle.table_words.proofs.WordPlaces.{words_within}
use Rattle.mesh_table.proofs.Unclaiming.{buries}
use Rattle.mesh_table.proofs.table.MeshTable.bury.Goals as goal

pub put-requires-clause-within : goal.put-requires-clause-within
put-requires-clause-within c =
    let l = c.args.self.now.site.layout in
    let inside : address l (OfBlock c.args.block Died) < word_count l = words_within l (OfBlock c.args.block Died) c.requires.block in
    let lies = c.died.ensures in
    omega arith

pub put-requires-clause-allowed : goal.put-requires-clause-allowed
put-requires-clause-allowed c =
    let l = c.args.self.now.site.layout in
    let small = c.args.self.now.small in
    buries c.args.self.now.site _ _ 0 c.args.owner.now.me c.args.block c.args.round _ c.from.ensures c.died.ensures c.requires.block c.requires.round c.requires.may
