use Rattle.std.proofs.Common.{◌<◌, arith}
use Rattle.table_words.specs.Layout.{OfBlock, Died, address, word_count}
use Rattle.table_words.proofs.WordPlaces.{words_within}
use Rattle.mesh_table.proofs.Filling.{fills_died}
use Rattle.mesh_table.proofs.table.MeshTable.fill_died.Goals as goal

pub put-requires-clause-within : goal.put-requires-clause-within
put-requires-clause-within c =
    let l = c.args.self.now.site.layout in
    let within : address l (OfBlock c.args.block Died) < word_count l = words_within l (OfBlock c.args.block Died) c.requires.block in
    let word = c.died.ensures in
    omega arith

pub put-requires-clause-allowed : goal.put-requires-clause-allowed
put-requires-clause-allowed c =
    let l = c.args.self.now.site.layout in
    let small = c.args.self.now.small in
    let word = c.died.ensures in
    fills_died c.args.self.now.site _ _ c.args.block c.requires.block _ word c.requires.may
