use Rattle.std.proofs.Common.{◌<◌, arith}
use Rattle.table_words.specs.Layout.{OfBlock, Died, address, word_count}
use Rattle.table_words.proofs.WordPlaces.{words_within}
use Rattle.mesh_table.proofs.Loading.{looks_died}
use Rattle.mesh_table.proofs.table.MeshTable.look_died.Goals as goal

pub get-requires-clause-within : goal.get-requires-clause-within
get-requires-clause-within c =
    let l = c.args.self.now.site.layout in
    let inside : address l (OfBlock c.args.block Died) < word_count l = words_within l (OfBlock c.args.block Died) c.requires.block in
    let lies = c.died.ensures in
    omega arith

pub get-requires-clause-allowed : goal.get-requires-clause-allowed
get-requires-clause-allowed c =
    let l = c.args.self.now.site.layout in
    let small = c.args.self.now.small in
    looks_died c.args.self.now.site _ _ c.args.owner.now.me c.requires.rules c.args.block c.died.ensures c.requires.block
