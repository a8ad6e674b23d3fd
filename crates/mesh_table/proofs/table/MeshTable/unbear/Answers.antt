use Rattle.std.proofs.Common.{◌<◌, arith}
use Rattle.table_words.specs.Layout.{OfBlock, Born, address, word_count}
use Rattle.table_words.specs.Places.{place_number}
use Rattle.table_words.proofs.WordPlaces.{words_within}
use Rattle.mesh_table.proofs.Unclaiming.{unbears}
use Rattle.mesh_table.proofs.table.MeshTable.unbear.Goals as goal

pub put-requires-clause-within : goal.put-requires-clause-within
put-requires-clause-within c =
    let l = c.args.self.now.site.layout in
    let inside : address l (OfBlock c.args.block Born) < word_count l = words_within l (OfBlock c.args.block Born) c.requires.block in
    let lies = c.born.ensures in
    omega arith

pub put-requires-clause-allowed : goal.put-requires-clause-allowed
put-requires-clause-allowed c =
    let l = c.args.self.now.site.layout in
    let small = c.args.self.now.small in
    unbears c.args.self.now.site _ _ (place_number l c.args.at) c.args.owner.now.me c.args.block c.born.ensures c.requires.block c.requires.may
