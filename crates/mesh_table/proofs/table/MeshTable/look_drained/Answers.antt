use Rattle.std.proofs.Common.{◌<◌, arith}
use Rattle.table_words.specs.Layout.{Released, address, word_count}
use Rattle.table_words.proofs.WordPlaces.{words_within}
use Rattle.mesh_table.proofs.Loading.{clears}
use Rattle.mesh_table.proofs.table.MeshTable.look_drained.Goals as goal

pub get-requires-clause-within : goal.get-requires-clause-within
get-requires-clause-within c =
    let l = c.args.self.now.site.layout in
    let inside : address l (Released c.args.round) < word_count l = words_within l (Released c.args.round) c.requires.round in
    let lies = c.released.ensures in
    omega arith

pub get-requires-clause-allowed : goal.get-requires-clause-allowed
get-requires-clause-allowed c =
    let l = c.args.self.now.site.layout in
    let small = c.args.self.now.small in
    clears c.args.self.now.site _ _ c.args.owner.now.me c.requires.rules c.args.round c.args.pins c.released.ensures (let e = c.requires.round in omega arith) c.requires.left
