use Rattle.std.proofs.Common.{◌<◌, arith}
use Rattle.table_words.specs.Layout.{Released, address, word_count}
use Rattle.table_words.proofs.WordPlaces.{words_within}
use Rattle.mesh_table.proofs.Pinning.{unpins}
use Rattle.mesh_table.proofs.table.MeshTable.unpin.Goals as goal

pub count-requires-clause-within : goal.count-requires-clause-within
count-requires-clause-within c =
    let l = c.args.self.now.site.layout in
    let within : address l (Released c.args.round) < word_count l = words_within l (Released c.args.round) c.requires.round in
    let word = c.released.ensures in
    omega arith

pub count-requires-clause-allowed : goal.count-requires-clause-allowed
count-requires-clause-allowed c =
    let l = c.args.self.now.site.layout in
    let small = c.args.self.now.small in
    let word = c.released.ensures in
    unpins c.args.self.now.site _ _ c.args.seat.now.me c.args.round word c.requires.round c.requires.reads c.requires.pin (omega arith)
