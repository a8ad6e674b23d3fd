use Rattle.std.proofs.Common.{◌<◌, arith}
use Rattle.table_words.specs.Layout.{OfBlock, HistoryOf, address, word_count}
use Rattle.table_words.specs.Places.{place_number}
use Rattle.table_words.proofs.WordPlaces.{words_within}
use Rattle.mesh_table.proofs.Cutting.{cuts_history}
use Rattle.mesh_table.proofs.table.MeshTable.cut_history.Goals as goal

pub put-requires-clause-within : goal.put-requires-clause-within
put-requires-clause-within c =
    let l = c.args.self.now.site.layout in
    let inside : address l (OfBlock c.args.holder (HistoryOf c.args.side)) < word_count l = words_within l (OfBlock c.args.holder (HistoryOf c.args.side)) c.requires.holder in
    let lies = c.history.ensures in
    omega arith

pub put-requires-clause-allowed : goal.put-requires-clause-allowed
put-requires-clause-allowed c =
    let l = c.args.self.now.site.layout in
    let small = c.args.self.now.small in
    cuts_history c.args.self.now.site _ _ c.args.owner.now.me c.args.holder c.args.side (place_number l c.args.at) c.args.block c.args.second c.args.word c.history.ensures c.requires.holder c.requires.may
