use Rattle.std.proofs.Common.{◌<◌, arith}
use Rattle.table_words.specs.Layout.{OfBlock, HistoryOf, address, word_count}
use Rattle.table_words.proofs.WordPlaces.{words_within}
use Rattle.mesh_table.proofs.Loading.{looks_history}
use Rattle.mesh_table.proofs.table.MeshTable.look_history.Goals as goal

pub get-requires-clause-within : goal.get-requires-clause-within
get-requires-clause-within c =
    let l = c.args.self.now.site.layout in
    let inside : address l (OfBlock c.args.block (HistoryOf c.args.second)) < word_count l = words_within l (OfBlock c.args.block (HistoryOf c.args.second)) c.requires.block in
    let lies = c.history.ensures in
    omega arith

pub get-requires-clause-allowed : goal.get-requires-clause-allowed
get-requires-clause-allowed c =
    let l = c.args.self.now.site.layout in
    let small = c.args.self.now.small in
    looks_history c.args.self.now.site _ _ c.args.owner.now.me c.requires.rules c.args.block c.args.second c.history.ensures c.requires.block
