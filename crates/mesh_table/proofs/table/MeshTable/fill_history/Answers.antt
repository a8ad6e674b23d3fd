use Rattle.std.proofs.Common.{◌<◌, arith}
use Rattle.table_words.specs.Layout.{OfBlock, HistoryOf, address, word_count}
use Rattle.table_words.proofs.WordPlaces.{words_within}
use Rattle.mesh_table.proofs.Filling.{fills_history}
use Rattle.mesh_table.proofs.table.MeshTable.fill_history.Goals as goal

pub put-requires-clause-within : goal.put-requires-clause-within
put-requires-clause-within c =
    let l = c.args.self.now.site.layout in
    let within : address l (OfBlock c.args.block (HistoryOf c.args.second)) < word_count l = words_within l (OfBlock c.args.block (HistoryOf c.args.second)) c.requires.block in
    let word = c.history.ensures in
    omega arith

pub put-requires-clause-allowed : goal.put-requires-clause-allowed
put-requires-clause-allowed c =
    let l = c.args.self.now.site.layout in
    let small = c.args.self.now.small in
    let word = c.history.ensures in
    let spelled = c.spell.ensures in
    fills_history c.args.self.now.site _ _ c.args.block c.requires.block c.args.second _ c.args.link _ word c.requires.may c.requires.link spelled
