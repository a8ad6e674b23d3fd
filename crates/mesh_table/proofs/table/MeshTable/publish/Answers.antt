use Rattle.std.proofs.Common.{◌<◌, arith}
use Rattle.table_words.specs.Layout.{OfBlock, Born, address, word_count}
use Rattle.table_words.specs.Places.{place_number}
use Rattle.table_words.proofs.WordPlaces.{words_within}
use Rattle.mesh_table.specs.Told.{mate_number, codes}
use Rattle.mesh_table.proofs.Linking.{publishes}
use Rattle.mesh_table.proofs.table.MeshTable.publish.Goals as goal

pub exchange-requires-clause-within : goal.exchange-requires-clause-within
exchange-requires-clause-within c =
    let l = c.args.self.now.site.layout in
    let within : address l (OfBlock c.args.block Born) < word_count l = words_within l (OfBlock c.args.block Born) c.requires.block in
    let word = c.born.ensures in
    omega arith

pub exchange-requires-clause-allowed : goal.exchange-requires-clause-allowed
exchange-requires-clause-allowed c =
    let l = c.args.self.now.site.layout in
    let small = c.args.self.now.small in
    let word = c.born.ensures in
    publishes c.args.self.now.site _ _ (place_number l c.args.at) (mate_number l c.args.second) c.args.block c.args.seat.now.me (codes c.args.name c.args.partner) _ word c.requires.block c.requires.round c.requires.may
