use Rattle.std.proofs.Common.{◌<◌, arith}
use Rattle.table_words.specs.Layout.{OfBlock, Born, address, word_count}
use Rattle.table_words.specs.NameWords.{name_code}
use Rattle.table_words.specs.Places.{place_number}
use Rattle.table_words.proofs.WordPlaces.{words_within}
use Rattle.mesh_table.proofs.Reading.{reads_born}
use Rattle.mesh_table.proofs.table.MeshTable.read_born.Goals as goal

pub get-requires-clause-within : goal.get-requires-clause-within
get-requires-clause-within c =
    let l = c.args.self.now.site.layout in
    let within : address l (OfBlock c.args.block Born) < word_count l = words_within l (OfBlock c.args.block Born) c.requires.block in
    let word = c.born.ensures in
    omega arith

pub get-requires-clause-allowed : goal.get-requires-clause-allowed
get-requires-clause-allowed c =
    let l = c.args.self.now.site.layout in
    let small = c.args.self.now.small in
    let word = c.born.ensures in
    reads_born c.args.self.now.site _ _ c.args.seat.now.me c.args.block c.requires.block (place_number l c.args.at) (name_code c.args.name) c.args.round c.args.second c.requires.reads c.requires.pin c.requires.walk word
