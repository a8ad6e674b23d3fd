use Rattle.std.proofs.Common.{◌<◌, refl, subst, arith}
use Rattle.table_words.specs.Layout.{OfBlock, HistoryOf, address, word_count}
use Rattle.table_words.specs.NameWords.{name_code}
use Rattle.table_words.specs.Places.{place_number}
use Rattle.table_words.proofs.WordPlaces.{words_within}
use Rattle.mesh_table.specs.Told.{on_told, Ask, no_ask}
use Rattle.mesh_table.proofs.Reading.{reads_on}
use Rattle.mesh_table.proofs.table.MeshTable.read_history.Goals as goal

pub get-requires-clause-within : goal.get-requires-clause-within
get-requires-clause-within c =
    let l = c.args.self.now.site.layout in
    let within : address l (OfBlock c.args.block (HistoryOf c.args.second)) < word_count l = words_within l (OfBlock c.args.block (HistoryOf c.args.second)) c.requires.block in
    let word = c.history.ensures in
    omega arith

pub get-requires-clause-allowed : goal.get-requires-clause-allowed
get-requires-clause-allowed c =
    let l = c.args.self.now.site.layout in
    let small = c.args.self.now.small in
    let word = c.history.ensures in
    reads_on c.args.self.now.site _ _ c.args.seat.now.me c.args.block c.requires.block (place_number l c.args.at) (name_code c.args.name) c.args.round c.args.second c.requires.reads c.requires.pin (record no_ask { place = place_number l c.args.at; mate = name_code c.args.name; block = c.args.round; value = l.pool }) refl refl refl refl c.requires.walk word

pub returns-clause-falls : goal.returns-clause-falls
returns-clause-falls c = c.get.ensures.told.2
