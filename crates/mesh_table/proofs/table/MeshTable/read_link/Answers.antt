use Rattle.std.proofs.Common.{◌<◌, refl, sym, ap, ◌∙◌, arith}
use Rattle.table_words.specs.Layout.{LinkOf, address, word_count}
use Rattle.table_words.specs.NameWords.{name_code}
use Rattle.table_words.specs.Places.{place_number}
use Rattle.table_words.proofs.PlaceNumbers.{places_numbered}
use Rattle.table_words.proofs.WordPlaces.{words_within}
use Rattle.mesh_table.specs.Told.{no_ask}
use Rattle.mesh_table.proofs.Reading.{reads_link}
use Rattle.mesh_table.proofs.table.MeshTable.read_link.Goals as goal

pub get-requires-clause-within : goal.get-requires-clause-within
get-requires-clause-within c =
    let l = c.args.self.now.site.layout in
    let within : address l (LinkOf c.args.at) < word_count l = words_within l (LinkOf c.args.at) c.requires.place in
    let word = c.link.ensures in
    omega arith

pub get-requires-clause-allowed : goal.get-requires-clause-allowed
get-requires-clause-allowed c =
    let l = c.args.self.now.site.layout in
    let small = c.args.self.now.small in
    let p = (places_numbered l).0 c.args.at c.requires.place in
    let word = c.link.ensures in
    reads_link c.args.self.now.site _ _ c.args.seat.now.me (record no_ask { place = place_number l c.args.at; mate = name_code c.args.name; block = c.args.round; value = l.pool }) (word ∙ ap (λ at. address l (LinkOf at)) (sym p.1)) p.0 refl c.requires.may
