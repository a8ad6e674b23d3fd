use Rattle.std.proofs.Common.{◌<◌, sym, ap, ◌∙◌, arith}
use Rattle.table_words.specs.Layout.{LinkOf, OfBlock, Born, Died, NameOf, address, word_count}
use Rattle.table_words.specs.NameWords.{name_code}
use Rattle.table_words.specs.Places.{place_number}
use Rattle.table_words.proofs.PlaceNumbers.{places_numbered}
use Rattle.table_words.proofs.WordPlaces.{words_within}
use Rattle.mesh_table.proofs.Standing.{opens_child}
use Rattle.mesh_table.proofs.table.MeshTable.look_leaf.Goals as goal

pub get-requires-clause-within : goal.get-requires-clause-within
get-requires-clause-within c =
    let l = c.args.self.now.site.layout in
    let inside : address l (LinkOf c.args.at) < word_count l = words_within l (LinkOf c.args.at) c.requires.place in
    let word = c.link.ensures in
    omega arith

pub get-requires-clause-allowed : goal.get-requires-clause-allowed
get-requires-clause-allowed c =
    let l = c.args.self.now.site.layout in
    let word = c.link.ensures in
    opens_child c.args.self.now.site _ _ c.args.seat.now.me c.requires.may.works (place_number l c.args.at) (name_code c.args.name) c.requires.may
