use Rattle.std.proofs.Common.{◌<◌, sym, ap, ◌∙◌, arith}
use Rattle.table_words.specs.Layout.{LinkOf, OfBlock, Born, Died, NameOf, address, word_count}
use Rattle.table_words.specs.NameWords.{name_code}
use Rattle.table_words.specs.Places.{place_number}
use Rattle.table_words.proofs.PlaceNumbers.{places_numbered}
use Rattle.table_words.proofs.WordPlaces.{words_within}
use Rattle.mesh_table.proofs.Standing.{looks_late}
use Rattle.mesh_table.proofs.table.MeshTable.walk_late.Goals as goal

pub get-requires-clause-within : goal.get-requires-clause-within
get-requires-clause-within c =
    let l = c.args.self.now.site.layout in
    let inside : address l (OfBlock c.args.block Born) < word_count l = words_within l (OfBlock c.args.block Born) c.requires.block in
    let word = c.born.ensures in
    omega arith

pub get-requires-clause-allowed : goal.get-requires-clause-allowed
get-requires-clause-allowed c =
    let l = c.args.self.now.site.layout in
    let word = c.born.ensures in
    looks_late c.args.self.now.site _ _ c.args.seat.now.me c.requires.works c.args.block c.requires.block (place_number l c.args.at) (name_code c.args.name) c.args.second c.requires.walk word
