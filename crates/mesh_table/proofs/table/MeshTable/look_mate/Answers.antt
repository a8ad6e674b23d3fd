use Rattle.std.proofs.Common.{◌<◌, sym, ap, ◌∙◌, arith}
use Rattle.table_words.specs.Layout.{LinkOf, OfBlock, Born, Died, NameOf, address, word_count}
use Rattle.table_words.specs.NameWords.{name_code}
use Rattle.table_words.specs.Places.{place_number}
use Rattle.table_words.proofs.PlaceNumbers.{places_numbered}
use Rattle.std.proofs.Common.{true}
use Rattle.table_words.proofs.WordPlaces.{words_within}
use Rattle.mesh_table.proofs.Standing.{looks_mate}
use Rattle.mesh_table.proofs.table.MeshTable.look_mate.Goals as goal

pub get-requires-clause-within : goal.get-requires-clause-within
get-requires-clause-within c =
    let l = c.args.self.now.site.layout in
    let inside : address l (OfBlock c.args.block (NameOf true)) < word_count l = words_within l (OfBlock c.args.block (NameOf true)) c.requires.block in
    let word = c.name.ensures in
    omega arith

pub get-requires-clause-allowed : goal.get-requires-clause-allowed
get-requires-clause-allowed c =
    let l = c.args.self.now.site.layout in
    let word = c.name.ensures in
    looks_mate c.args.self.now.site _ _ c.args.seat.now.me c.requires.works c.args.block c.requires.block (name_code c.args.first) c.requires.leads c.requires.had word
