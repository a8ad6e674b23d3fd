use Rattle.std.proofs.Common.{◌<◌, sym, ap, ◌∙◌, arith}
use Rattle.table_words.specs.Layout.{LinkOf, OfBlock, Born, Died, NameOf, address, word_count}
use Rattle.table_words.specs.NameWords.{name_code}
use Rattle.table_words.specs.Places.{place_number}
use Rattle.table_words.proofs.PlaceNumbers.{places_numbered}
use Rattle.table_words.proofs.WordPlaces.{words_within}
use Rattle.mesh_table.proofs.Standing.{looks_dying}
use Rattle.mesh_table.proofs.table.MeshTable.look_dying.Goals as goal

pub get-requires-clause-within : goal.get-requires-clause-within
get-requires-clause-within c =
    let l = c.args.self.now.site.layout in
    let inside : address l (OfBlock c.args.block Died) < word_count l = words_within l (OfBlock c.args.block Died) c.requires.block in
    let word = c.died.ensures in
    omega arith

pub get-requires-clause-allowed : goal.get-requires-clause-allowed
get-requires-clause-allowed c =
    let l = c.args.self.now.site.layout in
    let word = c.died.ensures in
    looks_dying c.args.self.now.site _ _ c.args.seat.now.me c.requires.works c.args.block c.requires.block (name_code c.args.name) c.requires.had word

pub returns-clause-undead : goal.returns-clause-undead
returns-clause-undead c = c.get.ensures.told.3
