use Rattle.std.proofs.Common.{◌<◌, sym, ap, ◌∙◌, arith}
use Rattle.table_words.specs.Layout.{LinkOf, OfBlock, Born, Died, NameOf, address, word_count}
use Rattle.table_words.specs.NameWords.{name_code}
use Rattle.table_words.specs.Places.{place_number}
use Rattle.table_words.proofs.PlaceNumbers.{places_numbered}
use Rattle.table_words.proofs.WordPlaces.{words_within}
use Rattle.mesh_table.proofs.Retiring.{retires}
use Rattle.mesh_table.proofs.table.MeshTable.retire_block.Goals as goal

pub set_bits-requires-clause-within : goal.set_bits-requires-clause-within
set_bits-requires-clause-within c =
    let l = c.args.self.now.site.layout in
    let inside : address l (OfBlock c.args.block Died) < word_count l = words_within l (OfBlock c.args.block Died) c.requires.block in
    let word = c.died.ensures in
    omega arith

pub set_bits-requires-clause-allowed : goal.set_bits-requires-clause-allowed
set_bits-requires-clause-allowed c =
    let l = c.args.self.now.site.layout in
    let word = c.died.ensures in
    retires c.args.self.now.site _ _ c.args.block c.args.seat.now.me (name_code c.args.first) c.requires.block word c.args.round c.requires.round.0 c.requires.round.1 c.requires.may
