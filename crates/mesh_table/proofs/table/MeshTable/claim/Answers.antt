use Rattle.std.proofs.Common.{◌<◌, sym, ap, ◌∙◌, arith}
use Rattle.table_words.specs.Layout.{LinkOf, address, word_count}
use Rattle.table_words.specs.NameWords.{name_code}
use Rattle.table_words.specs.Places.{place_number}
use Rattle.table_words.proofs.PlaceNumbers.{places_numbered}
use Rattle.table_words.proofs.WordPlaces.{words_within}
use Rattle.mesh_table.specs.Told.{mate_number}
use Rattle.mesh_table.proofs.Losing.{claims}
use Rattle.mesh_table.proofs.table.MeshTable.claim.Goals as goal

pub set_bits-requires-clause-within : goal.set_bits-requires-clause-within
set_bits-requires-clause-within c =
    let l = c.args.self.now.site.layout in
    let within : address l (LinkOf c.args.at) < word_count l = words_within l (LinkOf c.args.at) c.requires.place in
    let word = c.link.ensures in
    omega arith

pub set_bits-requires-clause-allowed : goal.set_bits-requires-clause-allowed
set_bits-requires-clause-allowed c =
    let l = c.args.self.now.site.layout in
    let small = c.args.self.now.small in
    let p = (places_numbered l).0 c.args.at c.requires.place in
    let word = c.link.ensures in
    claims c.args.self.now.site _ _ (name_code c.args.name) (place_number l c.args.at) (mate_number l c.args.second) _ (word ∙ ap (λ at. address l (LinkOf at)) (sym p.1)) p.0 c.requires.may

pub returns-clause-won : goal.returns-clause-won
returns-clause-won c = c.set_bits.ensures.told.1

pub returns-clause-lost : goal.returns-clause-lost
returns-clause-lost c = c.set_bits.ensures.told.2
