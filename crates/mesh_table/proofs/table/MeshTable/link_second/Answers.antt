use Rattle.std.proofs.Common.{◌<◌, sym, ap, ◌∙◌, arith}
use Rattle.table_words.specs.Layout.{LinkOf, address, word_count}
use Rattle.table_words.specs.Places.{place_number}
use Rattle.table_words.proofs.PlaceNumbers.{places_numbered}
use Rattle.table_words.proofs.WordPlaces.{words_within}
use Rattle.mesh_table.proofs.Linking.{links_second}
use Rattle.mesh_table.proofs.table.MeshTable.link_second.Goals as goal

pub put-requires-clause-within : goal.put-requires-clause-within
put-requires-clause-within c =
    let l = c.args.self.now.site.layout in
    let within : address l (LinkOf c.args.at) < word_count l = words_within l (LinkOf c.args.at) c.requires.place in
    let word = c.link.ensures in
    omega arith

pub put-requires-clause-allowed : goal.put-requires-clause-allowed
put-requires-clause-allowed c =
    let l = c.args.self.now.site.layout in
    let small = c.args.self.now.small in
    let p = (places_numbered l).0 c.args.at c.requires.place in
    let word = c.link.ensures in
    let spelled = c.spell.ensures in
    links_second c.args.self.now.site _ _ (place_number l c.args.first) (place_number l c.args.at) c.args.block _ _ (word ∙ ap (λ at. address l (LinkOf at)) (sym p.1)) p.0 (omega arith) c.requires.may spelled
