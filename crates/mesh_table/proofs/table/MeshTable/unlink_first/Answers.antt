use Rattle.std.proofs.Common.{◌<◌, refl, sym, ap, ◌∙◌, arith}
use Rattle.table_words.specs.Layout.{LinkOf, address, word_count}
use Rattle.table_words.specs.Places.{place_number}
use Rattle.table_words.proofs.PlaceNumbers.{places_numbered}
use Rattle.table_words.proofs.WordPlaces.{words_within}
use Rattle.mesh_table.specs.Told.{mate_number}
use Rattle.mesh_table.proofs.Unclaiming.{unlinks_first}
use Rattle.mesh_table.proofs.table.MeshTable.unlink_first.Goals as goal

pub put-requires-clause-within : goal.put-requires-clause-within
put-requires-clause-within c =
    let l = c.args.self.now.site.layout in
    let inside : address l (LinkOf c.args.at) < word_count l = words_within l (LinkOf c.args.at) c.requires.place in
    let lies = c.link.ensures in
    omega arith

pub put-requires-clause-allowed : goal.put-requires-clause-allowed
put-requires-clause-allowed c =
    let l = c.args.self.now.site.layout in
    let small = c.args.self.now.small in
    let p = (places_numbered l).0 c.args.at c.requires.place in
    let link = c.link.ensures in
    unlinks_first c.args.self.now.site _ _ (place_number l c.args.at) c.args.owner.now.me (mate_number l c.args.second) c.args.block c.args.word _ (link ∙ ap (λ z. address l (LinkOf z)) (sym p.1)) p.0 c.requires.may refl
