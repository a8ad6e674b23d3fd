use Rattle.std.proofs.Common.{◌≡◌, ◌<◌, sym, ap, ◌∙◌, arith}
use Rattle.table_words.specs.declared.layout.Layout.{Layout}
use Rattle.table_words.specs.Layout.{LinkOf, address, word_count}
use Rattle.table_words.specs.Places.{place_number}
use Rattle.table_words.proofs.PlaceNumbers.{places_numbered}
use Rattle.table_words.proofs.WordPlaces.{words_within}
use Rattle.table_rounds.proofs.Versions.{looks_version}
use Rattle.table_rounds.proofs.looks.look_version.Goals as goal

pub get-requires-clause-within : goal.get-requires-clause-within
get-requires-clause-within c =
    let l = c.args.table.now.site.layout in
    let inside : address l (LinkOf c.args.at) < word_count l = words_within l (LinkOf c.args.at) c.requires.place in
    let lies : c.link.result ≡ address l (LinkOf c.args.at) = c.link.ensures ∙ ap (λ (y : Layout). address y (LinkOf c.args.at)) c.layout.ensures in
    omega arith

pub get-requires-clause-allowed : goal.get-requires-clause-allowed
get-requires-clause-allowed c =
    let l = c.args.table.now.site.layout in
    let small = c.args.table.now.small in
    let p = (places_numbered l).0 c.args.at c.requires.place in
    let link = c.link.ensures ∙ ap (λ (y : Layout). address y (LinkOf c.args.at)) c.layout.ensures in
    looks_version c.args.table.now.site _ _ c.args.owner.now.me c.requires.rules (place_number l c.args.at) (link ∙ ap (λ z. address l (LinkOf z)) (sym p.1)) p.0 c.requires.rests c.requires.rooted
