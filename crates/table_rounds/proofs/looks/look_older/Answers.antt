use Rattle.std.proofs.Common.{◌≡◌, ◌<◌, ap, ◌∙◌, arith}
use Rattle.table_words.specs.declared.layout.Layout.{Layout}
use Rattle.table_words.specs.Layout.{OfBlock, HistoryOf, address, word_count}
use Rattle.table_words.specs.Places.{place_number}
use Rattle.table_words.proofs.WordPlaces.{words_within}
use Rattle.table_rounds.proofs.Versions.{looks_older}
use Rattle.table_rounds.proofs.looks.look_older.Goals as goal

pub get-requires-clause-within : goal.get-requires-clause-within
get-requires-clause-within c =
    let l = c.args.table.now.site.layout in
    let inside : address l (OfBlock c.args.block (HistoryOf c.args.second)) < word_count l = words_within l (OfBlock c.args.block (HistoryOf c.args.second)) c.requires.block in
    let lies : c.history.result ≡ address l (OfBlock c.args.block (HistoryOf c.args.second)) = c.history.ensures ∙ ap (λ (y : Layout). address y (OfBlock c.args.block (HistoryOf c.args.second))) c.layout.ensures in
    omega arith

pub get-requires-clause-allowed : goal.get-requires-clause-allowed
get-requires-clause-allowed c =
    let l = c.args.table.now.site.layout in
    looks_older c.args.table.now.site _ _ c.args.owner.now.me c.requires.rules c.args.block c.args.second (place_number l c.args.at) (c.history.ensures ∙ ap (λ (y : Layout). address y (OfBlock c.args.block (HistoryOf c.args.second))) c.layout.ensures) c.requires.block c.requires.rests c.requires.stands
