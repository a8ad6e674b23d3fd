use Rattle.table_words.specs.Layout.{Seats}
use Rattle.table_words.proofs.WordPlaces.{words_within}
use Rattle.shared_rounds.proofs.Telling.{looks_claims}
use Rattle.shared_rounds.proofs.looks.look_claims.Goals as goal

pub get-requires-clause-within : goal.get-requires-clause-within
get-requires-clause-within c = words_within c.args.table.now.site.layout Seats tt

pub get-requires-clause-allowed : goal.get-requires-clause-allowed
get-requires-clause-allowed c = looks_claims c.args.table.now.site _ _ c.args.owner.now.me c.requires.rules c.requires.half c.requires.none
