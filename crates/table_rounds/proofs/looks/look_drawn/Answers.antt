use Rattle.table_words.specs.Layout.{Cursor}
use Rattle.table_words.proofs.WordPlaces.{words_within}
use Rattle.std.proofs.Common.{refl}
use Rattle.table_rounds.proofs.Room.{looks_drawn}
use Rattle.table_rounds.proofs.looks.look_drawn.Goals as goal

pub get-requires-clause-within : goal.get-requires-clause-within
get-requires-clause-within c = words_within c.args.table.now.site.layout Cursor tt

pub get-requires-clause-allowed : goal.get-requires-clause-allowed
get-requires-clause-allowed c = looks_drawn c.args.table.now.site _ _ c.args.owner.now.me c.requires.rules refl c.requires.half
