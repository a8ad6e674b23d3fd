use Rattle.std.proofs.Common.{sym}
use Rattle.table_words.specs.Layout.{Seats}
use Rattle.table_words.proofs.WordPlaces.{words_within}
use Rattle.mesh_table.proofs.Aiming.{begins_for}
use Rattle.mesh_table.proofs.table.MeshTable.begin_for.Goals as goal

pub get-requires-clause-within : goal.get-requires-clause-within
get-requires-clause-within c =
    let l = c.args.self.now.site.layout in
    words_within l Seats tt

pub get-requires-clause-allowed : goal.get-requires-clause-allowed
get-requires-clause-allowed c = begins_for c.args.self.now.site c.element_count-count.ensures.tells _ _ c.args.owner.now.me c.args.needs.now c.requires.may
