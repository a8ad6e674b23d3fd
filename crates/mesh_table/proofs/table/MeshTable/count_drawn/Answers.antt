use Rattle.std.proofs.Common.{refl}
use Rattle.table_words.specs.Layout.{Cursor}
use Rattle.table_words.proofs.WordPlaces.{words_within}
use Rattle.mesh_table.proofs.Loading.{counts_cursor}
use Rattle.mesh_table.proofs.table.MeshTable.count_drawn.Goals as goal

pub get-requires-clause-within : goal.get-requires-clause-within
get-requires-clause-within c =
    let l = c.args.self.now.site.layout in
    words_within l Cursor tt

pub get-requires-clause-allowed : goal.get-requires-clause-allowed
get-requires-clause-allowed c =
    let l = c.args.self.now.site.layout in
    let small = c.args.self.now.small in
    counts_cursor c.args.self.now.site _ _ c.args.owner.now.me c.requires.rules refl c.requires.half
