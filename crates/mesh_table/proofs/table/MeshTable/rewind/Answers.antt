use Rattle.std.proofs.Common.{refl}
use Rattle.table_words.specs.Layout.{Cursor}
use Rattle.table_words.proofs.WordPlaces.{words_within}
use Rattle.mesh_table.proofs.Cutting.{rewinds}
use Rattle.mesh_table.proofs.table.MeshTable.rewind.Goals as goal

pub put-requires-clause-within : goal.put-requires-clause-within
put-requires-clause-within c =
    let l = c.args.self.now.site.layout in
    words_within l Cursor tt

pub put-requires-clause-allowed : goal.put-requires-clause-allowed
put-requires-clause-allowed c =
    let l = c.args.self.now.site.layout in
    let small = c.args.self.now.small in
    rewinds c.args.self.now.site _ _ c.args.owner.now.me refl c.requires.may
