use Rattle.std.proofs.Common.{map}
use Rattle.table_words.specs.Layout.{Seats}
use Rattle.table_words.specs.NameWords.{name_code}
use Rattle.table_words.proofs.WordPlaces.{words_within}
use Rattle.mesh_table.proofs.Phasing.{plans}
use Rattle.mesh_table.proofs.table.MeshTable.plan.Goals as goal

pub get-requires-clause-within : goal.get-requires-clause-within
get-requires-clause-within c =
    let l = c.args.self.now.site.layout in
    words_within l Seats tt

pub get-requires-clause-allowed : goal.get-requires-clause-allowed
get-requires-clause-allowed c =
    let l = c.args.self.now.site.layout in
    let small = c.args.self.now.small in
    plans c.args.self.now.site _ _ c.args.owner.now.me (map name_code c.args.retire.now) c.requires.may
