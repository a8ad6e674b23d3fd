use Rattle.std.proofs.Common.{◌<◌, refl, subst, arith}
use Rattle.table_words.specs.Layout.{FreeCount, address, word_count}
use Rattle.table_words.proofs.WordPlaces.{words_within}
use Rattle.mesh_table.specs.Told.{free_told, Ask, no_ask}
use Rattle.mesh_table.proofs.Drawing.{looks_free}
use Rattle.mesh_table.proofs.table.MeshTable.look_free.Goals as goal

pub get-requires-clause-within : goal.get-requires-clause-within
get-requires-clause-within c =
    let l = c.args.self.now.site.layout in
    let within : address l FreeCount < word_count l = words_within l FreeCount tt in
    omega arith

pub get-requires-clause-allowed : goal.get-requires-clause-allowed
get-requires-clause-allowed c =
    let l = c.args.self.now.site.layout in
    let small = c.args.self.now.small in
    looks_free c.args.self.now.site _ _ _ (record no_ask { value = l.pool }) refl refl

pub returns-clause-few : goal.returns-clause-few
returns-clause-few c = c.get.ensures.told.3
