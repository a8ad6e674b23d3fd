use Rattle.std.proofs.Common.{◌<◌, refl, subst, arith}
use Rattle.table_words.specs.Layout.{OfBlock, NameOf, address, word_count}
use Rattle.table_words.proofs.WordPlaces.{words_within}
use Rattle.mesh_table.specs.Told.{name_told, Ask, no_ask}
use Rattle.mesh_table.proofs.Walking.{looks_name}
use Rattle.mesh_table.proofs.table.MeshTable.walk_name.Goals as goal

pub get-requires-clause-within : goal.get-requires-clause-within
get-requires-clause-within c =
    let l = c.args.self.now.site.layout in
    let within : address l (OfBlock c.args.block (NameOf c.args.second)) < word_count l = words_within l (OfBlock c.args.block (NameOf c.args.second)) c.requires.block in
    let word = c.name.ensures in
    omega arith

pub get-requires-clause-allowed : goal.get-requires-clause-allowed
get-requires-clause-allowed c =
    let l = c.args.self.now.site.layout in
    let small = c.args.self.now.small in
    let word = c.name.ensures in
    looks_name c.args.self.now.site _ _ c.args.seat.now.me c.args.block c.requires.block (record no_ask { block = c.args.block; second = c.args.second }) refl word

pub returns-clause-told : goal.returns-clause-told
returns-clause-told c = c.get.ensures.told.1
