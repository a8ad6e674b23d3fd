use Rattle.std.proofs.Common.{◌<◌, refl, ap, ◌∙◌, arith}
use Rattle.table_words.specs.Layout.{OfBlock, NameOf, address, word_count}
use Rattle.table_words.specs.Places.{member_of}
use Rattle.mesh_table.specs.Told.{noted_name, sight}
use Rattle.table_words.proofs.WordPlaces.{words_within}
use Rattle.mesh_table.proofs.Filling.{fills_name}
use Rattle.mesh_table.proofs.table.MeshTable.fill_name.Goals as goal

pub put-requires-clause-within : goal.put-requires-clause-within
put-requires-clause-within c =
    let l = c.args.self.now.site.layout in
    let within : address l (OfBlock c.args.block (NameOf c.args.second)) < word_count l = words_within l (OfBlock c.args.block (NameOf c.args.second)) c.requires.block in
    let word = c.name.ensures in
    omega arith

pub put-requires-clause-allowed : goal.put-requires-clause-allowed
put-requires-clause-allowed c =
    let l = c.args.self.now.site.layout in
    let small = c.args.self.now.small in
    let word = c.name.ensures in
    fills_name c.args.self.now.site _ _ c.args.block c.requires.block c.args.second _ c.spell_name.result _ word c.requires.may refl

pub returns-clause-view : goal.returns-clause-view
returns-clause-view c = c.put.ensures.told.1 ∙ ap (noted_name (sight c.args.seat.now) (member_of c.args.block c.args.second)) c.spell_name.ensures
