use Rattle.std.proofs.Common.{◌+◌, ◌*◌, ◌<◌, refl, subst, arith}
use Rattle.table_words.specs.Layout.{LinkOf, address, word_count}
use Rattle.table_words.proofs.WordPlaces.{words_within}
use Rattle.table_words.specs.declared.layout.ElemAt.TheVariants.{Child}
use Rattle.mesh_table.specs.Told.{child_told, Ask, no_ask}
use Rattle.mesh_table.proofs.Filling.{fills_child}
use Rattle.mesh_table.proofs.table.MeshTable.fill_child.Goals as goal

pub put-requires-clause-within : goal.put-requires-clause-within
put-requires-clause-within c =
    let l = c.args.self.now.site.layout in
    let within : address l (LinkOf (Child c.args.block c.args.child)) < word_count l = words_within l (LinkOf (Child c.args.block c.args.child)) (c.requires.block, c.requires.child) in
    let word = c.link.ensures in
    omega arith

pub put-requires-clause-allowed : goal.put-requires-clause-allowed
put-requires-clause-allowed c =
    let l = c.args.self.now.site.layout in
    let small = c.args.self.now.small in
    let word = c.link.ensures in
    fills_child c.args.self.now.site _ _ c.args.block c.args.child c.requires.block c.requires.child c.args.seat.now.me (record no_ask { place = l.elements + 4 * c.args.block + c.args.child }) refl word c.requires.may

pub returns-clause-view : goal.returns-clause-view
returns-clause-view c = c.put.ensures.told.1

pub returns-clause-apart : goal.returns-clause-apart
returns-clause-apart c = c.put.ensures.told.2
