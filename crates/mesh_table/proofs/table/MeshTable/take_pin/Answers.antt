use Rattle.std.proofs.Common.{◌<◌, refl, subst, arith}
use Rattle.table_words.specs.Layout.{Round, address, word_count}
use Rattle.table_words.proofs.WordPlaces.{words_within}
use Rattle.mesh_table.specs.Told.{pin_told, Ask, no_ask}
use Rattle.mesh_table.proofs.Pinning.{pins}
use Rattle.mesh_table.proofs.table.MeshTable.take_pin.Goals as goal

pub count-requires-clause-within : goal.count-requires-clause-within
count-requires-clause-within c =
    let l = c.args.self.now.site.layout in
    let within : address l Round < word_count l = words_within l Round tt in
    omega arith

pub count-requires-clause-allowed : goal.count-requires-clause-allowed
count-requires-clause-allowed c =
    let l = c.args.self.now.site.layout in
    let small = c.args.self.now.small in
    pins c.args.self.now.site _ _ c.args.seat.now.me refl c.requires.may (omega arith) (record no_ask { value = l.rounds }) refl

pub returns-clause-round : goal.returns-clause-round
returns-clause-round c = c.count.ensures.told.2
