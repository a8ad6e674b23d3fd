use Rattle.std.proofs.Common.{◌<◌, arith}
use Rattle.table_words.specs.Layout.{Seats, address, word_count}
use Rattle.table_words.proofs.WordPlaces.{words_within}
use Rattle.mesh_table.proofs.Seats.{begins}
use Rattle.mesh_table.proofs.table.MeshTable.begin.Goals as goal

pub load-requires : goal.load-requires
load-requires g c =
    let l = c.args.self.now.site.layout in
    let wide = c.args.self.now.wide in
    let within : address l Seats < word_count l = words_within l Seats tt in
    (c.requires.fit.0, omega arith, rw (c.args.self.now.key) (begins c.args.self.now.site _ _ c.args.owner.now.me g.B.Plans.plan c.requires.may _))
