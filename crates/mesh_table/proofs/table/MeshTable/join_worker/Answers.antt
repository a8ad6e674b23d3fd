use Rattle.std.proofs.Common.{◌<◌, arith}
use Rattle.table_words.specs.Layout.{Seats, address, word_count}
use Rattle.table_words.proofs.WordPlaces.{words_within}
use Rattle.mesh_table.proofs.Seats.{joins_worker}
use Rattle.mesh_table.proofs.table.MeshTable.join_worker.Goals as goal

pub join_seat-requires : goal.join_seat-requires
join_seat-requires c =
    let l = c.args.self.now.site.layout in
    let wide = c.args.self.now.wide in
    let within : address l Seats < word_count l = words_within l Seats tt in
    (c.requires.fit.0, c.requires.pass.0, c.requires.pass.1, omega arith, rw (c.args.self.now.key) (joins_worker c.args.self.now.site _ c.args.owner.now.me.0 _ c.args.pass.me.0 c.requires.rules c.requires.works))
