use Rattle.std.proofs.Common.{◌<◌, arith, refl}
use Rattle.table_words.specs.Layout.{Seats, address, word_count}
use Rattle.table_words.proofs.WordPlaces.{words_within}
use Rattle.mesh_table.proofs.Seats.{splits_as, InSecond}
use Rattle.mesh_table.proofs.table.MeshTable.split_late_as.Goals as goal

pub split_seat-requires : goal.split_seat-requires
split_seat-requires g c =
    let l = c.args.self.now.site.layout in
    let wide = c.args.self.now.wide in
    let within : address l Seats < word_count l = words_within l Seats tt in
    (c.requires.fit.0, omega arith, rw (c.args.self.now.key, c.requires.asked) (splits_as c.args.self.now.site _ c.args.owner.now.me.0 c.args.number _ c.requires.rules (InSecond c.requires.half refl)))
