use Rattle.std.proofs.Common.{◌<◌, refl, arith}
use Rattle.table_words.specs.Layout.{Round, address, word_count}
use Rattle.table_words.proofs.WordPlaces.{words_within}
use Rattle.mesh_table.proofs.Advancing.{advances}
use Rattle.mesh_table.proofs.table.MeshTable.advance.Goals as goal

pub swap-requires : goal.swap-requires
swap-requires g c =
    let l = c.args.self.now.site.layout in
    let wide = c.args.self.now.wide in
    let within : address l Round < word_count l = words_within l Round tt in
    let finished = c.requires.finished in
    let from = c.from.ensures in
    (c.requires.fit.0, omega arith, rw (c.args.self.now.key) (advances c.args.self.now.site _ _ _ c.args.owner.now.me g.B.Forests.forest refl (omega arith) c.requires.may _))
