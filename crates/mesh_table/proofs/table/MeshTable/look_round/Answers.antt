use Rattle.std.proofs.Common.{◌<◌, refl, arith}
use Rattle.table_words.specs.Layout.{Round, address, word_count}
use Rattle.table_words.proofs.WordPlaces.{words_within}
use Rattle.mesh_table.proofs.Pinning.{looks_round}
use Rattle.mesh_table.proofs.table.MeshTable.look_round.Goals as goal

pub get-requires-clause-within : goal.get-requires-clause-within
get-requires-clause-within c =
    let l = c.args.self.now.site.layout in
    let within : address l Round < word_count l = words_within l Round tt in
    omega arith

pub get-requires-clause-allowed : goal.get-requires-clause-allowed
get-requires-clause-allowed c =
    let l = c.args.self.now.site.layout in
    let small = c.args.self.now.small in
    looks_round c.args.self.now.site _ _ c.args.seat.now.me refl c.requires.reads
