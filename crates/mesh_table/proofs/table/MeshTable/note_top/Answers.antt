use Rattle.std.proofs.Common.{◌<◌, arith}
use Rattle.table_words.specs.Layout.{Seats, address, word_count}
use Rattle.table_words.proofs.WordPlaces.{words_within}
use Rattle.mesh_table.proofs.Walking.{notes_top}
use Rattle.mesh_table.proofs.table.MeshTable.note_top.Goals as goal

pub get-requires-clause-within : goal.get-requires-clause-within
get-requires-clause-within c =
    let l = c.args.self.now.site.layout in
    let within : address l Seats < word_count l = words_within l Seats tt in
    omega arith

pub get-requires-clause-allowed : goal.get-requires-clause-allowed
get-requires-clause-allowed c =
    let l = c.args.self.now.site.layout in
    let small = c.args.self.now.small in
    notes_top c.args.self.now.site _ _ c.args.seat.now.me c.args.element c.requires.element c.requires.works c.requires.half
