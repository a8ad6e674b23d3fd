use Rattle.std.proofs.Common.{length}
use Rattle.table_rounds.proofs.Room.{rows_room}
use Rattle.table_rounds.proofs.rows.lay_rows.Goals as goal

pub lay_hand-requires-clause-room : goal.lay_hand-requires-clause-room
lay_hand-requires-clause-room c =
    let t = c.look_drawn-drawn.ensures.fits c.args.hand.now c.args.rows c.requires.hand c.requires.free.0 in
    (c.requires.free.1, rows_room (length c.args.hand.now) c.args.rows c.args.table.now.site.layout.pool c.look_drawn-drawn.result c.low_of-low.result t.0 t.1 c.low_of-low.ensures.1 c.low_of-low.ensures.2)

pub lay_rest-count-requires-clause-room : goal.lay_rest-count-requires-clause-room
lay_rest-count-requires-clause-room c =
    let t = c.look_drawn-drawn.ensures.fits c.args.hand.now c.args.rows c.requires.hand c.requires.free.0 in
    (c.requires.free.1, rows_room (length c.args.hand.now) c.args.rows c.args.table.now.site.layout.pool c.look_drawn-drawn.result c.low_of-low.result t.0 t.1 c.low_of-low.ensures.1 c.low_of-low.ensures.2)
