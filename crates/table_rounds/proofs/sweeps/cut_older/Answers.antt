use Rattle.std.proofs.Common.{◌≡◌, ℕ, ◌+◌, ◌<◌, Bool, refl, sym, ap, ◌∙◌}
use Rattle.table_words.specs.declared.layout.Layout.{Layout}
use Rattle.table_words.specs.Places.{place_number}
use Rattle.table_words.specs.Words.{Node, node_of}
use Rattle.mesh_table.specs.Sights.{Sight}
use Rattle.mesh_table.specs.Told.{sight}
use Rattle.table_rounds.proofs.Cuts.{names_retired, names_some, side_fits, may_cut_older, older_cut}
use Rattle.table_rounds.proofs.sweeps.cut_older.Goals as goal

pub named_block-block-requires : goal.named_block-block-requires
named_block-block-requires c = names_some c.args.table.now.site.layout.pool (sight c.args.owner.now) (place_number c.args.table.now.site.layout c.args.at) (node_of c.args.word) c.requires.led.leads c.requires.dead

pub side_at-second-requires : goal.side_at-second-requires
side_at-second-requires c =
    let l = c.args.table.now.site.layout in
    let t = names_retired l.pool (sight c.args.owner.now) (place_number l c.args.at) (node_of c.args.word) c.named_block-block.result c.requires.led.leads c.requires.dead c.named_block-block.ensures in
    (c.requires.may.placed c.named_block-block.result t.1.0 t.1.1 t.1.3).0

pub look_older-older-requires-clause-block : goal.look_older-older-requires-clause-block
look_older-older-requires-clause-block c =
    let l = c.args.table.now.site.layout in
    (names_retired l.pool (sight c.args.owner.now) (place_number l c.args.at) (node_of c.args.word) c.named_block-block.result c.requires.led.leads c.requires.dead c.named_block-block.ensures).0

pub look_older-older-requires-clause-stands : goal.look_older-older-requires-clause-stands
look_older-older-requires-clause-stands c =
    let l = c.args.table.now.site.layout in
    let t = names_retired l.pool (sight c.args.owner.now) (place_number l c.args.at) (node_of c.args.word) c.named_block-block.result c.requires.led.leads c.requires.dead c.named_block-block.ensures in
    side_fits l (sight c.args.owner.now) c.args.places.now c.named_block-block.result c.args.at c.side_at-second.result c.requires.may.placed c.requires.place t.1 c.side_at-second.ensures.first c.side_at-second.ensures.second

pub cut_history-requires-clause-may : goal.cut_history-requires-clause-may
cut_history-requires-clause-may c =
    let l = c.args.table.now.site.layout in
    let u = sight c.args.owner.now in
    let x = place_number l c.args.at in
    let b = c.named_block-block.result in
    let t = names_retired l.pool u x (node_of c.args.word) b c.requires.led.leads c.requires.dead c.named_block-block.ensures in
    let s = side_fits l u c.args.places.now b c.args.at c.side_at-second.result c.requires.may.placed c.requires.place t.1 c.side_at-second.ensures.first c.side_at-second.ensures.second in
    let o = c.look_older-older in
    may_cut_older l u (sight o.new.owner) c.args.places.now c.requires.may x b c.side_at-second.result (node_of c.args.word) (node_of o.result) o.ensures.more o.ensures.leads o.ensures.history s c.requires.dead c.named_block-block.ensures c.requires.led.leads c.args.holder c.args.side c.requires.stands c.requires.led.history

pub returns-clause-led : goal.returns-clause-led
returns-clause-led c =
    let l = c.args.table.now.site.layout in
    let u = sight c.args.owner.now in
    let x = place_number l c.args.at in
    let b = c.named_block-block.result in
    let t = names_retired l.pool u x (node_of c.args.word) b c.requires.led.leads c.requires.dead c.named_block-block.ensures in
    let s = side_fits l u c.args.places.now b c.args.at c.side_at-second.result c.requires.may.placed c.requires.place t.1 c.side_at-second.ensures.first c.side_at-second.ensures.second in
    let o = c.look_older-older in
    older_cut l u (sight o.new.owner) c.args.places.now c.requires.may x b c.side_at-second.result (node_of c.args.word) (node_of o.result) o.ensures.more o.ensures.leads o.ensures.history s c.requires.dead c.named_block-block.ensures c.requires.led.leads c.args.holder c.args.side (sight c.cut_history.new.owner) c.cut_history.ensures.view o.ensures.retired

pub returns-clause-falls : goal.returns-clause-falls
returns-clause-falls c =
    let l = c.args.table.now.site.layout in
    let u = sight c.args.owner.now in
    let x = place_number l c.args.at in
    let b = c.named_block-block.result in
    let t = names_retired l.pool u x (node_of c.args.word) b c.requires.led.leads c.requires.dead c.named_block-block.ensures in
    c.look_older-older.ensures.falls t.2 (node_of c.args.word).died t.3 c.requires.dead
