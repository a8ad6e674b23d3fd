use Rattle.std.proofs.Common.{◌≡◌, ℕ, ◌+◌}
use Rattle.table_words.specs.Places.{place_number}
use Rattle.table_words.specs.Words.{node_of}
use Rattle.mesh_table.specs.Told.{sight}
use Rattle.table_rounds.proofs.Cuts.{names_living, side_fits, may_on, place_clear}
use Rattle.table_rounds.proofs.sweeps.sweep_place.Goals as goal

pub returns-then-not-is_empty-clause-clear : goal.returns-then-not-is_empty-clause-clear
returns-then-not-is_empty-clause-clear c =
    let l = c.args.table.now.site.layout in
    let u = sight c.args.owner.now in
    let o = c.lead_head-word in
    let v = sight o.new.owner in
    let w = sight c.lead_older.new.owner in
    let x = place_number l c.args.at in
    let b = c.named_block-block.result in
    let may = may_on l u v c.args.places.now o.ensures.led.same c.requires.may in
    let t = names_living l.pool v x (node_of o.result) b o.ensures.led.leads o.ensures.living c.named_block-block.ensures in
    let s = side_fits l v c.args.places.now b c.args.at c.side_at-second.result may.placed c.requires.place t.1 c.side_at-second.ensures.first c.side_at-second.ensures.second in
    place_clear l.pool u v x (node_of o.result) o.ensures.led o.ensures.living l c.args.places.now w b c.side_at-second.result may.placed c.named_block-block.ensures s c.lead_older.ensures.still c.lead_older.ensures.clear
