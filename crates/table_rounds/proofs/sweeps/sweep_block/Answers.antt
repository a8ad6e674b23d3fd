use Rattle.std.proofs.Common.{◌≡◌, ℕ, ◌+◌, ◌<◌, Bool, true, false, length, refl, sym, ap, ◌∙◌, subst, arith}
use Rattle.table_words.specs.Places.{place_number}
use Rattle.mesh_table.specs.Told.{mate_number, sight}
use Rattle.table_rounds.specs.Sweeps.{StillClear}
use Rattle.table_rounds.proofs.Cuts.{may_on, rooted_on, place_on, still_more, still_on}
use Rattle.table_rounds.proofs.GivenUp.{block_done}
use Rattle.table_rounds.proofs.sweeps.sweep_block.Goals as goal

pub sweep_place-requires-clause-may : goal.sweep_place-requires-clause-may
sweep_place-requires-clause-may c = may_on c.args.table.now.site.layout (sight c.args.owner.now) (sight c.look_last.new.owner) c.args.places.now c.look_last.ensures.more.same c.requires.may

pub sweep_place-requires-clause-rooted : goal.sweep_place-requires-clause-rooted
sweep_place-requires-clause-rooted c =
    let l = c.args.table.now.site.layout in
    rooted_on l.elements (sight c.args.owner.now) (sight c.look_last.new.owner) (place_number l c.args.patch.first) c.look_last.ensures.more.same (c.requires.old.rooted false (place_number l c.args.patch.first) refl)

pub sweep_second-requires-clause-may : goal.sweep_second-requires-clause-may
sweep_second-requires-clause-may c =
    let l = c.args.table.now.site.layout in
    let one = may_on l (sight c.args.owner.now) (sight c.look_last.new.owner) c.args.places.now c.look_last.ensures.more.same c.requires.may in
    may_on l (sight c.look_last.new.owner) (sight c.sweep_place.new.owner) c.args.places.now c.sweep_place.ensures.still.same one

pub sweep_second-requires-clause-rooted : goal.sweep_second-requires-clause-rooted
sweep_second-requires-clause-rooted c y e =
    let l = c.args.table.now.site.layout in
    let one = rooted_on l.elements (sight c.args.owner.now) (sight c.look_last.new.owner) y c.look_last.ensures.more.same (c.requires.old.rooted true y e) in
    rooted_on l.elements (sight c.look_last.new.owner) (sight c.sweep_place.new.owner) y c.sweep_place.ensures.still.same one

pub returns-clause-still : goal.returns-clause-still
returns-clause-still c =
    let u = sight c.args.owner.now in
    let v1 = sight c.look_last.new.owner in
    let v2 = sight c.sweep_place.new.owner in
    let v3 = sight c.sweep_second.new.owner in
    still_on u v1 v3 (still_more u v1 c.look_last.ensures.more) (still_on v1 v2 v3 c.sweep_place.ensures.still c.sweep_second.ensures.still)

pub returns-clause-clear : goal.returns-clause-clear
returns-clause-clear c =
    let l = c.args.table.now.site.layout in
    let u = sight c.args.owner.now in
    let v1 = sight c.look_last.new.owner in
    let v2 = sight c.sweep_place.new.owner in
    let v3 = sight c.sweep_second.new.owner in
    let rest : StillClear v1 v3 = still_on v1 v2 v3 c.sweep_place.ensures.still c.sweep_second.ensures.still in
    let late = c.look_last.ensures.kept c.requires.old.kept in
    block_done l u v3 c.args.patch c.look_last.result c.requires.old (still_on u v1 v3 (still_more u v1 c.look_last.ensures.more) rest) (rest.dieds c.args.patch.block c.look_last.result c.look_last.ensures.died) late.0 late.1 (place_on v2 v3 (place_number l c.args.patch.first) c.sweep_second.ensures.still c.sweep_place.ensures.clear) c.sweep_second.ensures.clear
