use Rattle.mesh_table.specs.Told.{sight}
use Rattle.table_rounds.specs.Sweeps.{StillClear}
use Rattle.table_rounds.proofs.Cuts.{may_on, still_on}
use Rattle.table_rounds.proofs.GivenUp.{retired_ready, freed_over, clear_over, back_over}
use Rattle.table_rounds.proofs.freeing.free_retired.Goals as goal

pub clear_all_words-requires-clause-may : goal.clear_all_words-requires-clause-may
clear_all_words-requires-clause-may c = may_on c.args.table.now.site.layout (sight c.args.owner.now) (sight c.sweep_all.new.owner) c.args.places.now c.sweep_all.ensures.clear.still.same c.requires.may

pub clear_all_words-requires-clause-back : goal.clear_all_words-requires-clause-back
clear_all_words-requires-clause-back c = back_over c.args.table.now.site.layout (sight c.args.owner.now) (sight c.sweep_all.new.owner) c.args.rolled_back.now c.sweep_all.ensures.clear.still.same c.requires.back

pub free-requires-clause-may : goal.free-requires-clause-may
free-requires-clause-may c =
    let l = c.args.table.now.site.layout in
    let u = sight c.args.owner.now in
    let v = sight c.sweep_all.new.owner in
    let w = sight c.clear_all_words.new.owner in
    let one = c.sweep_all.ensures.clear in
    let two = c.clear_all_words.ensures.clear in
    retired_ready l u w c.args.places.now c.args.kept.now c.args.blocks.now c.requires.may c.requires.old (still_on u v w one.still two.still) (clear_over v w l c.args.kept.now two.still one.clear) c.args.rolled_back.now c.requires.back two.clear c.requires.blocks

pub returns-clause-freed : goal.returns-clause-freed
returns-clause-freed c =
    let u = sight c.args.owner.now in
    let v = sight c.sweep_all.new.owner in
    let w = sight c.clear_all_words.new.owner in
    let still : StillClear u w = still_on u v w c.sweep_all.ensures.clear.still c.clear_all_words.ensures.clear.still in
    freed_over u w (sight c.free.new.owner) c.args.blocks.now still.same c.free.ensures.view
