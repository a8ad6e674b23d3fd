use Rattle.mesh_table.specs.Told.{sight}
use Rattle.table_rounds.proofs.GivenUp.{all_ready, freed_over}
use Rattle.table_rounds.proofs.freeing.free_given_up.Goals as goal

pub free-requires-clause-may : goal.free-requires-clause-may
free-requires-clause-may c =
    let e = c.sweep_all.ensures.clear in
    all_ready c.args.table.now.site.layout (sight c.args.owner.now) (sight c.sweep_all.new.owner) c.args.places.now c.args.kept.now c.args.blocks.now c.requires.may c.requires.old e.still e.clear c.requires.blocks c.requires.quiet

pub returns-clause-freed : goal.returns-clause-freed
returns-clause-freed c = freed_over (sight c.args.owner.now) (sight c.sweep_all.new.owner) (sight c.free.new.owner) c.args.blocks.now c.sweep_all.ensures.clear.still.same c.free.ensures.view
