use Rattle.std.proofs.Common.{subst, sym, map}
use Rattle.table_words.specs.NameWords.{name_code}
use Rattle.mesh_table.specs.Sights.{setup_at}
use Rattle.mesh_table.specs.Told.{sight}
use Rattle.table_passes.specs.Late.{CanSplitLate}
use Rattle.table_passes.proofs.Taking.{planned_can}
use Rattle.table_passes.proofs.owner.OwnerSeat.plan.Goals as goal

pub returns-clause-can : goal.returns-clause-can
returns-clause-can c = subst (CanSplitLate (setup_at c.args.table.now.site)) (sym c.plan.ensures.view)
    (planned_can (setup_at c.args.table.now.site) (sight c.args.self.now.seat) (map name_code c.args.retire.now) c.requires.may.rules c.requires.old c.requires.whole)
