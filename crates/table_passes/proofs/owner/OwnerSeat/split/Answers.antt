use Rattle.std.proofs.Common.{ap}
use Rattle.mesh_table.specs.Sights.{Sight}
use Rattle.mesh_table.specs.Told.{sight}
use Rattle.table_passes.proofs.Keeping.{made_kept}
use Rattle.table_passes.proofs.owner.OwnerSeat.split.Goals as goal

pub returns-clause-kept : goal.returns-clause-kept
returns-clause-kept c = made_kept c.args.table.now.site (sight c.split_worker.result) c.args.lists (ap (λ (v : Sight). v.claims) c.split_worker.ensures.made) c.requires.empty
