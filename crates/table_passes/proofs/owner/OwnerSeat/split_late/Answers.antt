use Rattle.std.proofs.Common.{ap, subst, sym}
use Rattle.mesh_table.specs.Sights.{Sight, setup_at}
use Rattle.mesh_table.specs.Told.{sight}
use Rattle.table_passes.specs.Late.{CanRetire, CanSplitLate}
use Rattle.table_passes.proofs.Keeping.{made_kept}
use Rattle.table_passes.proofs.Taking.{made_can_retire, split_can}
use Rattle.table_passes.proofs.owner.OwnerSeat.split_late.Goals as goal

pub returns-clause-can : goal.returns-clause-can
returns-clause-can c = subst (CanRetire (setup_at c.args.table.now.site)) (sym c.split_late.ensures.made) (made_can_retire (setup_at c.args.table.now.site) (sight c.args.self.now.seat) c.args.number c.requires.can)

pub returns-clause-still : goal.returns-clause-still
returns-clause-still c = subst (CanSplitLate (setup_at c.args.table.now.site)) (sym c.split_late.ensures.left) (split_can (setup_at c.args.table.now.site) (sight c.args.self.now.seat) (sight c.args.self.now.seat).ruling.lone c.requires.can)

pub returns-clause-kept : goal.returns-clause-kept
returns-clause-kept c = made_kept c.args.table.now.site (sight c.split_late.result) c.args.lists (ap (λ (v : Sight). v.claims) c.split_late.ensures.made) c.requires.empty
