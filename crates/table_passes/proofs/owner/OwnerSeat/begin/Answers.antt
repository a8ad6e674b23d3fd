use Rattle.std.proofs.Common.{sym, ap}
use Rattle.compat_check.specs.Meshes.{shape_of}
use Rattle.mesh_table.specs.Sights.{Sight}
use Rattle.table_passes.proofs.Crews.{aimed_all}
use Rattle.table_passes.proofs.owner.OwnerSeat.begin.Goals as goal

pub returns-clause-aimed : goal.returns-clause-aimed
returns-clause-aimed c = aimed_all (shape_of c.args.table.now.site.mesh.now) _ _ c.args.needs.now c.requires.may.can (ap (λ (v : Sight). v.ruling.plan.needs) c.begin_for.ensures.begun) c.begin_for.ensures.aimed
