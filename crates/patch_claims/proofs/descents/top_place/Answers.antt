use Rattle.std.proofs.Common.{[], refl, ap}
use Rattle.mesh_table.specs.Sights.{Sight}
use Rattle.patch_claims.proofs.descents.top_place.Goals as goal

pub returns-clause-published : goal.returns-clause-published
returns-clause-published c = ([], ap (λ (v : Sight). v.saw) c.note_top.ensures.view, refl)
