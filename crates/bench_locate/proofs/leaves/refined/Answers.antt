use Rattle.std.proofs.Common.{◌∙◌, subst}
use Rattle.mesh_names.specs.Forests.{IsForest, IsListOf}
use Rattle.mesh_names.specs.Leaves.{leaves}
use Rattle.mesh_names.specs.Triangles.{Shape}
use Rattle.forest_plain.specs.Forests.{members_of}
use Rattle.bench_locate.proofs.leaves.refined.Goals as goal

pub returns : goal.returns
returns c =
    let forest = c.round.new.self in
    let same = c.in-Ok.ensures.ok.rest.mesh ∙ c.new-forest.ensures.mesh in (
      members_of forest,
      record {
        forest = subst (λ (s : Shape). IsForest s (members_of forest)) same forest.stands.forest;
        listed = subst (λ (s : Shape). IsListOf (leaves s (members_of forest)) c.in-Ok-leaves.leaves.items) same c.in-Ok-leaves.ensures.ok;
      },
    )
