use Rattle.std.proofs.Common.{◌∙◌, subst}
use Rattle.mesh_names.specs.Names.{Name}
use Rattle.compat_check.specs.Around.{IsAbove}
use Rattle.compat_check.specs.Meshes.{across_in}
use Rattle.compat_check.proofs.Stepping.{above_partner}
use Rattle.compat_check.proofs.mesh.MacroMesh.step.Goals as goal

pub returns-clause-step : goal.returns-clause-step
returns-clause-step c =
    let x = across_in c.args.self.now in
    let above = c.around-around.result.above in
    record {
      rooted = c.requires.root;
      partner_is = c.around-around.ensures.partner;
      above_is = λ b w e. c.parent_partner.ensures ∙ above_partner x c.args.name above (subst (λ (n : Name). IsAbove x n above) c.around-around.ensures.name c.around-around.ensures.around.above_is) b w e;
      points = c.points.ensures;
      labels = c.labels.ensures;
    }
