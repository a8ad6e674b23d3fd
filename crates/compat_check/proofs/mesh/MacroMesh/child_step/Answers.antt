use Rattle.std.proofs.Common.{◌≡◌, ◌∙◌, ◌<◌, ap, sym, subst}
use Rattle.mesh_names.specs.Names.{Name}
use Rattle.mesh_names.specs.Triangles.{size}
use Rattle.compat_check.specs.Meshes.{across_in, shape_of}
use Rattle.compat_check.specs.Steps.{child_of, name_of}
use Rattle.compat_check.proofs.Placing.{first_within, second_within, points_of_child, labels_of_child}
use Rattle.compat_check.proofs.Stepping.{child_above}
use Rattle.compat_check.proofs.mesh.MacroMesh.child_step.Goals as goal

pub child_points-requires-clause-first : goal.child_points-requires-clause-first
child_points-requires-clause-first c = first_within c.args.self.now (name_of c.args.step.now) c.args.step.now.points c.requires.step.points

pub child_points-requires-clause-second : goal.child_points-requires-clause-second
child_points-requires-clause-second c = second_within c.args.self.now (name_of c.args.step.now) c.args.step.now.points c.requires.step.points

pub returns-clause-step : goal.returns-clause-step
returns-clause-step c =
    let mesh = c.args.self.now in
    let parent = name_of c.args.step.now in
    let child = c.around_child-child.result.name in
    let named : child ≡ child_of parent c.args.side = c.around_child-child.ensures.name ∙ ap (λ (n : Name). child_of n c.args.side) c.around.ensures.name in
    record {
      rooted = subst (λ (n : Name). n.0 < size (shape_of mesh)) (sym named) c.requires.step.rooted;
      partner_is = c.around_child-child.ensures.around.partner_is;
      above_is = child_above (across_in mesh) child parent c.args.side c.args.step.now.partner named c.requires.step.partner_is;
      points = c.child_points.ensures ∙ points_of_child mesh child parent c.args.side c.args.step.now.points c.requires.step.points named;
      labels = c.child_labels.ensures ∙ labels_of_child mesh child parent c.args.side c.args.step.now.labels c.requires.step.labels named;
    }
