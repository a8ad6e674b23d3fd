use Rattle.std.proofs.Common.{ap, ◌∙◌}
use Rattle.compat_check.specs.Meshes.{across_in, shape_of}
use Rattle.forest_plain.proofs.LevelOrder.{level-kept, level-skipped}
use Rattle.forest_plain.proofs.delta.add_level.Goals as goal
use Rattle.forest_plain.proofs.delta.add_level.Goals.{then-level+in_ok-push_patch, else-level}

pub loop-owner-preserved : goal.loop-owner-preserved
loop-owner-preserved c = elim c.if-level.branch [
  | then-level+in_ok-push_patch w ↦ level-kept (shape_of c.args.mesh.now) (across_in c.args.mesh.now) c.args.level c.args.owners.now c.args.patches.now.items c.loop-owner.patches.items c.if-level.patches.items c.loop-owner.owner-index c.owner-item.result _ c.level.result c.loop-owner-test.true c.owner-item.is c.level.ensures.level w.if-level.true c.loop-owner.invariant (ap (λ v. v.items) w.patches-is ∙ w.in_ok-push_patch.ensures)
  | else-level w ↦ level-skipped (shape_of c.args.mesh.now) (across_in c.args.mesh.now) c.args.level c.args.owners.now c.args.patches.now.items c.loop-owner.patches.items c.if-level.patches.items c.loop-owner.owner-index c.owner-item.result _ c.level.result c.loop-owner-test.true c.owner-item.is c.level.ensures.level w.if-level.false c.loop-owner.invariant (ap (λ v. v.items) w.patches-is)
]
