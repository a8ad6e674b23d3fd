use Rattle.std.proofs.Common.{take, w64, to_z, of_z, sym, subst}
use Rattle.compat_check.specs.Meshes.{shape_of}
use Rattle.mesh_rounds.specs.Taking.{HasCorners, IsCornerAmong}
use Rattle.mesh_rounds.proofs.Corners.{corners-kept, corners-more}
use Rattle.mesh_rounds.proofs.setting.set_all_corners.Goals as goal

pub set_corners-requires-clause-live : goal.set_corners-requires-clause-live
set_corners-requires-clause-live c =
    corners-kept c.args.mesh.now (IsCornerAmong (shape_of c.args.mesh.now) (take c.loop-element.element-index c.args.elements.now)) (to_z w64 (of_z w64 c.args.number)) c.args.vertices.now c.loop-element.vertices c.element-item.result c.loop-element.invariant
    (subst (HasCorners c.args.mesh.now c.args.vertices.now) (sym c.element-item.is) (c.requires.live c.loop-element.element-index c.element-item.result c.loop-element-test.true))

pub loop-element-preserved : goal.loop-element-preserved
loop-element-preserved c =
    corners-more c.args.mesh.now c.args.elements.now c.loop-element.element-index c.element-item.result (to_z w64 (of_z w64 c.args.number)) c.args.vertices.now c.loop-element.vertices c.set_corners.new.vertices c.loop-element-test.true c.element-item.is c.loop-element.invariant c.set_corners.ensures
