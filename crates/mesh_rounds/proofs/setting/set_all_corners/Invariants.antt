use Rattle.std.proofs.Common.{take}
use Rattle.compat_check.specs.Meshes.{shape_of}
use Rattle.mesh_rounds.specs.Taking.{IsCornerAmong, VerticesTake}
use Rattle.mesh_rounds.proofs.setting.set_all_corners.Given as goal

abbrev pub invariant-loop-element : goal.invariant-loop-element
invariant-loop-element l = VerticesTake l.mesh (IsCornerAmong (shape_of l.mesh) (take l.element-index l.elements)) l.number l.fn.vertices l.vertices
