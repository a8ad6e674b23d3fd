use Rattle.std.proofs.Common.{take}
use Rattle.mesh_names.specs.Triangles.{level}
use Rattle.compat_check.specs.Meshes.{shape_of}
use Rattle.soak.proofs.RoundRows.{SoFar}
use Rattle.soak.proofs.rounds.draw_round.Given as goal

abbrev pub invariant-loop-leaf : goal.invariant-loop-leaf
invariant-loop-leaf l = SoFar (level (shape_of l.mesh)) l.fn.draws (take l.leaf-index l.leaves) l.rows.items l.draws
