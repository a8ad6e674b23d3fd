use Rattle.std.proofs.Common.{take}
use Rattle.mesh_rounds.specs.Taking.{IsAmong, LeavesTake}
use Rattle.mesh_rounds.proofs.setting.set_leaves.Given as goal

abbrev pub invariant-loop-leaf : goal.invariant-loop-leaf
invariant-loop-leaf l = LeavesTake (λ n. IsAmong n (take l.leaf-index l.leaves)) l.number l.fn.elements l.elements
