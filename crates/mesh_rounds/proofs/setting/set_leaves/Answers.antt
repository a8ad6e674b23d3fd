use Rattle.std.proofs.Common.{take, w64, to_z, of_z, subst, sym}
use Rattle.mesh_rounds.proofs.Taking.{leaves-more, live-kept}
use Rattle.std.specs.Prelude.{IsSome}
use Rattle.mesh_names.specs.Names.{Name}
use Rattle.dof_transfer.specs.Held.{value_of}
use Rattle.mesh_rounds.specs.Setting.{leaf_holding}
use Rattle.mesh_rounds.specs.Taking.{IsAmong}
use Rattle.mesh_rounds.proofs.setting.set_leaves.Goals as goal

pub set_leaf-requires-clause-live : goal.set_leaf-requires-clause-live
set_leaf-requires-clause-live c =
    live-kept leaf_holding (λ n. Unit {0}) (λ n. IsAmong n (take c.loop-leaf.leaf-index c.args.leaves.now)) (to_z w64 (of_z w64 c.args.number)) c.args.elements.now c.loop-leaf.elements c.loop-leaf.invariant c.leaf-item.result tt
    (subst (λ (m : Name). IsSome (value_of c.args.elements.now m)) (sym c.leaf-item.is) (c.requires.live c.loop-leaf.leaf-index c.leaf-item.result c.loop-leaf-test.true))

pub loop-leaf-preserved : goal.loop-leaf-preserved
loop-leaf-preserved c = leaves-more c.args.leaves.now c.loop-leaf.leaf-index c.leaf-item.result (to_z w64 (of_z w64 c.args.number)) c.args.elements.now c.loop-leaf.elements c.set_leaf.new.elements c.loop-leaf-test.true c.leaf-item.is c.loop-leaf.invariant c.set_leaf.ensures
