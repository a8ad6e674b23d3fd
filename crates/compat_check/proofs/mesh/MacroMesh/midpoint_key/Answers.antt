use Rattle.compat_check.specs.Meshes.{across_in, shape_of}
use Rattle.compat_check.proofs.Walks.{stored_at}
use Rattle.compat_check.proofs.Owners.{IsOwner, owner_is}
use Rattle.compat_check.proofs.mesh.MacroMesh.midpoint_key.Goals as goal

owner : (c : goal.After-patch_with) → IsOwner (shape_of c.args.self.now) (across_in c.args.self.now) c.args.around.now.name c.patch_with.result.first
owner c =
    let stored = stored_at _ c.args.self.now c.self.inside.sides.items c.self.view_is c.self.invariant in
    owner_is (shape_of c.args.self.now) (across_in c.args.self.now) c.partners_pair.ensures c.partners_share.ensures stored.checked.tells c.args.around.now.name c.args.around.now.partner c.requires.root c.requires.around.partner_is c.patch_with.result c.patch_with.ensures

pub returns-clause-stands : goal.returns-clause-stands
returns-clause-stands c = (owner c).shares

pub returns-clause-key : goal.returns-clause-key
returns-clause-key c = (owner c).owner

pub returns-clause-mesh : goal.returns-clause-mesh
returns-clause-mesh c = (owner c).rooted
