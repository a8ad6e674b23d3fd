use Rattle.compat_check.specs.Meshes.{across_in, shape_of}
use Rattle.compat_check.proofs.Walks.{stored_at}
use Rattle.compat_check.proofs.Owners.{owner_is}
use Rattle.compat_check.proofs.mesh.MacroMesh.owner_key.Goals as goal

pub returns : goal.returns
returns c =
    let stored = stored_at _ c.args.self.now c.self.inside.sides.items c.self.view_is c.self.invariant in
    let owner = owner_is (shape_of c.args.self.now) (across_in c.args.self.now) c.partners_pair.ensures c.partners_share.ensures stored.checked.tells c.args.name c.turned_partner.result c.requires.root c.turned_partner.ensures c.patch_with.result c.patch_with.ensures in
    record { stands = owner.shares; is = owner.owner; of_mesh = owner.rooted }
