use Rattle.std.proofs.Common.{sym}
use Rattle.mesh_names.specs.Triangles.{size}
use Rattle.compat_check.specs.Meshes.{across_in, shape_of}
use Rattle.compat_check.proofs.Walks.{stored_at}
use Rattle.compat_check.proofs.Climbs.{moved_low, same_root}
use Rattle.compat_check.proofs.mesh.MacroMesh.turned_partner.Goals as goal

pub moved-requires-clause-low : goal.moved-requires-clause-low
moved-requires-clause-low c =
    let mesh = shape_of c.args.self.now in
    let climbs = c.climbed-top.ensures.climbs in
    let stored = stored_at _ c.args.self.now c.self.inside.sides.items c.self.view_is c.self.invariant in
    let rooted = same_root c.args.name c.climbed-top.result climbs.passed (size mesh) climbs.below c.requires.root in
    let pair = c.partners_pair.ensures mesh (across_in c.args.self.now) stored.checked.tells c.climbed-top.result _ _ rooted (sym c.in-Some.ensures) in
    moved_low mesh c.args.name c.climbed-top.result _ climbs.passed climbs.below pair.level c.requires.level
