use Rattle.compat_check.specs.Meshes.{across_in, shape_of}
use Rattle.compat_check.proofs.Walks.{stored_at, above_known, above_low, half_low, child_half}
use Rattle.compat_check.proofs.mesh.MacroMesh.child_partner.Goals as goal

pub half-requires : goal.half-requires
half-requires c =
    let stored = stored_at _ c.args.self.now c.self.inside.sides.items c.self.view_is c.self.invariant in
    let known = above_known (across_in c.args.self.now) c.args.parent.now c.in-Some.above c.requires.parent.above_is c.in-Some.is in
    let low = above_low (shape_of c.args.self.now) c.args.parent.now.name c.in-Some.above.name c.in-Some.above.side known.0 c.requires.root c.requires.level in
    half_low (shape_of c.args.self.now) (across_in c.args.self.now) c.partners_pair.ensures stored.checked.tells c.in-Some.above.name c.in-Some.above.partner known.1 low.0 low.1

pub returns : goal.returns
returns c =
    let known = above_known (across_in c.args.self.now) c.args.parent.now c.in-Some.above c.requires.parent.above_is c.in-Some.is in
    child_half (across_in c.args.self.now) c.args.parent.now.name c.in-Some.above.name c.in-Some.above.side c.args.side c.in-Some.above.partner c.half.result known.0 known.1 c.if-above-side.false c.half.ensures
