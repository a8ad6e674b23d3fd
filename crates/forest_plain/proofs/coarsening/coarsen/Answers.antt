use Rattle.std.proofs.Common.{List, subst, sym, ◌∙◌}
use Rattle.compat_check.specs.Meshes.{across_in, shape_of}
use Rattle.mesh_names.specs.Names.{Name}
use Rattle.forest_plain.specs.LeafMarks.{marked_so}
use Rattle.forest_plain.specs.Coarsening.{IsUnderway}
use Rattle.forest_plain.proofs.Alike.{reach_end}
use Rattle.forest_plain.proofs.Turns.{none_pending, nothing_left}
use Rattle.forest_plain.proofs.coarsening.coarsen.Goals as goal

pub try_patch-requires : goal.try_patch-requires
try_patch-requires g c = subst (λ (ks : List Name). IsUnderway (shape_of c.args.mesh.now) (across_in c.args.mesh.now) (marked_so (g.S.Shrinking.left c.loop-name.members) c.loop-name.marks) ks) c.in-Some.ensures.items c.loop-name.invariant.underway

pub returns-clause-coarsened : goal.returns-clause-coarsened
returns-clause-coarsened g c first r =
    let pending = c.loop-name.marks.parents.items in
    let now = marked_so (g.S.Shrinking.left c.loop-name.members) c.loop-name.marks in
    let empty = nothing_left pending c.pop.new.self.items c.in_default.ensures.items (sym c.pop.new.self.ok.0 ∙ c.in_default.ensures.cases.1) in
    reach_end (across_in c.args.mesh.now) first now (c.loop-name.invariant.reached first r) (none_pending (across_in c.args.mesh.now) now pending empty c.loop-name.invariant.underway.pending)
