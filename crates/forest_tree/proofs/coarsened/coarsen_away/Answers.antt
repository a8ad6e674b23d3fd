use Rattle.std.proofs.Common.{◌≡◌, ◌∙◌, sym, subst, ap}
use Rattle.std.specs.FinSet.{difference, empty, union}
use Rattle.mesh_names.specs.Forests.{Names, Within}
use Rattle.mesh_names.specs.Coarsening.{IsCoarsened}
use Rattle.compat_check.specs.Meshes.{across_in, shape_of}
use Rattle.forest_plain.specs.LeafMarks.{marked_so}
use Rattle.forest_plain.specs.Coarsening.{IsReached, IsUnderway}
use Rattle.forest_tree.specs.Grown.{left_of, whole_of}
use Rattle.forest_tree.specs.declared.lessened.Lessened.{Lessened}
use Rattle.forest_tree.proofs.Beside.{difference-empty}
use Rattle.forest_tree.proofs.coarsened.coarsen_away.Goals as goal

begun : (l : Lessened) (all : Names) → whole_of l ≡ all → l.gone ≡ empty → left_of l ≡ all
begun l all w e = difference-empty (whole_of l) l.gone e ∙ w

pub coarsen-requires : goal.coarsen-requires
coarsen-requires c =
    let start = begun c.new-lessened.result (union c.args.members.now c.args.fresh.now) c.new-lessened.ensures.whole c.new-lessened.ensures.gone in
    subst (λ (s : Names). IsUnderway (shape_of c.args.mesh.now) (across_in c.args.mesh.now) (marked_so s c.args.marks) c.args.marks.parents.items) (sym start) c.requires

pub returns-clause-within : goal.returns-clause-within
returns-clause-within c = subst (λ (s : Names). Within c.into_gone.result s) (c.in_ok-coarsen.ensures.whole ∙ c.new-lessened.ensures.whole) c.into_gone.ensures.within

pub returns-clause-coarsened : goal.returns-clause-coarsened
returns-clause-coarsened c = λ first r.
    let all = union c.args.members.now c.args.fresh.now in
    let start = begun c.new-lessened.result all c.new-lessened.ensures.whole c.new-lessened.ensures.gone in
    let end = ap (λ (s : Names). difference s c.coarsen.new.members.gone) (c.in_ok-coarsen.ensures.whole ∙ c.new-lessened.ensures.whole) ∙ ap (difference all) (sym c.into_gone.ensures.gone) in
    subst (λ (s : Names). IsCoarsened (across_in c.args.mesh.now) first s) end
    (c.in_ok-coarsen.ensures.coarsened first (subst (λ (s : Names). IsReached (across_in c.args.mesh.now) first (marked_so s c.args.marks)) (sym start) r))
