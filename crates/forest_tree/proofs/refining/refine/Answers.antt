use Rattle.std.proofs.Common.{◌≡◌, Bool, ◌∙◌, ◌&&◌, cond, not, sym, subst, ap, List}
use Rattle.std.specs.FinSet.{contains, empty, from_list, union}
use Rattle.mesh_names.specs.Names.{Name, name_cmp}
use Rattle.mesh_names.specs.Forests.{IsForest, Names}
use Rattle.mesh_names.specs.Conformity.{HoldsPartners}
use Rattle.compat_check.specs.Meshes.{across_in, shape_of}
use Rattle.mesh_names.specs.Coarsening.{allowance}
use Rattle.forest_plain.specs.LeafMarks.{leaf_mark}
use Rattle.forest_plain.specs.MarkMaps.{mark_in}
use Rattle.forest_plain.specs.Needed.{AreMarked}
use Rattle.forest_plain.proofs.Readiness.{ready}
use Rattle.forest_plain.proofs.Refining.{needs_fit, needed_can, refined_least}
use Rattle.forest_tree.specs.Apart.{IsApart}
use Rattle.forest_tree.specs.Grown.{grown_of, start_of}
use Rattle.forest_tree.specs.Refinement.{refined_by}
use Rattle.forest_tree.specs.declared.grown.Grown.{Grown}
use Rattle.forest_tree.proofs.Beside.{out-of-both, union-empty}
use Rattle.forest_tree.proofs.refining.refine.Goals as goal

begun : (g : Grown) (old : Names) → start_of g ≡ old → g.fresh ≡ empty → grown_of g ≡ old
begun g old s e = union-empty g.members g.fresh e ∙ s

pub needed_names-requires : goal.needed_names-requires
needed_names-requires c =
    let checked = c.element_count-checked.ensures.checked in
    needs_fit (shape_of c.args.mesh.now) c.args.members.now c.args.rows.now c.requires.forest checked.low c.requires.fine (across_in c.args.mesh.now) c.element_count-checked.ensures.tells c.deref.result.now
    (subst (λ (l : List Name). AreMarked (shape_of c.args.mesh.now) c.args.members.now c.args.rows.now l) (sym c.deref.ensures.value) c.in_ok-list.ensures) (mark_in c.in_ok-marks.marks) c.in_ok-marks.ensures

pub close-requires-clause-forest : goal.close-requires-clause-forest
close-requires-clause-forest c = subst (λ (s : Names). IsForest (shape_of c.args.mesh.now) s) (sym (begun c.new-grown.result c.args.members.now c.new-grown.ensures.start c.new-grown.ensures.fresh)) c.requires.forest

pub close-requires-clause-partners : goal.close-requires-clause-partners
close-requires-clause-partners c = subst (λ (s : Names). HoldsPartners (across_in c.args.mesh.now) s) (sym (begun c.new-grown.result c.args.members.now c.new-grown.ensures.start c.new-grown.ensures.fresh)) c.requires.partners

pub close-requires-clause-can : goal.close-requires-clause-can
close-requires-clause-can c =
    let checked = c.element_count-checked.ensures.checked in
    needed_can (shape_of c.args.mesh.now) c.args.members.now c.args.rows.now c.requires.forest checked.low c.requires.fine (across_in c.args.mesh.now) c.element_count-checked.ensures.tells c.deref.result.now
    (subst (λ (l : List Name). AreMarked (shape_of c.args.mesh.now) c.args.members.now c.args.rows.now l) (sym c.deref.ensures.value) c.in_ok-list.ensures) (mark_in c.in_ok-marks.marks) c.in_ok-needed.needed.items c.in_ok-marks.ensures c.in_ok-needed.ensures

pub returns-clause-apart : goal.returns-clause-apart
returns-clause-apart c =
    let start = c.in_ok-close.ensures.start ∙ c.new-grown.ensures.start in
    subst (λ (s : Names). IsApart s c.into_fresh-fresh.result) start c.into_fresh-fresh.ensures.apart

pub returns-clause-ready : goal.returns-clause-ready
returns-clause-ready c =
    let shape = shape_of c.args.mesh.now in
    let sides = across_in c.args.mesh.now in
    let old = c.args.members.now in
    let rows = c.args.rows.now in
    let checked = c.element_count-checked.ensures.checked in
    let tells = c.element_count-checked.ensures.tells in
    let list = c.deref.result.now in
    let marked = subst (λ (l : List Name). AreMarked shape old rows l) (sym c.deref.ensures.value) c.in_ok-list.ensures in
    let mark = mark_in c.in_ok-marks.marks in
    let begin = begun c.new-grown.result old c.new-grown.ensures.start c.new-grown.ensures.fresh in
    let start = c.in_ok-close.ensures.start ∙ c.new-grown.ensures.start in
    let whole = ap (λ (s : Names). union s c.close.new.members.fresh) start ∙ ap (union old) (sym c.into_fresh-fresh.ensures.fresh) in
    let refined = refined_least shape old rows c.requires.forest checked.low c.requires.fine sides tells list marked mark c.in_ok-needed.needed.items (grown_of c.new-grown.result) (union old c.into_fresh-fresh.result)
    c.in_ok-marks.ensures c.in_ok-needed.ensures begin (sym whole ∙ c.in_ok-close.ensures.least) in
    let told : (n : Name) → allowance (leaf_mark c.in_ok-leaf_marks.leaf_marks n) ≡ cond (contains {R = name_cmp} (from_list list) n && not (contains c.into_fresh-fresh.result n)) (allowance (mark n)) 0 =
    subst (λ (l : List Name). (n : Name) → allowance (leaf_mark c.in_ok-leaf_marks.leaf_marks n) ≡ cond (contains {R = name_cmp} (from_list l) n && not (contains c.into_fresh-fresh.result n)) (allowance (mark n)) 0) (c.deref-2.ensures.value ∙ sym c.deref.ensures.value) c.in_ok-leaf_marks.ensures.marks in
    ready shape sides tells old rows c.requires.forest list marked mark c.in_ok-marks.ensures (refined_by old (record { fresh = c.into_fresh-fresh.result; marks = c.in_ok-leaf_marks.leaf_marks })) refined
    (λ n. told n
    ∙ ap (λ (b : Bool). cond b (allowance (mark n)) 0) (out-of-both old c.into_fresh-fresh.result (from_list {R = name_cmp} list) n (λ m h. (marked.leaves m h).unsplit)))
    c.in_ok-leaf_marks.ensures.parents
