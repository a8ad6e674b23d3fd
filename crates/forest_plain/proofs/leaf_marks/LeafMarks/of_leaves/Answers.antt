use mir.Syntax.{w64}
use Rattle.std.specs.FinSet.{from_list}
use Rattle.mesh_names.specs.Names.{Name}
use Rattle.mesh_names.specs.Forests.{Has}
use Rattle.forest_plain.specs.declared.leaf_marks.LeafMarks.{LeafMarks}
use Rattle.std.proofs.Common.{Bool, subst, take, ◌<◌, ◌≡◌, ap, sym, ◌∙◌, to_z, of_z, arith}
use Rattle.std.proofs.lemmas.Int.{ints}
use Rattle.mesh_names.specs.Coarsening.{allowance, child_at}
use Rattle.forest_plain.specs.LeafMarks.{leaf_mark}
use Rattle.forest_plain.specs.MarkMaps.{mark_in}
use Rattle.forest_plain.proofs.Keeping.{none_allowed, kept_next, skipped_next, parent_kept}
use Rattle.forest_plain.proofs.leaf_marks.LeafMarks.of_leaves.Goals as goal
use Rattle.forest_plain.proofs.leaf_marks.LeafMarks.of_leaves.Goals.{then-not-contains+in_ok-add, else-not-contains}

pub loop-leaf-init : goal.loop-leaf-init
loop-leaf-init c = record {
  marks = λ n. ap allowance (c.new-found.ensures.marks n) ∙ sym (none_allowed c.args.refined.now (mark_in c.args.marks.now) n);
  parents = λ n side l. let z = ap allowance (c.new-found.ensures.marks (child_at n side)) in absurd (omega (arith, z, l));
}

pub loop-leaf-preserved : goal.loop-leaf-preserved
loop-leaf-preserved c =
    let refined = c.args.refined.now in
    let mark = mark_in c.args.marks.now in
    let leaf = c.leaf-item.result in
    let old = leaf_mark c.loop-leaf.found in
    let new = leaf_mark c.if-not-contains.found in
    elim c.if-not-contains.branch [
      | then-not-contains+in_ok-add w ↦
          let m = to_z w64 (of_z w64 w.of.result) in
          let whole : m ≡ w.of.result = omega (arith, ints) in
          let out = sym c.contains.ensures ∙ w.if-not-contains.true in
          let step = λ (n : Name). ap (λ (f : LeafMarks). leaf_mark f n) w.found-is ∙ w.in_ok-add.ensures.marks n in
          record {
            marks = kept_next refined mark c.args.leaves.now c.loop-leaf.leaf-index leaf _ c.loop-leaf-test.true c.leaf-item.is out m (whole ∙ w.of.ensures) old new c.loop-leaf.invariant.marks step;
            parents = parent_kept refined mark (take c.loop-leaf.leaf-index c.args.leaves.now) leaf out m (whole ∙ w.of.ensures) old new c.loop-leaf.invariant.marks step c.loop-leaf.found.parents.items c.if-not-contains.found.parents.items
                (ap (λ (f : LeafMarks). f.parents.items) w.found-is ∙ w.in_ok-add.ensures.parents) c.loop-leaf.invariant.parents;
          }
      | else-not-contains w ↦ record {
        marks = skipped_next refined mark c.args.leaves.now c.loop-leaf.leaf-index leaf _ c.loop-leaf-test.true c.leaf-item.is (sym c.contains.ensures ∙ w.if-not-contains.false) old new c.loop-leaf.invariant.marks (λ n. ap (λ (f : LeafMarks). leaf_mark f n) w.found-is);
        parents = subst (λ (f : LeafMarks). (n : Name) (side : Bool) → 0 < allowance (leaf_mark f (child_at n side)) → Has (from_list f.parents.items) n) (sym w.found-is) c.loop-leaf.invariant.parents;
      }
    ]
