use Rattle.std.proofs.Common.{List, ap, ◌∙◌}
use Rattle.std.specs.FinSet.{from_list}
use Rattle.std.proofs.lemmas.List.{take_all}
use Rattle.std.proofs.lemmas.List.Filters.{dedup_is}
use Rattle.mesh_names.specs.Names.{Name, name_cmp, name_eq}
use Rattle.mesh_names.specs.declared.rows.MarkRow.{MarkRow}
use Rattle.forest_plain.proofs.LeafSets.{listed}
use Rattle.forest_tree.specs.Marked.{marked_names}
use Rattle.forest_tree.proofs.RowNames.{named-next}
use Rattle.forest_tree.proofs.marked.named_leaves.Goals as goal

pub loop-row-preserved : goal.loop-row-preserved
loop-row-preserved c = named-next c.args.rows.now c.loop-row.row-index c.row-item.result _ c.loop-row-test.true c.row-item.is c.loop-row.found.items c.add_named.new.found.items c.loop-row.invariant c.in_ok-add_named.ensures

pub returns : goal.returns
returns c =
    (listed c.loop-row.found.items _ c.dedup.new.self.items c.sort_unstable.ensures.permutation c.sort_unstable.ensures.sorted (dedup_is name_eq _ _ c.dedup.ensures.filtered)).all
    ∙ ap (λ (l : List Name). from_list {R = name_cmp} l) c.loop-row.invariant
    ∙ ap (λ (rows : List MarkRow). from_list {R = name_cmp} (marked_names rows)) (take_all c.loop-row.row-index c.args.rows.now c.loop-row-test.false)
