use Rattle.std.proofs.Common.{List, subst, ◌∙◌}
use Rattle.std.proofs.lemmas.List.{take_all}
use Rattle.mesh_names.specs.declared.rows.MarkRow.{MarkRow}
use Rattle.forest_tree.proofs.RowNames.{OthersMarked, marked-next, none-marked}
use Rattle.forest_tree.proofs.marked.marks_others.Goals as goal

pub loop-row-init : goal.loop-row-init
loop-row-init c = none-marked

pub loop-row-preserved : goal.loop-row-preserved
loop-row-preserved c = marked-next c.args.rows.now c.loop-row.row-index c.row-item.result _ c.loop-row.marked _ c.loop-row-test.true c.row-item.is c.loop-row.invariant c.marks_others_after-marked.ensures.every c.marks_others_after-marked.ensures.other

pub returns : goal.returns
returns c = λ e n out.
    let all = subst (λ (rows : List MarkRow). OthersMarked rows c.loop-row.marked) (take_all c.loop-row.row-index c.args.rows.now c.loop-row-test.false) c.loop-row.invariant in
    all.others n out ∙ all.zero_mark e
