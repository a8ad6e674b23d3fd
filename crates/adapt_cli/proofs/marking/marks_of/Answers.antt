use Rattle.std.proofs.Common.{◌++◌, ◌∙◌, ◌≡◌, ap, arith, map, take}
use Rattle.std.specs.List.{concat}
use Rattle.std.proofs.lemmas.List.{take_all}
use Rattle.mesh_names.specs.Names.{Name}
use Rattle.mesh_names.specs.declared.rows.MarkRow.{MarkRow}
use Rattle.mark_file.specs.Written.{row_line}
use Rattle.adapt_cli.specs.Marks.{marking}
use Rattle.adapt_cli.proofs.MarkOutcomes.{lines_more}
use Rattle.adapt_cli.proofs.marking.marks_of.Goals as goal

pub loop-name-preserved : goal.loop-name-preserved
loop-name-preserved c =
    let text = c.loop-name.text.items in
    c.in_ok-put_row.ensures.ok
    ∙ ap (λ (r : MarkRow). text ++ row_line c.args.round r) c.marking.ensures
    ∙ ap (λ (n : Name). text ++ row_line c.args.round (marking n)) c.name-item.is
    ∙ lines_more (λ (n : Name). row_line c.args.round (marking n)) c.in_ok-text.text.items c.args.names.now c.loop-name.name-index c.name-item.result text (omega arith) c.loop-name.invariant

pub returns : goal.returns
returns c =
    let all : take c.loop-name.name-index c.args.names.now ≡ c.args.names.now = take_all c.loop-name.name-index c.args.names.now (omega arith) in
    c.loop-name.invariant ∙ (λ i. c.in_ok-text.ensures i ++ concat (map (λ (n : Name). row_line c.args.round (marking n)) (all i)))
