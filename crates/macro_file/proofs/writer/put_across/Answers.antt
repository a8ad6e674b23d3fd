use Rattle.std.proofs.Common.{arith}
use Rattle.std.specs.Prelude.{codes}
use Rattle.std.proofs.lemmas.Result.{on_ok_weaker}
use Rattle.macro_file.specs.Meaning.{Element}
use Rattle.macro_file.specs.Text.{element_of}
use Rattle.macro_file.specs.Written.{numbers_line}
use Rattle.macro_file.proofs.WriterLemmas.{line_more, put_section}
use Rattle.macro_file.proofs.writer.put_across.Goals as goal

pub loop-element-preserved : goal.loop-element-preserved
loop-element-preserved c = line_more (λ (e : Element). numbers_line e.neighbours) element_of c.args.elements.now c.loop-element.element-index c.element-item.result _ _ _ (omega arith) c.element-item.is c.loop-element.invariant c.in_ok-put_neighbours.ensures.ok

pub returns-clause-ok : goal.returns-clause-ok
returns-clause-ok c = on_ok_weaker c.put_text-2.result
    (put_section (λ (e : Element). numbers_line e.neighbours) element_of c.args.elements.now (codes "element neighbours:") c.loop-element.element-index _ _ _ _ (omega arith) c.in_ok-put_text.ensures.ok c.loop-element.invariant)
    c.put_text-2.ensures.ok
