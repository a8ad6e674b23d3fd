use Rattle.std.proofs.Common.{arith, map}
use Rattle.std.specs.Prelude.{codes, pos}
use Rattle.std.proofs.lemmas.Result.{on_ok_weaker}
use Rattle.macro_file.specs.Meaning.{Element}
use Rattle.macro_file.specs.Text.{element_of}
use Rattle.macro_file.specs.Written.{numbers_line}
use Rattle.macro_file.proofs.WriterLemmas.{line_more, put_section}
use Rattle.macro_file.proofs.writer.put_triples.Goals as goal

pub loop-element-preserved : goal.loop-element-preserved
loop-element-preserved c = line_more (λ (e : Element). numbers_line (map pos e.corners)) element_of c.args.elements.now c.loop-element.element-index c.element-item.result _ _ _ (omega arith) c.element-item.is c.loop-element.invariant c.in_ok-put_corners.ensures.ok

pub returns-clause-ok : goal.returns-clause-ok
returns-clause-ok c = on_ok_weaker c.put_text-2.result
    (put_section (λ (e : Element). numbers_line (map pos e.corners)) element_of c.args.elements.now (codes "element vertices:") c.loop-element.element-index _ _ _ _ (omega arith) c.in_ok-put_text.ensures.ok c.loop-element.invariant)
    c.put_text-2.ensures.ok
