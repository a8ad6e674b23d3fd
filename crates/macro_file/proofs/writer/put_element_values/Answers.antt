use Rattle.std.proofs.Common.{◌++◌, ◌∷◌, [], ◌∙◌, ap, arith, rules}
use Rattle.std.specs.Prelude.{codes}
use Rattle.std.specs.Fmt.{signed_decimal}
use Rattle.std.proofs.lemmas.Int.{to_z-of_z}
use mir.Val.{SFits}
use mir.Syntax.{w64}
use Rattle.macro_file.specs.Meaning.{Element}
use Rattle.macro_file.specs.Text.{element_of}
use Rattle.macro_file.proofs.WriterLemmas.{line_more, put_all}
use Rattle.macro_file.proofs.writer.put_element_values.Goals as goal

pub loop-element-preserved : goal.loop-element-preserved
loop-element-preserved c =
    let fits : SFits w64 c.element-item.result.value = search rules in
    line_more (λ (e : Element). signed_decimal e.value) element_of c.args.elements.now c.loop-element.element-index c.element-item.result _ _ _ (omega arith) c.element-item.is c.loop-element.invariant (c.in_ok-put_value.ensures.ok ∙ ap (λ z. c.loop-element.to.items ++ (signed_decimal z ++ 10 ∷ [])) (to_z-of_z w64 _ fits))

pub returns-clause-ok : goal.returns-clause-ok
returns-clause-ok c = put_all (λ (e : Element). signed_decimal e.value) element_of c.args.elements.now (codes "element values:") c.loop-element.element-index _ _ _ (omega arith) c.in_ok-put_text.ensures.ok c.loop-element.invariant
