use Rattle.std.proofs.Common.{◌++◌, ◌∷◌, [], ◌∙◌, ap, arith, rules}
use Rattle.std.specs.Prelude.{codes}
use Rattle.std.specs.Fmt.{signed_decimal}
use Rattle.std.proofs.lemmas.Result.{on_ok_weaker}
use Rattle.std.proofs.lemmas.Int.{to_z-of_z}
use mir.Val.{SFits}
use mir.Syntax.{w64}
use Rattle.macro_file.specs.Meaning.{Vertex}
use Rattle.macro_file.specs.Text.{vertex_of}
use Rattle.macro_file.proofs.WriterLemmas.{line_more, put_section}
use Rattle.macro_file.proofs.writer.put_vertex_values.Goals as goal

pub loop-vertex-preserved : goal.loop-vertex-preserved
loop-vertex-preserved c =
    let fits : SFits w64 c.vertex-item.result.value = search rules in
    line_more (λ (v : Vertex). signed_decimal v.value) vertex_of c.args.vertices.now c.loop-vertex.vertex-index c.vertex-item.result _ _ _ (omega arith) c.vertex-item.is c.loop-vertex.invariant (c.in_ok-put_value.ensures.ok ∙ ap (λ z. c.loop-vertex.to.items ++ (signed_decimal z ++ 10 ∷ [])) (to_z-of_z w64 _ fits))

pub returns-clause-ok : goal.returns-clause-ok
returns-clause-ok c = on_ok_weaker c.put_text-2.result
    (put_section (λ (v : Vertex). signed_decimal v.value) vertex_of c.args.vertices.now (codes "vertex values:") c.loop-vertex.vertex-index _ _ _ _ (omega arith) c.in_ok-put_text.ensures.ok c.loop-vertex.invariant)
    c.put_text-2.ensures.ok
