use Rattle.std.proofs.Common.{◌≡◌, ◌∷◌, ◌++◌, ◌∙◌, sym, ap, map, length}
use Rattle.std.specs.Prelude.{pos, codes}
use Rattle.std.specs.Fmt.{signed_decimal}
use Rattle.std.proofs.lemmas.List.{length-map}
use Rattle.macro_file.specs.Meaning.{Vertex, Element, meaning}
use Rattle.macro_file.specs.Text.{vertex_of, element_of, macro_of}
use Rattle.macro_file.specs.Written.{lines_text, numbers_line, point_line, list_lines, head_lines}
use Rattle.macro_file.proofs.ReadingBack.{written_back}
use Rattle.macro_file.proofs.Texts.{text_is_macro}
use Rattle.macro_file.proofs.WriterLemmas.{all_text}
use Rattle.macro_file.proofs.writer.put_macro.Goals as goal

pub returns-clause-ok : goal.returns-clause-ok
returns-clause-ok c =
    let t = c.args.text.now in
    let v = c.as_slice-vertices.ensures.value in
    let e = c.as_slice-elements.ensures.value in
    let vs : length c.as_slice-vertices.result.now ≡ length (map vertex_of t.vertices.items) = ap length v ∙ sym (length-map t.vertices.items vertex_of) in
    let es : length c.as_slice-elements.result.now ≡ length (map element_of t.elements.items) = ap length e ∙ sym (length-map t.elements.items element_of) in
    all_text (macro_of t) c.new-to.result.items _ _ _ _ _ _ _ c.new-to.ensures.items
    (c.in_ok-put_head.ensures.ok ∙ (λ i. c.new-to.result.items ++ lines_text (head_lines (vs i) (es i))))
    (c.in_ok-put_coordinates.ensures.ok ∙ ap (λ xs. c.put_head.new.to.items ++ lines_text (list_lines (codes "vertex coordinates:") point_line (map vertex_of xs))) v)
    (c.in_ok-put_triples.ensures.ok ∙ ap (λ xs. c.put_coordinates.new.to.items ++ lines_text (list_lines (codes "element vertices:") (λ (e : Element). numbers_line (map pos e.corners)) (map element_of xs))) e)
    c.in_ok-put_given_labels.ensures.ok
    c.in_ok-put_given_neighbours.ensures.ok
    (c.in_ok-put_vertex_values.ensures.ok ∙ ap (λ xs. c.put_given_neighbours.new.to.items ++ lines_text (list_lines (codes "vertex values:") (λ (v : Vertex). signed_decimal v.value) (map vertex_of xs))) v)
    (c.in_ok-put_element_values.ensures.ok ∙ ap (λ xs. c.put_vertex_values.new.to.items ++ lines_text (codes "element values:" ∷ map (λ (e : Element). signed_decimal e.value) (map element_of xs))) e)

pub returns-clause-again : goal.returns-clause-again
returns-clause-again c = let m = macro_of c.args.text.now in ap meaning (returns-clause-ok c) ∙ written_back m (text_is_macro c.args.text.now)
