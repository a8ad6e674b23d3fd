use Rattle.std.proofs.Common.{◌≡◌, ◌/◌, ◌++◌, ◌∷◌, ◌∙◌, arith, refl, sym, ap, map, length, subst}
use Rattle.std.specs.Prelude.{All, codes, pos}
use Rattle.std.specs.List.{AllZip}
use Rattle.std.specs.Fmt.{signed_decimal}
use Rattle.std.specs.Simd.{first_chunks}
use Rattle.std.proofs.lemmas.List.{length-map}
use Rattle.mesh_names.specs.Patches.{vertex_of}
use Rattle.compat_check.specs.Meshes.{shape_of}
use Rattle.dof_transfer.specs.Held.{value_of}
use Rattle.dof_transfer.specs.VertexNames.{HasAt}
use Rattle.dof_transfer.specs.VertexValues.{value_at}
use Rattle.macro_file.specs.Written.{lines_text, list_lines, numbers_line}
use Rattle.mesh_writer.specs.MeshText.{HasSome, coordinates_line}
use Rattle.mesh_writer.specs.Numbers.{all_vertices}
use Rattle.mesh_writer.specs.Others.{AreOthers, leaf_at, rows_by}
use Rattle.mesh_writer.specs.Triples.{numbers as corner_numbers}
use Rattle.mesh_writer.proofs.Adding.{Laws}
use Rattle.mesh_writer.proofs.Leaves.{all_written}
use Rattle.mesh_writer.proofs.WholeText.{by_numbers, rows_are, whole_text}
use Rattle.mesh_writer.proofs.WrittenValues.{as_many, found, keys_have, vertices_found, written_have}
use Rattle.mesh_writer.proofs.text.mesh_text.Goals as goal

pub vertex_values-requires-clause-values : goal.vertex_values-requires-clause-values
vertex_values-requires-clause-values g c =
    let mesh = c.args.mesh.now in
    let held = c.args.vertices.now in
    let laws : Laws mesh = record { only = c.partner_is_only.ensures; pairs = c.partners_pair.ensures; tells = c.element_count-count.ensures.tells } in
    keys_have mesh laws held c.in_ok-known.known.keys.items c.in_ok-known.ensures.numbers.keys
    (subst (All (HasSome mesh held)) (sym c.in_ok-known.ensures.written) (written_have mesh c.args.leaves.now held c.requires.vertex_values))

pub returns : goal.returns
returns g c =
    let mesh = c.args.mesh.now in
    let shape = shape_of mesh in
    let leaves = c.args.leaves.now in
    let keys = c.in_ok-known.known.keys.items in
    let written = all_vertices mesh leaves in
    let all = all_written shape (length mesh.vertices) leaves written refl in
    let numbers = c.in_ok-known.ensures.numbers in
    let held = c.args.vertices.now in
    let vs = c.in_ok-of_vertices.of_vertices.items in
    let es = c.in_ok-of_elements.of_elements.items in
    let vertex_zip = subst (λ w. AllZip (HasAt mesh held) w vs) c.in_ok-known.ensures.written (vertices_found mesh held keys vs numbers.keys (found (value_at held) keys vs c.in_ok-of_vertices.ensures)) in
    let leaf_zip = found (value_of c.args.elements.now) leaves es c.in_ok-of_elements.ensures in
    let triples = c.in_ok-known.known.triples.items in
    let others = c.in_ok-others.others.items in
    let known : AreOthers triples others = subst (λ ts. AreOthers ts others) c.deref-4.ensures.value c.in_ok-others.ensures in
    let rows = rows_are shape c.element_count-count.ensures.checked.valid written leaves c.requires.order c.requires.leaves all triples numbers.triples others known in
    let given = c.deref-5.result.now in
    let same_length : length triples ≡ length leaves = ap length numbers.triples ∙ length-map leaves (corner_numbers shape written) in
    let count : length given / 3 ≡ length leaves = omega (arith, ap length c.deref-5.ensures.value, known.each, same_length) in
    let chunks = c.as_chunks.ensures.front ∙ (λ i. first_chunks 3 (count i) (c.deref-5.ensures.value i)) in
    record {
      vertex_values = vs;
      of_vertices = vertex_zip;
      element_values = es;
      of_leaves = leaf_zip;
      is = whole_text mesh leaves written vs es c.count.result c.in_ok-known.known.points.items (map (map pos) triples) c.in_ok-known.known.labels.items (rows_by others (length leaves))
          c.new-text.result.items _ _ _ _ _ _ _
          refl
          (as_many (HasAt mesh held) written vs vertex_zip)
          (as_many _ leaves es leaf_zip)
          (c.count.ensures ∙ sym (length-map keys (vertex_of shape)) ∙ ap length c.in_ok-known.ensures.written)
          numbers.points
          (ap (map (map pos)) numbers.triples)
          numbers.labels
          rows
          c.new-text.ensures.items
          c.in_ok-put_head.ensures
          (c.in_ok-put_list.ensures ∙ ap (λ ps. c.put_head.new.text.items ++ lines_text (list_lines (codes "vertex coordinates:") coordinates_line ps)) c.deref.ensures.value)
          (by_numbers (map pos) (codes "element vertices:") c.put_list.new.text.items c.put_list-2.new.text.items triples (c.in_ok-put_list-2.ensures ∙ ap (λ ts. c.put_list.new.text.items ++ lines_text (list_lines (codes "element vertices:") (λ t. numbers_line (map pos t)) ts)) c.deref-2.ensures.value))
          (c.in_ok-put_list-3.ensures ∙ ap (λ rs. c.put_list-2.new.text.items ++ lines_text (list_lines (codes "element boundaries:") numbers_line rs)) c.deref-3.ensures.value)
          (by_numbers (map leaf_at) (codes "element neighbours:") c.put_list-3.new.text.items c.put_list-4.new.text.items (first_chunks 3 (length leaves) others) (c.in_ok-put_list-4.ensures ∙ ap (λ cs. c.put_list-3.new.text.items ++ lines_text (list_lines (codes "element neighbours:") (λ places. numbers_line (map leaf_at places)) cs)) chunks))
          (c.in_ok-put_list-5.ensures ∙ ap (λ xs. c.put_list-4.new.text.items ++ lines_text (list_lines (codes "vertex values:") signed_decimal xs)) c.deref-6.ensures.value)
          (c.in_ok-put_last_list.ensures ∙ ap (λ xs. c.put_list-5.new.text.items ++ lines_text (codes "element values:" ∷ map signed_decimal xs)) c.deref-7.ensures.value);
    }
