use Rattle.std.proofs.Common.{◌≡◌, ◌∙◌, sym, subst, [], ◌∷◌, List}
use Rattle.std.specs.List.Sorted.{IsStrictlySortedBy}
use Rattle.mesh_names.specs.Names.{Name, name_cmp}
use Rattle.mesh_writer.specs.MeshText.{HaveValues}
use Rattle.mesh_writer.proofs.MacroValues.{both, both_corners_have, both_sorted}
use Rattle.mesh_writer.proofs.tests.text_of_two.Goals as goal

are_both : (m n : Name) → m ≡ (0, []) → n ≡ (1, []) → both ≡ m ∷ n ∷ []
are_both m n e f = λ i. sym e i ∷ sym f i ∷ []

pub mesh_text-requires-clause-order : goal.mesh_text-requires-clause-order
mesh_text-requires-clause-order g c κs within = subst (IsStrictlySortedBy name_cmp) (are_both c.top.result c.top-2.result c.top.ensures c.top-2.ensures) both_sorted

pub mesh_text-requires-clause-vertex_values : goal.mesh_text-requires-clause-vertex_values
mesh_text-requires-clause-vertex_values g c κs within =
    subst (λ (leaves : List Name). HaveValues c.args.mesh.now leaves c.in-Ok.vertices) (are_both c.top.result c.top-2.result c.top.ensures c.top-2.ensures)
    (both_corners_have c.args.mesh.now c.element_count.ensures.checked (sym c.element_count.ensures.count ∙ c.if-element_count-ne2.false) c.in-Ok.vertices c.in-Ok.ensures)
