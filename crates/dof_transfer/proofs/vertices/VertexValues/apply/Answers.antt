use Rattle.std.proofs.Common.{List, ap, ◌∙◌, subst}
use Rattle.mesh_names.specs.declared.patch.PatchName.{PatchName}
use Rattle.dof_transfer.specs.Held.{all_given_back}
use Rattle.dof_transfer.specs.VertexLedgers.{vertices_of}
use Rattle.dof_transfer.specs.VertexValues.{AreMade, VertexHeld, owners}
use Rattle.dof_transfer.proofs.NamedVertices.{Laws, vertex-values}
use Rattle.dof_transfer.proofs.vertices.VertexValues.apply.Goals as goal

pub returns-clause-ok : goal.returns-clause-ok
returns-clause-ok c =
    let made : VertexHeld = vertices_of c.make_all.new.self in
    record {
      made = made;
      are_made = subst (λ (l : List PatchName). AreMade c.args.mesh.now c.args.self.now l made) c.deref-2.ensures.value
          (subst (λ (h : VertexHeld). AreMade c.args.mesh.now h c.deref-2.result.now made) (c.in_ok-prepare.ensures.same ∙ c.self.view_is) c.make_all.ensures.made);
      is = c.remove_all.ensures.removed ∙ ap {B = VertexHeld} (λ (ps : List PatchName). record { macros = made.macros; patches = all_given_back made.patches (owners ps) }) c.deref-3.ensures.value;
    }

pub returns-clause-values : goal.returns-clause-values
returns-clause-values c = λ before after forest of transition.
    let laws : Laws c.args.mesh.now = record { only = c.partner_is_only.ensures; pairs = c.partners_pair.ensures; tells = c.element_count-checked.ensures.tells } in
    vertex-values c.args.mesh.now laws c.args.self.now (vertices_of c.remove_all.new.self) c.args.delta.now.born.items c.args.delta.now.died.items before after forest.rooted of transition (returns-clause-ok c)
