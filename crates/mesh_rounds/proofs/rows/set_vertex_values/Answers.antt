use Rattle.std.proofs.Common.{List, subst}
use Rattle.mesh_names.specs.declared.rows.MarkRow.{MarkRow}
use Rattle.mesh_names.specs.Patches.{vertex_of}
use Rattle.mesh_names.specs.declared.patch.VertexKey.{VertexKey}
use Rattle.compat_check.specs.Meshes.{shape_of}
use Rattle.mesh_rounds.specs.Setting.{vertex_holding}
use Rattle.mesh_rounds.specs.Taking.{IsProper, MeansVertex, VerticesSet}
use Rattle.mesh_rounds.proofs.Lasts.{set-from}
use Rattle.mesh_rounds.proofs.Overruled.{rest-all, vertices-overruled}
use Rattle.mesh_rounds.proofs.rows.set_vertex_values.Goals as goal

pub returns : goal.returns
returns c =
    set-from vertex_holding (IsProper c.args.mesh.now) (λ (key : VertexKey). MeansVertex (shape_of c.args.mesh.now) c.args.leaves.now (vertex_of (shape_of c.args.mesh.now) key)) c.args.rows.now c.start-start.result c.args.vertices.now c.set_vertex_rows.new.vertices c.start-start.ensures.within
    (λ key there. vertices-overruled (shape_of c.args.mesh.now) c.args.leaves.now c.args.rows.now c.start-start.result (vertex_of (shape_of c.args.mesh.now) key) c.start-start.ensures.start c.requires.every)
    (subst (λ (l : List MarkRow). VerticesSet c.args.mesh.now c.args.leaves.now l c.args.vertices.now c.set_vertex_rows.new.vertices) (rest-all c.args.rows.now c.start-start.result) c.set_vertex_rows.ensures)
