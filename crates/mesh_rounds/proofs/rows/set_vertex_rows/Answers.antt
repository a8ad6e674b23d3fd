use Rattle.mesh_names.specs.Patches.{vertex_of}
use Rattle.mesh_names.specs.declared.patch.VertexKey.{VertexKey}
use Rattle.compat_check.specs.Meshes.{shape_of}
use Rattle.mesh_rounds.specs.Setting.{vertex_holding}
use Rattle.mesh_rounds.specs.Taking.{IsProper, MeansVertex}
use Rattle.mesh_rounds.proofs.Lasts.{set-more}
use Rattle.mesh_rounds.proofs.rows.set_vertex_rows.Goals as goal

pub loop-row-preserved : goal.loop-row-preserved
loop-row-preserved c =
    set-more vertex_holding (IsProper c.args.mesh.now) (λ (key : VertexKey). MeansVertex (shape_of c.args.mesh.now) c.args.leaves.now (vertex_of (shape_of c.args.mesh.now) key)) c.args.rows.now c.loop-row.row-index c.row-item.result c.args.vertices.now c.loop-row.vertices c.set_vertex_row.new.vertices c.loop-row-test.true c.row-item.is c.loop-row.invariant c.set_vertex_row.ensures
