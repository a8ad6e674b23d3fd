use Rattle.std.proofs.Common.{ap, sym, ◌∙◌, rules, get_or}
use Rattle.std.specs.Prelude.{Some}
use Rattle.std.proofs.lemmas.Option.{slice_get-get_or}
use Rattle.compat_check.specs.Meshes.{Mesh}
use Rattle.compat_check.proofs.Vertices.{same_vertex}
use Rattle.compat_check.proofs.mesh.MacroMesh.vertex.Goals as goal

pub returns : goal.returns
returns c =
    let read = c.index-vertex.ensures ∙ ap (λ (m : Mesh). get_or m.vertices c.args.vertex c.index-vertex.result.now) c.self.view_is in
    slice_get-get_or c.args.self.now.vertices c.args.vertex c.index-vertex.result.now c.requires ∙ ap Some (sym read ∙ same_vertex c.index-vertex.result.now _ (search rules) (search rules) (search rules))
