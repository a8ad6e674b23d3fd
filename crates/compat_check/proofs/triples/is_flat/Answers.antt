use Rattle.std.proofs.Common.{refl, length}
use Rattle.std.proofs.lemmas.Option.{slice_get_read}
use Rattle.mesh_names.specs.Triangles.{corner_of}
use Rattle.compat_check.proofs.Areas.{corners_inside, flat_answer}
use Rattle.compat_check.proofs.triples.is_flat.Goals as goal

pub returns : goal.returns
returns c =
    let vertices = c.args.vertices.now in
    let inside = corners_inside (length vertices) c.args.triple.now c.requires in
    flat_answer vertices c.args.triple.now c.index-vertices-triple.result c.index-vertices-triple-2.result c.index-vertices-triple-3.result c.are_in_line.result
    (slice_get_read vertices (length vertices) (corner_of c.args.triple.now 0) c.index-vertices-triple.result refl inside.0 c.index-vertices-triple.is)
    (slice_get_read vertices (length vertices) (corner_of c.args.triple.now 1) c.index-vertices-triple-2.result refl inside.1 c.index-vertices-triple-2.is)
    (slice_get_read vertices (length vertices) (corner_of c.args.triple.now 2) c.index-vertices-triple-3.result refl inside.2 c.index-vertices-triple-3.is)
    c.are_in_line.ensures
