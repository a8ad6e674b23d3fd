use Rattle.std.proofs.Common.{arith}
use Rattle.std.specs.Prelude.{codes}
use Rattle.std.proofs.lemmas.Result.{on_ok_weaker}
use Rattle.macro_file.specs.Text.{vertex_of}
use Rattle.macro_file.specs.Written.{point_line}
use Rattle.macro_file.proofs.WriterLemmas.{line_more, put_section}
use Rattle.macro_file.proofs.writer.put_coordinates.Goals as goal

pub loop-vertex-preserved : goal.loop-vertex-preserved
loop-vertex-preserved c = line_more point_line vertex_of c.args.vertices.now c.loop-vertex.vertex-index c.vertex-item.result _ _ _ (omega arith) c.vertex-item.is c.loop-vertex.invariant c.in_ok-put_point.ensures.ok

pub returns-clause-ok : goal.returns-clause-ok
returns-clause-ok c = on_ok_weaker c.put_text-2.result
    (put_section point_line vertex_of c.args.vertices.now (codes "vertex coordinates:") c.loop-vertex.vertex-index _ _ _ _ (omega arith) c.in_ok-put_text.ensures.ok c.loop-vertex.invariant)
    c.put_text-2.ensures.ok
