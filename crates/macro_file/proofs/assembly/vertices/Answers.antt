use Rattle.macro_file.specs.Meaning.{vertex}
use Rattle.macro_file.specs.Text.{vertex_of}
use Rattle.macro_file.proofs.AssemblyLemmas.{made_more}
use Rattle.macro_file.proofs.assembly.vertices.Goals as goal

pub loop-i-preserved : goal.loop-i-preserved
loop-i-preserved c = made_more vertex_of (vertex c.numbers_of-coordinates.result.now c.numbers_of-values.result.now) c.loop-i.vertices.items c.push.new.list.items c.vertex_at.result c.loop-i.i c.loop-i.invariant c.in_ok-push.ensures.ok c.vertex_at.ensures
