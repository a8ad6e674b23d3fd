use Rattle.macro_file.specs.Text.{vertex_of}
use Rattle.macro_file.proofs.AssemblyLemmas.{made_more}
use Rattle.soak.specs.Grid.{vertex_at}
use Rattle.soak.proofs.grids.vertices.Goals as goal

pub loop-number-preserved : goal.loop-number-preserved
loop-number-preserved c = made_more vertex_of (vertex_at c.args.side) c.loop-number.vertices.items c.push.new.self.items c.vertex_at.result c.loop-number.number c.loop-number.invariant c.in_ok-push.ensures.items c.vertex_at.ensures
