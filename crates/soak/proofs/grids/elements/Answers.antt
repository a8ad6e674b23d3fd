use Rattle.macro_file.specs.Text.{element_of}
use Rattle.macro_file.proofs.AssemblyLemmas.{made_more}
use Rattle.soak.specs.Grid.{element_at}
use Rattle.soak.proofs.grids.elements.Goals as goal

pub loop-number-preserved : goal.loop-number-preserved
loop-number-preserved c = made_more element_of (element_at c.args.side) c.loop-number.elements.items c.push.new.self.items c.element_at.result c.loop-number.number c.loop-number.invariant c.in_ok-push.ensures.items c.element_at.ensures
