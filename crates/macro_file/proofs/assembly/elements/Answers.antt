use Rattle.macro_file.specs.Meaning.{element}
use Rattle.macro_file.specs.Text.{element_of}
use Rattle.macro_file.proofs.AssemblyLemmas.{made_more}
use Rattle.macro_file.proofs.assembly.elements.Goals as goal

pub loop-e-preserved : goal.loop-e-preserved
loop-e-preserved c =
    made_more element_of (element c.numbers_of-corners.result.now c.numbers_of-labels.result.now c.numbers_of-neighbours.result.now c.numbers_of-values.result.now)
    c.loop-e.elements.items c.push.new.list.items c.element_at-element.result c.loop-e.e c.loop-e.invariant c.in_ok-push.ensures.ok c.element_at-element.ensures
