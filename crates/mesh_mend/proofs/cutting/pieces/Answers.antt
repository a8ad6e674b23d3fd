use Rattle.macro_file.specs.Text.{element_of}
use Rattle.macro_file.proofs.AssemblyLemmas.{made_more}
use Rattle.mesh_mend.specs.Mended.{piece}
use Rattle.mesh_mend.proofs.cutting.pieces.Goals as goal

pub loop-number-preserved : goal.loop-number-preserved
loop-number-preserved c = made_more element_of (piece c.args.text.now) c.loop-number.pieces.items c.push.new.self.items c.piece.result c.loop-number.number c.loop-number.invariant c.in_ok-push.ensures.items c.piece.ensures
