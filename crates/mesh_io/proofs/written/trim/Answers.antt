use Rattle.std.proofs.Common.{◌∙◌, sym, arith}
use Rattle.mesh_io.proofs.Padded.{trim_zero, trim_other}
use Rattle.mesh_io.proofs.written.trim.Goals as goal

pub loop-rest-preserved : goal.loop-rest-preserved
loop-rest-preserved c = trim_zero c.loop-rest.rest.now c.in-48.len_at_least (omega arith) ∙ c.loop-rest.invariant

pub returns-in_default-2 : goal.returns-in_default-2
returns-in_default-2 c = sym (trim_other c.loop-rest.rest.now c.in_default.len_at_least (omega arith)) ∙ c.loop-rest.invariant
