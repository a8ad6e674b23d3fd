use Rattle.std.proofs.Common.{arith}
use Rattle.mesh_io.proofs.DigitLists.{dropped_more}
use Rattle.mesh_io.proofs.decimal.more.Goals as goal

pub returns-else-head-lt-FULL-clause-heads : goal.returns-else-head-lt-FULL-clause-heads
returns-else-head-lt-FULL-clause-heads c = λ m h. dropped_more m _ _ _ c.if-head-lt-FULL.false (omega (arith, c.requires.digit)) h
