use Rattle.std.proofs.Common.{◌==◌, arith}
use Rattle.std.proofs.lemmas.Bool.{eq-eqb}
use Rattle.macro_file.proofs.Cuts.{first_is, none_is}
use Rattle.locate_point.proofs.words.to_newline.Goals as goal

pub returns-then-byte-eq10-clause-value : goal.returns-then-byte-eq10-clause-value
returns-then-byte-eq10-clause-value c = first_is (λ b. b == 10) c.args.bytes.now _ (omega arith) c.loop-i.invariant (eq-eqb _ _ c.if-byte-eq10.true)

pub returns-clause-value : goal.returns-clause-value
returns-clause-value c = none_is (λ b. b == 10) c.args.bytes.now c.loop-i.i (omega arith) c.loop-i.invariant
