use Rattle.macro_file.proofs.NumberLemmas.{Digits}
use Rattle.macro_file.proofs.numbers.size_of.Given as goal

abbrev pub invariant-loop-byte : goal.invariant-loop-byte
invariant-loop-byte l = Digits l.digits l.byte-index l.size
