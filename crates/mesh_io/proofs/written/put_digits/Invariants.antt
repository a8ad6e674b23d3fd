use Rattle.std.proofs.Common.{◌≡◌, ◌-◌, ◌++◌, length, drop}
use Rattle.mesh_io.specs.Written.{padded}
use Rattle.mesh_io.proofs.written.put_digits.Given as goal

abbrev pub invariant-loop-k : goal.invariant-loop-k
invariant-loop-k l = padded (length l.text - l.k) l.rest ++ drop (length l.text - l.k) l.text ≡ padded (length l.text) l.number
