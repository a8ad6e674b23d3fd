use Rattle.std.proofs.Common.{◌≡◌, ◌<◌, ◌≤◌, ◌^◌, length}
use Rattle.mesh_io.specs.Decimals.{digits_at, after_digits, number}
use Rattle.mesh_io.proofs.decimal.few_digits.Given as goal

abbrev pub invariant-loop-rest : goal.invariant-loop-rest
invariant-loop-rest l = record {
  number : number l.size (digits_at l.rest) ≡ number l.start (digits_at l.bytes);
  rest : after_digits l.rest ≡ after_digits l.bytes;
  short : length l.rest ≤ length l.bytes;
  small : l.size < 10 ^ 18;
}

abbrev pub decreases-loop-rest : goal.decreases-loop-rest
decreases-loop-rest l = length l.rest
