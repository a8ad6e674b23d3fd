use Rattle.std.proofs.Common.{◌≡◌}
use Rattle.mesh_writer.specs.Numbers.{macro_keys}
use Rattle.mesh_writer.proofs.slots.macro_keys.Given as goal

abbrev pub invariant-loop-number : goal.invariant-loop-number
invariant-loop-number l = l.keys.items ≡ macro_keys l.number
