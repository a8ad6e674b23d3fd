use Rattle.std.proofs.Common.{◌≡◌, ◌≤◌, ◌-◌, ◌++◌, length, take}
use Rattle.std.specs.Prelude.{IfSome, Some}
use Rattle.mesh_io.proofs.sink.put_all.Given as goal

abbrev pub invariant-loop-at : goal.invariant-loop-at
invariant-loop-at g l = record {
  within : l.at ≤ length l.text;
  calm : g.O.Sink.faults l.sink ≡ g.O.Sink.faults l.fn.sink;
  held : IfSome (g.O.Sink.holds l.fn.sink) (λ held. g.O.Sink.holds l.sink ≡ Some (held ++ take l.at l.text));
}

abbrev pub decreases-loop-at : goal.decreases-loop-at
decreases-loop-at g l = length l.initial.text - l.at
