use Rattle.std.specs.Prelude.{◌≡◌, ◌++◌, map, vec_capacity}
use Rattle.shared_rounds.specs.Gathered.{all_held}
use Rattle.shared_rounds.proofs.gathering.add_all_held.Given as goal

abbrev pub invariant-loop-pass : goal.invariant-loop-pass
invariant-loop-pass l = record {
  items : l.held.items ≡ l.fn.held.items ++ all_held (map (λ d. d.lists) l.yielded);
  capacity : vec_capacity l.held ≡ vec_capacity l.fn.held;
}
