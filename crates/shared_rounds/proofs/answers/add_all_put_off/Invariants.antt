use Rattle.std.specs.Prelude.{◌≡◌, ◌++◌, take, vec_capacity}
use Rattle.shared_rounds.specs.Reached.{all_put_off}
use Rattle.shared_rounds.proofs.answers.add_all_put_off.Given as goal

abbrev pub invariant-loop-pass : goal.invariant-loop-pass
invariant-loop-pass l = record {
  items : l.names.items ≡ l.fn.names.items ++ all_put_off (take l.pass-index l.joined);
  capacity : vec_capacity l.names ≡ vec_capacity l.fn.names;
}
