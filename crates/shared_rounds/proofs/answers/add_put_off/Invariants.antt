use Rattle.std.specs.Prelude.{◌≡◌, ◌++◌, take, vec_capacity}
use Rattle.shared_rounds.specs.Reached.{put_off}
use Rattle.shared_rounds.proofs.answers.add_put_off.Given as goal

abbrev pub invariant-loop-place : goal.invariant-loop-place
invariant-loop-place l = record {
  items : l.names.items ≡ l.fn.names.items ++ put_off (take l.place l.dealt) (take l.place l.answers);
  capacity : vec_capacity l.names ≡ vec_capacity l.fn.names;
}
