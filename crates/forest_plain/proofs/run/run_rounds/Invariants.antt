use Rattle.std.proofs.Common.{◌≡◌, ◌≤◌, false, length, take}
use Rattle.std.specs.Prelude.{vec_capacity}
use Rattle.forest_plain.specs.Runs.{AreDone}
use Rattle.forest_plain.proofs.run.run_rounds.Given as goal

abbrev pub invariant-loop-round : goal.invariant-loop-round
invariant-loop-round g l = record {
  counted : l.index ≡ l.round-index;
  listed : length l.deltas.items ≡ l.round-index;
  room : length l.rounds ≤ vec_capacity l.deltas;
  closed : (g.F.Forest.seen l.forest).is_open ≡ false;
  done : AreDone g.F.Forest.seen g.F.Forest.kept (take l.round-index l.rounds) l.deltas.items l.fn.forest l.forest;
}
