use Rattle.mesh_table.specs.Told.{Stays, sight}
use Rattle.table_rounds.specs.Drained.{AllDrained, MoreDrained}
use Rattle.table_rounds.proofs.clearing.drained_rounds.Given as goal

abbrev pub invariant-loop-round : goal.invariant-loop-round
invariant-loop-round l = record {
  stays : Stays l.fn.owner l.owner;
  more : MoreDrained (sight l.fn.owner) (sight l.owner);
  drained : AllDrained (sight l.owner) l.round;
}
