use Rattle.mesh_table.specs.Told.{Stays, sight}
use Rattle.table_rounds.specs.Sweeps.{ClearTo}
use Rattle.table_rounds.proofs.sweeps.sweep_all.Given as goal

abbrev pub invariant-loop-patch : goal.invariant-loop-patch
invariant-loop-patch l = record {
  stays : Stays l.fn.owner l.owner;
  clear : ClearTo l.table.site.layout (sight l.fn.owner) (sight l.owner) l.kept l.patch-index;
}
