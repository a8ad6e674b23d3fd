use Rattle.mesh_table.specs.Told.{Stays, sight}
use Rattle.table_rounds.specs.Sweeps.{WordsTo}
use Rattle.table_rounds.proofs.sweeps.clear_all_words.Given as goal

abbrev pub invariant-loop-patch : goal.invariant-loop-patch
invariant-loop-patch l = record {
  stays : Stays l.fn.owner l.owner;
  clear : WordsTo l.table.site.layout (sight l.fn.owner) (sight l.owner) l.rolled_back l.patch-index;
}
