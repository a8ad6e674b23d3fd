use Rattle.std.proofs.Common.{◌<◌}
use Rattle.table_words.specs.Places.{place_number}
use Rattle.table_words.specs.Words.{node_of}
use Rattle.mesh_table.specs.Told.{Stays, sight}
use Rattle.table_rounds.specs.Sweeps.{LedHead}
use Rattle.table_rounds.proofs.sweeps.lead_head.Given as goal

abbrev pub invariant-loop-at : goal.invariant-loop-at
invariant-loop-at l = record {
  stays : Stays l.fn.owner l.owner;
  led : LedHead l.table.site.layout.pool (sight l.fn.owner) (sight l.owner) (place_number l.table.site.layout l.at) (node_of l.word);
}

abbrev pub decreases-loop-at : goal.decreases-loop-at
decreases-loop-at l = (node_of l.word).died
