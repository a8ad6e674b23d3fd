use Rattle.std.proofs.Common.{◌≡◌, ◌+◌, ◌-◌}
use Rattle.mesh_table.specs.Told.{Stays, sight}
use Rattle.table_rounds.specs.Rows.{RowsLaid}
use Rattle.table_rounds.proofs.rows.lay_hand.Given as goal

abbrev pub invariant-loop-block : goal.invariant-loop-block
invariant-loop-block l = record {
  stays : Stays l.fn.owner l.owner;
  same : sight l.owner ≡ record (sight l.fn.owner) { owned = (sight l.owner).owned };
  next : l.next ≡ l.block-index;
  laid : RowsLaid (sight l.owner) l.hand l.block-index (l.block-index - (l.block-index - l.low)) l.rows (l.rows + (l.block-index - l.low));
}
