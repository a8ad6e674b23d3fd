use Rattle.std.specs.Prelude.{◌≡◌, length}
use Rattle.table_rounds.specs.Stocks.{PlacesNoted}
use Rattle.table_rounds.proofs.finishing.note_places.Given as goal

abbrev pub invariant-loop-patch : goal.invariant-loop-patch
invariant-loop-patch l = record {
  size : length l.places.items ≡ length l.fn.places.items;
  noted : PlacesNoted l.fn.places.items l.places.items l.patches l.patch-index;
}
