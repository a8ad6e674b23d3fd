-- What is read in the run that bisects a child of the square.
use Rattle.std.proofs.Common.{refl, inl}
use Rattle.table_runs.specs.ChildWords as kid
use Rattle.table_runs.specs.SquareTwice as pair
use Rattle.table_runs.specs.SquareChild.{ChildReads, published, finished2}
use Rattle.table_runs.proofs.SquareKinds.{reach}
use Rattle.table_runs.proofs.SquareLists.{both}
use Rattle.table_runs.proofs.ChildNotes.{child_names, child_stays}
use Rattle.table_runs.proofs.SquareChild1.{u56, u60, u63}
use Rattle.table_runs.proofs.SquareChild.{child_states, child_run}
use Rattle.table_runs.proofs.TwiceReads.{reads_kept, reads_closed}

pub child_reads : ChildReads
child_reads = record {
  linked = reads_kept (kid.linked pair.opened) 3 u56 (reach 2 child_states child_run 56) 1 (inl refl) both refl;
  published = (reads_kept published 3 u60 (reach 2 child_states child_run 60) 1 (inl refl) both refl, reads_closed published 3 u60 (reach 2 child_states child_run 60) refl child_names child_stays (λ i h _. h));
  finished2 = reads_kept finished2 3 u63 (reach 2 child_states child_run 63) 2 (inl refl) child_names refl;
}
