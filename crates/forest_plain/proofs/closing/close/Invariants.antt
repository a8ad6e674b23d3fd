use Rattle.std.specs.Prelude.{◌≡◌}
use Rattle.std.specs.FinSet.{from_list}
use Rattle.compat_check.specs.Meshes.{across_in, shape_of}
use Rattle.forest_plain.proofs.Worklist.{Worklist, remaining}
use Rattle.forest_plain.proofs.closing.close.Given as goal

abbrev pub invariant-loop-name : goal.invariant-loop-name
invariant-loop-name g l = record {
  work : Worklist (shape_of l.mesh) (across_in l.mesh) (g.S.Growing.grown l.fn.members) (from_list l.fn.needed.items) (g.S.Growing.grown l.members) l.pending.items;
  start : g.S.Growing.start l.members ≡ g.S.Growing.start l.fn.members;
}

abbrev pub decreases-loop-name : goal.decreases-loop-name
decreases-loop-name g l = remaining (shape_of l.mesh) (across_in l.mesh) (g.S.Growing.grown l.fn.members) (from_list l.fn.needed.items) (g.S.Growing.grown l.members) l.pending.items
