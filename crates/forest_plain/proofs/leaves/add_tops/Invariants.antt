use Rattle.std.proofs.Common.{◌≡◌}
use Rattle.mesh_names.specs.Leaves.{tops}
use Rattle.forest_plain.specs.Rounds.{IsUnsplit, set_of}
use Rattle.forest_plain.proofs.leaves.add_tops.Given as goal

abbrev pub invariant-loop-root : goal.invariant-loop-root
invariant-loop-root g l = record {
  unsplit : IsUnsplit (tops l.root) (g.S.Asked.names l.fn.members) (set_of l.found.items);
  same : g.S.Asked.names l.members ≡ g.S.Asked.names l.fn.members;
}
