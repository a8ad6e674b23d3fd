use Rattle.std.proofs.Common.{◌≡◌, List, take, ◌++◌}
use Rattle.mesh_names.specs.Names.{Name}
use Rattle.mesh_names.specs.Leaves.{children}
use Rattle.forest_plain.specs.Rounds.{IsUnsplit, set_of}
use Rattle.forest_plain.proofs.leaves.add_children.Given as goal

abbrev pub invariant-loop-name : goal.invariant-loop-name
invariant-loop-name g l = record {
  unsplit : (all : List Name) → IsUnsplit all (g.S.Asked.names l.fn.members) (set_of l.fn.found.items) → IsUnsplit (all ++ children (take l.name-index l.names)) (g.S.Asked.names l.fn.members) (set_of l.found.items);
  same : g.S.Asked.names l.members ≡ g.S.Asked.names l.fn.members;
}
