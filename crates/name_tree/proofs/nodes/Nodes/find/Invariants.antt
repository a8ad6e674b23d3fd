use Rattle.std.proofs.Common.{◌-◌, ◌≤◌}
use Rattle.mesh_names.specs.Names.{depth}
use Rattle.name_tree.specs.Trees.{LeadsTo, pairs_of}
use Rattle.name_tree.proofs.nodes.Nodes.find.Given as goal

abbrev pub invariant-loop-level : goal.invariant-loop-level
invariant-loop-level l = record {
  within : l.level ≤ depth l.name;
  leads : LeadsTo (pairs_of l.self) l.name l.level l.path.places;
}

abbrev pub decreases-loop-level : goal.decreases-loop-level
decreases-loop-level l = depth l.name - l.level
