use Rattle.std.proofs.Common.{◌≡◌, ◌≤◌, ◌+◌, ◌-◌, ◌*◌, ◌++◌, [], List, length, drop}
use Rattle.std.specs.Prelude.{IfSome}
use Rattle.mesh_names.specs.Names.{Name}
use Rattle.restart_file.specs.Kept.{ArePast}
use Rattle.restart_file.specs.Trees.{Tree, bisected, word}
use Rattle.restart_file.specs.Walks.{coming}
use Rattle.restart_file.proofs.Walking.{StandsAt}
use Rattle.restart_file.proofs.writing.put_line.Given as goal

abbrev pub invariant-loop-at : goal.invariant-loop-at
invariant-loop-at l = record {
  within : l.next ≤ length l.members;
  root : IfSome l.at (λ n. n.0 ≡ l.root);
  stands : (t : Tree) (later : List Name) → drop l.first l.members ≡ bisected (l.root, []) t ++ later → ArePast l.root later → StandsAt (coming l.at) (drop l.next l.members) later l.to.items (l.fn.to.items ++ word t);
}

abbrev pub decreases-loop-at : goal.decreases-loop-at
decreases-loop-at l = 2 * (length l.members - l.next) + length (coming l.at)
