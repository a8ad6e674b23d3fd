use Rattle.std.proofs.Common.{◌≡◌, true, take}
use Rattle.std.specs.Prelude.{All}
use Rattle.std.specs.FinMap.{contains_key}
use Rattle.std.specs.FinSet.{from_list, union}
use Rattle.name_tree.specs.Held.{held}
use Rattle.forest_tree.proofs.slots.put_all.Given as goal

abbrev pub invariant-loop-name : goal.invariant-loop-name
invariant-loop-name l = record {
  ready : All (λ n. contains_key l.tree n ≡ true) l.names;
  held : held l.tree ≡ union (held l.fn.tree) (from_list (take l.name-index l.names));
}
