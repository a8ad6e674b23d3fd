use Rattle.std.proofs.Common.{◌≡◌, true, take}
use Rattle.std.specs.Prelude.{All}
use Rattle.std.specs.FinMap.{contains_key}
use Rattle.name_tree.specs.Slots.{live_of}
use Rattle.forest_tree.proofs.slots.make_ready.Given as goal

abbrev pub invariant-loop-name : goal.invariant-loop-name
invariant-loop-name l = record {
  live : live_of l.tree ≡ live_of l.fn.tree;
  ready : All (λ n. contains_key l.tree n ≡ true) (take l.name-index l.names);
}
