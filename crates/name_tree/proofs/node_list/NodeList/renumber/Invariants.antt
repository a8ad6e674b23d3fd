use Rattle.std.proofs.Common.{◌≡◌, ◌<◌, ◌≤◌, ℕ, None}
use Rattle.std.specs.Prelude.{slice_index_or}
use Rattle.name_tree.specs.Slots.{moved_slot}
use Rattle.name_tree.specs.Trees.{node_at}
use Rattle.name_tree.proofs.node_list.NodeList.renumber.Given as goal

abbrev pub invariant-loop-slot : goal.invariant-loop-slot
invariant-loop-slot l = record {
  done : (k : ℕ) → k < l.slot-index → slice_index_or l.slot-items k None ≡ moved_slot l.moved (node_at l.fn.self k).entry;
  left : (k : ℕ) → l.slot-index ≤ k → slice_index_or l.slot-items k None ≡ (node_at l.fn.self k).entry;
}
