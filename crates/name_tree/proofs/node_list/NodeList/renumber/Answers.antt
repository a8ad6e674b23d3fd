use Rattle.std.proofs.Common.{rules, ◌≡◌, ◌∙◌, ◌<◌, ℕ, List, Option, None, ap, length, sym, arith}
use Rattle.std.specs.Prelude.{slice_index_or}
use Rattle.std.proofs.lemmas.List.{get_or_past, with_items_is}
use Rattle.std.specs.Vec.{with_items}
use native.Mathlib.Decide.{dec_lt}
use Rattle.name_tree.specs.declared.nodes.Entry.{Entry}
use Rattle.name_tree.specs.declared.nodes.Node.{Node}
use Rattle.name_tree.specs.NodeLists.{nodes_of}
use Rattle.name_tree.specs.Slots.{moved_slot}
use Rattle.name_tree.specs.Trees.{node_at}
use Rattle.name_tree.proofs.NodeLists.{length-nodes, node-at}
use Rattle.name_tree.proofs.node_list.NodeList.renumber.Goals as goal

pub loop-slot-init : goal.loop-slot-init
loop-slot-init c =
    let same : (k : ℕ) → slice_index_or c.deref_mut-slot-items.result.now k None ≡ (node_at c.args.self.now k).entry =
    λ k. ap (λ (l : List (Option Entry)). slice_index_or l k None) c.deref_mut-slot-items.ensures.value
    ∙ ap (λ (n : Node). n.entry) (sym (node-at c.self.inside.entries.items c.self.inside.pairs.items k c.self.invariant))
    ∙ ap (λ (l : List Node). (node_at l k).entry) c.self.view_is in
    record { done = λ k h. absurd (omega arith); left = λ k h. same k }

-- each entry was moved, in the list or past its end
all : (c : goal.After-self-1) (k : ℕ) → slice_index_or c.loop-slot.slot-items k None ≡ moved_slot c.args.moved.now (node_at c.args.self.now k).entry
all c k = at (dec_lt k c.loop-slot.slot-index)
  where
    at : Dec (k < c.loop-slot.slot-index) → slice_index_or c.loop-slot.slot-items k None ≡ moved_slot c.args.moved.now (node_at c.args.self.now k).entry
    at (yes h) = c.loop-slot.invariant.done k h
    at (no h) =
        let end = c.loop-slot-test.false in
        let long = c.loop-slot.auto.slot-items in
        let past : slice_index_or c.loop-slot.slot-items k None ≡ None = get_or_past c.loop-slot.slot-items k None (omega (arith, h)) in
        let none : None ≡ (node_at c.args.self.now k).entry = sym past ∙ c.loop-slot.invariant.left k (omega (arith, h)) in
        past ∙ ap (moved_slot c.args.moved.now) none

-- as many entries as before
same_length : (c : goal.After-self-1) → length c.loop-slot.slot-items ≡ length c.self.inside.entries.items
same_length c = c.loop-slot.auto.slot-items ∙ ap length c.deref_mut-slot-items.ensures.value

kept : (c : goal.After-self-1) → (with_items c.self.inside.entries c.loop-slot.slot-items).items ≡ c.loop-slot.slot-items
kept c = with_items_is c.self.inside.entries c.loop-slot.slot-items (let same = same_length c in search rules)

pub returns-clause-nodes : goal.returns-clause-nodes
returns-clause-nodes c = λ k.
    let ps = c.self.inside.pairs.items in
    let below : slice_index_or ps k None ≡ (node_at c.args.self.now k).below =
    ap (λ (n : Node). n.below) (sym (node-at c.self.inside.entries.items ps k c.self.invariant)) ∙ ap (λ (l : List Node). (node_at l k).below) c.self.view_is in
    ap (λ (l : List (Option Entry)). node_at (nodes_of l ps) k) (kept c)
    ∙ node-at c.loop-slot.slot-items ps k (c.self.invariant ∙ sym (same_length c))
    ∙ (λ i. record { entry = all c k i; below = below i })

pub returns-clause-length : goal.returns-clause-length
returns-clause-length c =
    let ps = c.self.inside.pairs.items in
    ap (λ (l : List (Option Entry)). length (nodes_of l ps)) (kept c)
    ∙ length-nodes c.loop-slot.slot-items ps (c.self.invariant ∙ sym (same_length c))
    ∙ same_length c
    ∙ sym (length-nodes c.self.inside.entries.items ps c.self.invariant)
    ∙ ap length c.self.view_is
