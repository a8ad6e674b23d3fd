use Rattle.std.proofs.Common.{◌≡◌, true, ◌∙◌, ap, List, slice_index_or}
use Rattle.std.specs.FinMap.{contains_key}
use Rattle.std.specs.FinSet.{from_list, union}
use Rattle.std.proofs.lemmas.List.{take_all}
use Rattle.mesh_names.specs.Names.{Name}
use Rattle.name_tree.specs.Held.{held}
use Rattle.name_tree.specs.Slots.{Slots}
use Rattle.name_tree.proofs.LiveNames.{kept-insert}
use Rattle.forest_plain.proofs.RowOrder.{all_at}
use Rattle.forest_tree.proofs.HeldSets.{held-put, put-next, union-none}
use Rattle.forest_tree.proofs.slots.put_all.Goals as goal

pub loop-name-init : goal.loop-name-init
loop-name-init c = record { ready = c.requires; held = union-none (held c.args.tree.now) }

pub put-requires : goal.put-requires
put-requires c = all_at (λ n. contains_key c.loop-name.tree n ≡ true) c.args.names.now c.loop-name.name-index c.name-item.result _ c.loop-name.invariant.ready c.loop-name-test.true c.name-item.is

pub loop-name-preserved : goal.loop-name-preserved
loop-name-preserved c = record {
  ready = λ k d l. ap (λ (s : Slots). contains_key s (slice_index_or c.args.names.now k d)) c.put.ensures ∙ kept-insert c.loop-name.tree c.name-item.result (slice_index_or c.args.names.now k d) _ (c.loop-name.invariant.ready k d l);
  held = put-next (held c.args.tree.now) (held c.loop-name.tree) (held c.put.new.self) c.args.names.now c.loop-name.name-index c.name-item.result _ c.loop-name-test.true c.name-item.is c.loop-name.invariant.held (ap held c.put.ensures ∙ held-put c.loop-name.tree c.name-item.result _);
}

pub returns : goal.returns
returns c = c.loop-name.invariant.held ∙ ap (λ (l : List Name). union (held c.args.tree.now) (from_list l)) (take_all c.loop-name.name-index c.args.names.now c.loop-name-test.false)
