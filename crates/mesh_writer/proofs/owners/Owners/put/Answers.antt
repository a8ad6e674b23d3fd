use Rattle.std.proofs.Common.{◌∙◌, sym, ap, subst}
use Rattle.std.specs.BTreeMap.{get}
use Rattle.std.specs.List.Sorted.{IsStrictlySortedBy}
use Rattle.std.specs.Map.{keys_of}
use Rattle.mesh_names.specs.Names.{name_cmp}
use Rattle.mesh_writer.proofs.OwnerLists.{keys-push, put_in_list, put_in_map, rising_push}
use Rattle.mesh_writer.proofs.owners.Owners.put.Goals as goal

pub returns-in_ok-push-clause-rising : goal.returns-in_ok-push-clause-rising
returns-in_ok-push-clause-rising c =
    let es = c.args.self.now.in_order.items in
    subst (IsStrictlySortedBy name_cmp) (sym (ap keys_of c.in_ok-push.ensures.items ∙ keys-push es c.args.name c.args.slot))
    (rising_push (keys_of es) c.args.name c.requires.rising (c.is_newest.ensures c.requires.rising c.if-is_newest.true))

pub returns-in_ok-push-clause-puts : goal.returns-in_ok-push-clause-puts
returns-in_ok-push-clause-puts c = put_in_list c.args.self.now.in_order.items c.push.new.self.items (get name_cmp c.args.self.now.late) c.args.name c.args.slot c.in_ok-push.ensures.items c.requires.new

pub returns-in_ok-insert-clause-puts : goal.returns-in_ok-insert-clause-puts
returns-in_ok-insert-clause-puts c = put_in_map c.args.self.now.in_order.items (get name_cmp c.args.self.now.late) (get name_cmp c.insert.new.self) c.args.name c.args.slot c.in_ok-insert.ensures.updates.0 c.requires.new
