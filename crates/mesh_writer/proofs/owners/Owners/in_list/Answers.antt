use Rattle.std.proofs.Common.{rules}
use Rattle.std.proofs.lemmas.List.Sorted.{answers_always}
use Rattle.mesh_writer.proofs.OwnerLists.{found_ok, found_err, newest_none}
use Rattle.mesh_writer.proofs.owners.Owners.in_list.Goals as goal

pub returns-then-is_newest : goal.returns-then-is_newest
returns-then-is_newest c = newest_none c.args.self.now.in_order.items c.args.name (c.is_newest.ensures c.requires c.if-is_newest.true)

pub returns-in-Ok : goal.returns-in-Ok
returns-in-Ok c =
    let facts = c.binary_search_by_key.ensures in
    let by_key = facts.position (λ entry. entry.0) (answers_always _ _ _ (λ f a r g called. search rules)) in
    found_ok c.args.self.now.in_order.items c.requires c.args.name c.binary_search_by_key.result (rw (← c.deref.ensures.value) facts.bound) (rw (← c.deref.ensures.value) by_key) c.in-Ok.place c.in-Ok.is c.index.result.now c.index.ensures

pub returns-in-Err : goal.returns-in-Err
returns-in-Err c =
    let facts = c.binary_search_by_key.ensures in
    let by_key = facts.position (λ entry. entry.0) (answers_always _ _ _ (λ f a r g called. search rules)) in
    found_err c.args.self.now.in_order.items c.requires c.args.name c.binary_search_by_key.result (rw (← c.deref.ensures.value) facts.bound) (rw (← c.deref.ensures.value) by_key) c.in-Err.field-0 c.in-Err.is
