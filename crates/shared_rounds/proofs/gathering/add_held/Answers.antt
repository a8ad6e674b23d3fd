use Rattle.std.proofs.Common.{◌++◌, [], List, length, length-append, sym, ap, ◌∙◌, arith}
use Rattle.std.proofs.lemmas.List.{append_assoc}
use Rattle.table_rounds.specs.declared.patch.Held.{Held}
use Rattle.shared_rounds.specs.Gathered.{held_before, held_with}
use Rattle.shared_rounds.proofs.Piles.{held_length, with_first}
use Rattle.shared_rounds.proofs.gathering.add_held.Goals as goal

pub returns-clause-items : goal.returns-clause-items
returns-clause-items c =
    let hs = held_before c.args.lists.published.items [] in
    c.add_published.ensures.items ∙ ap (λ (ps : List Held). ps ++ hs) c.add_failed.ensures.items
    ∙ append_assoc c.args.held.now.items (held_with c.args.lists.failed []) hs
    ∙ ap (λ (ps : List Held). c.args.held.now.items ++ ps) (sym (with_first c.args.lists.failed hs))

pub add_published-requires : goal.add_published-requires
add_published-requires c =
    let hs = held_before c.args.lists.published.items [] in
    let a = ap length c.add_failed.ensures.items in
    let b = length-append c.args.held.now.items (held_with c.args.lists.failed []) in
    let d = ap length (with_first c.args.lists.failed hs) in
    let e = length-append (held_with c.args.lists.failed []) hs in
    let f = held_length c.args.lists.published.items [] in
    let same = c.add_failed.ensures.capacity in
    let room = c.requires.room in
    record { room = omega arith }
