use Rattle.std.proofs.Common.{rules, ◌∷◌, [], ◌++◌, List, length, length-append, map, sym, ap, ◌∙◌, arith}
use Rattle.std.proofs.lemmas.List.{append_assoc, map-append}
use Rattle.std.proofs.lemmas.Iterator.Adapters.{YieldsList-from_vec}
use Rattle.std.proofs.lemmas.Iterator.Consumers.{YieldsList-so_far, YieldsList-turn}
use Rattle.table_passes.specs.declared.work.Joined.{Joined}
use Rattle.table_rounds.specs.declared.patch.Held.{Held}
use Rattle.shared_rounds.specs.Gathered.{all_held, held_in}
use Rattle.shared_rounds.proofs.Piles.{held_next, held_within}
use Rattle.shared_rounds.proofs.gathering.add_all_held.Goals as goal

pub add_held-requires : goal.add_held-requires
add_held-requires c =
    let all = YieldsList-from_vec {s = c.into_iter-pass-iterator.result} c.args.joined.items (search rules) (search rules) in
    let so_far = YieldsList-so_far all c.loop-pass.yielded c.loop-pass.pass-iterator c.loop-pass.yielded_by in
    let turn = YieldsList-turn all c.loop-pass.yielded c.loop-pass.pass-iterator c.loop-pass.yielded_by c.next.result c.next.new.self c.in-Some.pass c.in-Some.is c.next.ensures.steps in
    let few = held_within c.args.joined.items c.loop-pass.yielded c.in-Some.pass so_far turn.0 turn.1 in
    let now = ap length c.loop-pass.invariant.items in
    let sum = length-append c.args.held.now.items (all_held (map (λ (d : Joined). d.lists) c.loop-pass.yielded)) in
    let same = c.loop-pass.invariant.capacity in
    let room = c.requires.room in
    record { room = omega arith }

pub loop-pass-preserved : goal.loop-pass-preserved
loop-pass-preserved c =
    let old = c.loop-pass.invariant in
    record {
      items = c.add_held.ensures.items ∙ ap (λ (ps : List Held). ps ++ held_in c.in-Some.pass.lists) old.items
          ∙ append_assoc c.args.held.now.items (all_held (map (λ (d : Joined). d.lists) c.loop-pass.yielded)) (held_in c.in-Some.pass.lists)
          ∙ ap (λ (ps : List Held). c.args.held.now.items ++ ps) (sym (ap all_held (map-append (λ (d : Joined). d.lists) c.loop-pass.yielded (c.in-Some.pass ∷ [])) ∙ held_next (map (λ (d : Joined). d.lists) c.loop-pass.yielded) c.in-Some.pass.lists));
      capacity = c.add_held.ensures.capacity ∙ old.capacity;
    }
