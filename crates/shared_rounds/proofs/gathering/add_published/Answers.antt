use Rattle.std.proofs.Common.{◌≡◌, ◌+◌, ◌∷◌, [], length, length-append, ap, ◌∙◌, arith}
use Rattle.shared_rounds.specs.Gathered.{held_of}
use Rattle.shared_rounds.proofs.Piles.{held_moved}
use Rattle.shared_rounds.proofs.gathering.add_published.Goals as goal

pub loop-patch-preserved : goal.loop-patch-preserved
loop-patch-preserved c =
    let old = c.loop-patch.invariant in
    let now = c.loop-patch.held.items in
    let then = c.push_reserved.new.self.items in
    let rest = c.loop-patch.rest.items in
    let fewer = c.pop.new.self.items in
    let p = c.in-Some.patch in
    let grew = c.push_reserved.ensures.items in
    let same = c.push_reserved.ensures.capacity in
    record {
      items = held_moved c.args.held.now.items now then c.args.published.items rest fewer p c.in-Some.ensures.items grew old.items;
      room = (let a : length then ≡ length now + 1 = ap length grew ∙ length-append now (held_of p ∷ []) in let b : length rest ≡ length fewer + 1 = ap length c.in-Some.ensures.items ∙ length-append fewer (p ∷ []) in let e = old.room in omega arith);
      capacity = same ∙ old.capacity;
    }
