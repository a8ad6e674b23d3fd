use Rattle.std.proofs.Common.{◌≡◌, ℕ, ◌+◌, ◌<◌, ◌++◌, ◌∷◌, [], List, length, take, refl, sym, ap, ◌∙◌, subst, arith}
use Rattle.std.proofs.lemmas.List.{length-append}
use Rattle.table_rounds.specs.declared.patch.Patch.{Patch}
use Rattle.table_rounds.specs.Patches.{nth}
use Rattle.table_rounds.specs.Stocks.{blocks_of}
use Rattle.table_rounds.proofs.Stocking.{append_none, append_apart, blocks_plus, take_whole}
use Rattle.table_rounds.proofs.stock.add_blocks.Goals as goal

pub loop-patch-init : goal.loop-patch-init
loop-patch-init c = record { items = sym (append_none c.args.hand.now.items); len = omega arith; capacity = refl }

pub loop-patch-preserved : goal.loop-patch-preserved
loop-patch-preserved c =
    let i = c.loop-patch.invariant in
    let n = c.loop-patch.patch-index in
    let ps = c.args.patches.now in
    let old = c.args.hand.now.items in
    let b = (nth ps n).block in
    let e = c.push_reserved.ensures.items in
    let grown = ap (λ (xs : List ℕ). length xs) e in
    let more = length-append c.loop-patch.hand.items (b ∷ []) in
    let was = i.len in
    record {
      items = e ∙ ap (λ (xs : List ℕ). xs ++ b ∷ []) i.items ∙ append_apart old (blocks_of (take n ps)) (b ∷ []) ∙ ap (λ (xs : List ℕ). old ++ xs) (sym (blocks_plus ps n c.loop-patch-test.true));
      len = omega arith;
      capacity = c.push_reserved.ensures.capacity ∙ i.capacity;
    }

pub returns-clause-items : goal.returns-clause-items
returns-clause-items c =
    let ps = c.args.patches.now in
    let end : c.loop-patch.patch-index ≡ length ps = omega arith in
    c.loop-patch.invariant.items ∙ ap (λ (n : ℕ). c.args.hand.now.items ++ blocks_of (take n ps)) end ∙ ap (λ (qs : List Patch). c.args.hand.now.items ++ blocks_of qs) (take_whole ps)
