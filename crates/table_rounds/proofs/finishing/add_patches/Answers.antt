use Rattle.std.proofs.Common.{◌≡◌, ℕ, ◌+◌, ◌<◌, ◌++◌, ◌∷◌, [], List, length, take, refl, sym, ap, ◌∙◌, subst, arith}
use Rattle.std.proofs.lemmas.List.{length-append}
use Rattle.table_rounds.specs.declared.patch.Patch.{Patch}
use Rattle.table_rounds.specs.Patches.{nth}
use Rattle.table_rounds.proofs.Listing.{patches_apart, patches_none, take_plus}
use Rattle.table_rounds.proofs.Stocking.{take_whole}
use Rattle.table_rounds.proofs.finishing.add_patches.Goals as goal

pub loop-patch-init : goal.loop-patch-init
loop-patch-init c = record { items = sym (patches_none c.args.list.now.items); len = omega arith; capacity = refl }

pub loop-patch-preserved : goal.loop-patch-preserved
loop-patch-preserved c =
    let i = c.loop-patch.invariant in
    let n = c.loop-patch.patch-index in
    let ps = c.args.patches.now in
    let old = c.args.list.now.items in
    let p = nth ps n in
    let e = c.push_reserved.ensures.items in
    let grown = ap (λ (xs : List Patch). length xs) e in
    let more = length-append c.loop-patch.list.items (p ∷ []) in
    let was = i.len in
    record {
      items = e ∙ ap (λ (xs : List Patch). xs ++ p ∷ []) i.items ∙ patches_apart old (take n ps) (p ∷ []) ∙ ap (λ (xs : List Patch). old ++ xs) (sym (take_plus ps n c.loop-patch-test.true));
      len = omega arith;
      capacity = c.push_reserved.ensures.capacity ∙ i.capacity;
    }

pub returns-clause-items : goal.returns-clause-items
returns-clause-items c =
    let ps = c.args.patches.now in
    let end : c.loop-patch.patch-index ≡ length ps = omega arith in
    c.loop-patch.invariant.items ∙ ap (λ (n : ℕ). c.args.list.now.items ++ take n ps) end ∙ ap (λ (qs : List Patch). c.args.list.now.items ++ qs) (take_whole ps)
