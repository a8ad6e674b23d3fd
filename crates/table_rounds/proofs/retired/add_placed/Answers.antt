use Rattle.std.proofs.Common.{◌≡◌, ℕ, ◌++◌, ◌∷◌, [], List, length, map, slice_index, take, refl, sym, ap, ◌∙◌, arith}
use Rattle.std.proofs.lemmas.List.{length-append}
use Rattle.table_rounds.specs.declared.patch.Patch.{Patch}
use Rattle.table_rounds.specs.Patches.{nth}
use Rattle.table_rounds.proofs.Listing.{patches_apart, patches_none}
use Rattle.table_rounds.proofs.Retiring.{placed_plus, taken_whole}
use Rattle.table_rounds.proofs.retired.add_placed.Goals as goal

pub loop-block-init : goal.loop-block-init
loop-block-init c = record { items = sym (patches_none c.args.patches.now.items); len = omega arith; capacity = refl }

pub loop-block-preserved : goal.loop-block-preserved
loop-block-preserved c =
    let i = c.loop-block.invariant in
    let n = c.loop-block.block-index in
    let f = λ (b : ℕ). nth c.args.places.now b in
    let bs = c.args.blocks.now in
    let old = c.args.patches.now.items in
    let p = f (slice_index bs n) in
    let e = c.push_reserved.ensures.items in
    let grown = ap (λ (xs : List Patch). length xs) e in
    let more = length-append c.loop-block.patches.items (p ∷ []) in
    let was = i.len in
    record {
      items = e ∙ ap (λ (xs : List Patch). xs ++ p ∷ []) i.items ∙ patches_apart old (map f (take n bs)) (p ∷ []) ∙ ap (λ (xs : List Patch). old ++ xs) (sym (placed_plus f bs n c.loop-block-test.true));
      len = omega arith;
      capacity = c.push_reserved.ensures.capacity ∙ i.capacity;
    }

pub returns-clause-items : goal.returns-clause-items
returns-clause-items c =
    let f = λ (b : ℕ). nth c.args.places.now b in
    let bs = c.args.blocks.now in
    let old = c.args.patches.now.items in
    let end : c.loop-block.block-index ≡ length bs = omega arith in
    c.loop-block.invariant.items ∙ ap (λ (n : ℕ). old ++ map f (take n bs)) end ∙ ap (λ (ys : List ℕ). old ++ map f ys) (taken_whole bs)
