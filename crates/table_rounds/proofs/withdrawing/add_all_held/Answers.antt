use Rattle.std.proofs.Common.{◌≡◌, ℕ, ◌+◌, ◌<◌, ◌≤◌, ◌++◌, ◌∷◌, [], List, length, take, refl, sym, ap, ◌∙◌, subst, arith}
use Rattle.std.proofs.lemmas.List.{length-append}
use Rattle.table_rounds.specs.declared.patch.Held.{Held}
use Rattle.table_rounds.specs.declared.patch.Patch.{Patch}
use Rattle.table_rounds.specs.Refusals.{held_at}
use Rattle.table_rounds.specs.Stocks.{patches_of}
use Rattle.table_rounds.proofs.Listing.{patches_apart, patches_none}
use Rattle.table_rounds.proofs.Returning.{held_more, held_plus, held_whole}
use Rattle.table_rounds.proofs.withdrawing.add_all_held.Goals as goal

pub loop-held-init : goal.loop-held-init
loop-held-init c = record { items = sym (patches_none c.args.list.now.items); capacity = refl }

pub add_held-requires : goal.add_held-requires
add_held-requires c =
    let i = c.loop-held.invariant in
    let n = c.loop-held.held-index in
    let hs = c.args.claims.now in
    let old = c.args.list.now.items in
    let room = c.requires.room in
    let all = held_more hs (n + 1) in
    let next = ap (λ (xs : List Patch). length xs) (held_plus hs n c.loop-held-test.true) in
    let sum = length-append (patches_of (take n hs)) (patches_of (held_at hs n ∷ [])) in
    let now = ap (λ (xs : List Patch). length xs) i.items in
    let grown = length-append old (patches_of (take n hs)) in
    let same = i.capacity in
    omega arith

pub loop-held-preserved : goal.loop-held-preserved
loop-held-preserved c =
    let i = c.loop-held.invariant in
    let n = c.loop-held.held-index in
    let hs = c.args.claims.now in
    let old = c.args.list.now.items in
    let new = patches_of (held_at hs n ∷ []) in
    record {
      items = c.add_held.ensures.items ∙ ap (λ (xs : List Patch). xs ++ patches_of (held_at hs n ∷ [])) i.items ∙ patches_apart old (patches_of (take n hs)) (patches_of (held_at hs n ∷ []))
          ∙ ap (λ (xs : List Patch). old ++ xs) (sym (held_plus hs n c.loop-held-test.true));
      capacity = c.add_held.ensures.capacity ∙ i.capacity;
    }

pub returns-clause-items : goal.returns-clause-items
returns-clause-items c =
    let hs = c.args.claims.now in
    let end : c.loop-held.held-index ≡ length hs = omega arith in
    c.loop-held.invariant.items ∙ ap (λ (n : ℕ). c.args.list.now.items ++ patches_of (take n hs)) end ∙ ap (λ (xs : List Held). c.args.list.now.items ++ patches_of xs) (held_whole hs)
