use Rattle.std.proofs.Common.{◌≡◌, ℕ, ◌+◌, ◌-◌, List, ◌++◌, drop, take, length, refl, sym, ap, ◌∙◌, subst, arith}
use Rattle.mesh_table.specs.Sights.{Sight}
use Rattle.mesh_table.specs.Told.{sight}
use Rattle.table_rounds.specs.Stocks.{blocks_of}
use Rattle.table_rounds.specs.Sweeps.{AreFreed, AreGivenUp}
use Rattle.table_rounds.proofs.Piles.{are_given_up, slice_is}
use Rattle.table_rounds.proofs.Stocking.{append_apart, stock_both}
use Rattle.table_rounds.proofs.stock.free_both.Goals as goal

pub free_given_up-requires-clause-blocks : goal.free_given_up-requires-clause-blocks
free_given_up-requires-clause-blocks c =
    let s = c.args.stock.now in
    let is = c.requires.stock in
    let given = blocks_of s.kept.items ++ blocks_of s.rolled_back.items in
    let start : c.len-start.result ≡ length s.hand.items = let e = c.len-start.ensures in omega arith in
    let all : c.deref-5.result.now ≡ s.hand.items ++ given = c.deref-5.ensures.value ∙ c.add_blocks-2.ensures.items ∙ ap (λ (xs : List ℕ). xs ++ blocks_of c.deref-2.result.now) c.add_blocks.ensures.items
    ∙ append_apart s.hand.items (blocks_of c.deref.result.now) (blocks_of c.deref-2.result.now) ∙ (λ t. s.hand.items ++ (blocks_of (c.deref.ensures.value t) ++ blocks_of (c.deref-2.ensures.value t))) in
    let slice = slice_is c.deref-5.result.now s.hand.items given c.len-start.result all start in
    subst (λ (z : Sight × List ℕ). AreGivenUp z.0 z.1) (λ t. (sym c.look_blocks.ensures.same t, sym slice t))
    (are_given_up c.args.table.now.site.layout (sight c.args.owner.now) s.hand.items s.kept.items s.rolled_back.items is.hand is.old is.old_once is.back is.back_once c.look_blocks.ensures.told)

pub returns-clause-stock : goal.returns-clause-stock
returns-clause-stock c =
    let s = c.args.stock.now in
    let given = blocks_of s.kept.items ++ blocks_of s.rolled_back.items in
    let start : c.len-start.result ≡ length s.hand.items = let e = c.len-start.ensures in omega arith in
    let hand : c.add_blocks-2.new.hand.items ≡ s.hand.items ++ given = c.add_blocks-2.ensures.items ∙ ap (λ (xs : List ℕ). xs ++ blocks_of c.deref-2.result.now) c.add_blocks.ensures.items
    ∙ append_apart s.hand.items (blocks_of c.deref.result.now) (blocks_of c.deref-2.result.now) ∙ (λ t. s.hand.items ++ (blocks_of (c.deref.ensures.value t) ++ blocks_of (c.deref-2.ensures.value t))) in
    let slice = slice_is c.deref-5.result.now s.hand.items given c.len-start.result (c.deref-5.ensures.value ∙ hand) start in
    let freed : AreFreed (sight c.args.owner.now) (sight c.free_given_up.new.owner) given = subst (λ (z : Sight × List ℕ). AreFreed z.0 (sight c.free_given_up.new.owner) z.1) (λ t. (c.look_blocks.ensures.same t, slice t)) c.free_given_up.ensures.freed in
    stock_both c.args.table.now.site.layout (sight c.args.owner.now) (sight c.free_given_up.new.owner) s _ c.requires.stock c.look_blocks.ensures.told refl (c.add_blocks-2.ensures.capacity ∙ c.add_blocks.ensures.capacity, c.clear.ensures.capacity, c.clear-2.ensures.capacity, refl) refl (refl, refl) refl refl refl freed hand c.clear.ensures.items c.clear-2.ensures.items
