use Rattle.std.proofs.Common.{◌≡◌, ℕ, ◌+◌, ◌-◌, ◌<◌, ◌≤◌, ◌++◌, List, length, take, drop, refl, sym, ap, ◌∙◌, subst, arith}
use Rattle.mesh_table.specs.Sights.{Sight}
use Rattle.mesh_table.specs.Told.{sight}
use Rattle.table_rounds.specs.declared.patch.Patch.{Patch}
use Rattle.table_rounds.specs.Kinds.{BlocksTold}
use Rattle.table_rounds.specs.Patches.{nth}
use Rattle.table_rounds.specs.Refusals.{RolledBackAll}
use Rattle.table_rounds.specs.Stocks.{PlacesNoted, patches_of}
use Rattle.table_rounds.proofs.Returning.{held_fit, held_slice, room_back, stock_refused}
use Rattle.table_rounds.proofs.withdrawing.refuse_round.Goals as goal

pub add_all_held-requires : goal.add_all_held-requires
add_all_held-requires c =
    let l = c.args.table.now.site.layout in
    let u = sight c.args.owner.now in
    let w = sight c.look_blocks-2.new.owner in
    let after : BlocksTold l.elements w = subst (BlocksTold l.elements) (sym c.look_blocks-2.ensures.same) c.look_blocks-2.ensures.told in
    let done : RolledBackAll l u w c.args.claims.now = subst (λ (z : Sight × Sight). RolledBackAll l z.0 z.1 c.args.claims.now) (λ t. (c.look_blocks.ensures.same t, sym c.look_blocks-2.ensures.same t)) c.roll_back.ensures.back in
    record { room = room_back l u w c.args.stock.now c.args.claims.now c.requires.stock c.look_blocks.ensures.told after done c.requires.fits c.requires.claims }

pub note_places-requires : goal.note_places-requires
note_places-requires c =
    let l = c.args.table.now.site.layout in
    let s = c.args.stock.now in
    let hs = c.args.claims.now in
    let start : c.len-start.result ≡ length s.rolled_back.items = let e = c.len-start.ensures in omega arith in
    let slice = held_slice c.deref.result.now s.rolled_back.items (patches_of hs) c.len-start.result (c.deref.ensures.value ∙ c.add_all_held.ensures.items) start in
    let room = subst (λ (ps : List Patch). (k : ℕ) → k < length ps → (nth ps k).block < length s.places.items) (sym slice) (λ k a. let f = held_fit l hs c.requires.fits k a in let g = f.0 in let e = c.requires.stock.table in omega arith) in
    record { room = room }

pub returns-clause-stock : goal.returns-clause-stock
returns-clause-stock c =
    let l = c.args.table.now.site.layout in
    let u = sight c.args.owner.now in
    let w = sight c.look_blocks-2.new.owner in
    let s = c.args.stock.now in
    let hs = c.args.claims.now in
    let after : BlocksTold l.elements w = subst (BlocksTold l.elements) (sym c.look_blocks-2.ensures.same) c.look_blocks-2.ensures.told in
    let done : RolledBackAll l u w hs = subst (λ (z : Sight × Sight). RolledBackAll l z.0 z.1 hs) (λ t. (c.look_blocks.ensures.same t, sym c.look_blocks-2.ensures.same t)) c.roll_back.ensures.back in
    let start : c.len-start.result ≡ length s.rolled_back.items = let e = c.len-start.ensures in omega arith in
    let slice = held_slice c.deref.result.now s.rolled_back.items (patches_of hs) c.len-start.result (c.deref.ensures.value ∙ c.add_all_held.ensures.items) start in
    stock_refused l u w s hs c.requires.stock c.look_blocks.ensures.told after done c.requires.fits c.requires.claims _ refl refl c.add_all_held.ensures.items c.add_all_held.ensures.capacity c.note_places.ensures.length
    (subst (λ (ps : List Patch). PlacesNoted s.places.items c.note_places.new.places.items ps (length ps)) slice c.note_places.ensures.noted) refl (refl, refl, refl, refl, refl)

pub returns-clause-back : goal.returns-clause-back
returns-clause-back c =
    let l = c.args.table.now.site.layout in
    subst (λ (z : Sight × Sight). RolledBackAll l z.0 z.1 c.args.claims.now) (λ t. (c.look_blocks.ensures.same t, sym c.look_blocks-2.ensures.same t)) c.roll_back.ensures.back
