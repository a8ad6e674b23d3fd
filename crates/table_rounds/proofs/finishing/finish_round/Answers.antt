use Rattle.std.proofs.Common.{◌≡◌, ℕ, ◌+◌, ◌%◌, ◌<◌, ◌≤◌, List, length, refl, sym, ap, ◌∙◌, subst, arith}
use Rattle.mesh_table.specs.Sights.{Sight}
use Rattle.mesh_table.specs.Told.{sight}
use Rattle.table_rounds.specs.Kinds.{BlocksTold}
use Rattle.table_rounds.specs.Patches.{Finished}
use Rattle.table_rounds.proofs.Listing.{room_after, stock_finished}
use Rattle.table_rounds.proofs.finishing.finish_round.Goals as goal

pub note_places-requires : goal.note_places-requires
note_places-requires g c = record { room = λ k a. let t = (c.requires.fits.0 k a).0 in let e = c.requires.stock.table in omega arith }

pub add_patches-requires : goal.add_patches-requires
add_patches-requires g c =
    let l = c.args.table.now.site.layout in
    let u = sight c.args.owner.now in
    let w = sight c.look_blocks-2.new.owner in
    let pins = c.close_round-word.result % 4294967296 in
    let before = c.look_blocks.ensures.told in
    let after : BlocksTold l.elements w = subst (BlocksTold l.elements) (sym c.look_blocks-2.ensures.same) c.look_blocks-2.ensures.told in
    let done : Finished l u w c.args.claims.now g.B.Forests.forest pins = subst (λ (z : Sight × Sight). Finished l z.0 z.1 c.args.claims.now g.B.Forests.forest pins) (λ t. (c.look_blocks.ensures.same t, sym c.look_blocks-2.ensures.same t)) c.close_round-word.ensures.finished in
    record { room = room_after l u w c.args.stock.now c.args.claims.now c.args.retired.now g.B.Forests.forest pins c.requires.stock before after done c.requires.fits.0 c.requires.fits.1 c.requires.retired c.requires.once }

pub returns-clause-stock : goal.returns-clause-stock
returns-clause-stock g c =
    let l = c.args.table.now.site.layout in
    let u = sight c.args.owner.now in
    let w = sight c.look_blocks-2.new.owner in
    let pins = c.close_round-word.result % 4294967296 in
    let before = c.look_blocks.ensures.told in
    let after : BlocksTold l.elements w = subst (BlocksTold l.elements) (sym c.look_blocks-2.ensures.same) c.look_blocks-2.ensures.told in
    let done : Finished l u w c.args.claims.now g.B.Forests.forest pins = subst (λ (z : Sight × Sight). Finished l z.0 z.1 c.args.claims.now g.B.Forests.forest pins) (λ t. (c.look_blocks.ensures.same t, sym c.look_blocks-2.ensures.same t)) c.close_round-word.ensures.finished in
    stock_finished l u w c.args.stock.now c.args.claims.now c.args.retired.now g.B.Forests.forest pins c.requires.stock before after done c.requires.fits.0 c.requires.fits.1 c.requires.retired c.requires.once _ c.requires.room refl refl c.add_patches.ensures.items c.add_patches.ensures.capacity c.note_places.ensures.length c.note_places.ensures.noted c.push_reserved.ensures.items c.push_reserved.ensures.capacity refl (refl, refl) refl refl

pub returns-clause-finished : goal.returns-clause-finished
returns-clause-finished g c =
    let l = c.args.table.now.site.layout in
    let pins = c.close_round-word.result % 4294967296 in
    (pins, c.push_reserved.ensures.items, subst (λ (z : Sight × Sight). Finished l z.0 z.1 c.args.claims.now g.B.Forests.forest pins) (λ t. (c.look_blocks.ensures.same t, sym c.look_blocks-2.ensures.same t)) c.close_round-word.ensures.finished)
