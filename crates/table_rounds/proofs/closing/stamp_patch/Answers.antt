use Rattle.std.proofs.Common.{◌≡◌, ℕ, ◌+◌, Bool, true, false, Some, refl, sym, ap, ◌∙◌, subst}
use Rattle.table_words.specs.Entries.{HasEntry}
use Rattle.table_words.specs.Places.{place_number}
use Rattle.mesh_table.specs.Sights.{Sight}
use Rattle.mesh_table.specs.Told.{mate_number, sight}
use Rattle.table_rounds.specs.Patches.{spot, StandsAt}
use Rattle.table_rounds.proofs.closing.stamp_patch.Goals as goal

pub stamp_at-requires-clause-stands : goal.stamp_at-requires-clause-stands
stamp_at-requires-clause-stands c =
    let l = c.args.table.now.site.layout in
    let p = c.args.patch in
    subst (λ (v : Sight). StandsAt v p.block (place_number l p.first)) (sym c.look_died.ensures.view) (place_number l p.first, mate_number l p.second, false, c.requires.placed, refl)

pub stamp_at-requires-in-Some-clause-stands : goal.stamp_at-requires-in-Some-clause-stands
stamp_at-requires-in-Some-clause-stands c =
    let l = c.args.table.now.site.layout in
    let p = c.args.patch in
    let one = subst (λ (v : Sight). StandsAt v p.block (place_number l c.in-Some.at)) (sym c.look_died.ensures.view) (place_number l p.first, mate_number l p.second, true, c.requires.placed, ap (mate_number l) c.in-Some.is) in
    subst (λ (v : Sight). StandsAt v p.block (place_number l c.in-Some.at)) (sym c.stamp_at.ensures.same) one
