use Rattle.std.proofs.Common.{◌<◌, ℕ, ◌++◌, List, All, length, map, sym, ap, ◌∙◌, subst}
use Rattle.mesh_table.specs.Told.{sight}
use Rattle.table_rounds.specs.declared.patch.Patch.{Patch}
use Rattle.table_rounds.specs.Patches.{AllFit, WereRetired, nth}
use Rattle.table_rounds.specs.Stocks.{EachOnce}
use Rattle.table_rounds.proofs.Retiring.{retired_fit, retired_inside, retired_once, retired_told}
use Rattle.table_rounds.proofs.retired.retired_patches.Goals as goal

pub add_placed-requires-clause-inside : goal.add_placed-requires-clause-inside
add_placed-requires-clause-inside c =
    let l = c.args.table.now.site.layout in
    let v = sight c.args.owner.now in
    let places = c.args.places.now in
    let bs = c.each_once-blocks.result.items in
    subst (All (λ (b : ℕ). b < length places)) (sym c.deref.ensures.value)
    (retired_inside l v places c.look_blocks.ensures.told c.requires.placed bs c.each_once-blocks.ensures.once (λ b h. c.requires.right b (c.each_once-blocks.ensures.right b h)) (λ b h. c.each_once-blocks.ensures.all b (c.requires.all b h)))

pub returns-clause-fits : goal.returns-clause-fits
returns-clause-fits c =
    let l = c.args.table.now.site.layout in
    let v = sight c.args.owner.now in
    let places = c.args.places.now in
    let bs = c.each_once-blocks.result.items in
    let items = c.add_placed.ensures.items ∙ ap (λ (ps : List Patch). ps ++ map (nth places) c.deref.result.now) c.requires.room.0 ∙ ap (map (nth places)) c.deref.ensures.value in
    subst (AllFit l) (sym items)
    (retired_fit l v places c.look_blocks.ensures.told c.requires.placed bs c.each_once-blocks.ensures.once (λ b h. c.requires.right b (c.each_once-blocks.ensures.right b h)) (λ b h. c.each_once-blocks.ensures.all b (c.requires.all b h)))

pub returns-clause-retired : goal.returns-clause-retired
returns-clause-retired c =
    let l = c.args.table.now.site.layout in
    let v = sight c.args.owner.now in
    let places = c.args.places.now in
    let bs = c.each_once-blocks.result.items in
    let items = c.add_placed.ensures.items ∙ ap (λ (ps : List Patch). ps ++ map (nth places) c.deref.result.now) c.requires.room.0 ∙ ap (map (nth places)) c.deref.ensures.value in
    subst (WereRetired l v) (sym items)
    (retired_told l v places c.look_blocks.ensures.told c.requires.placed bs c.each_once-blocks.ensures.once (λ b h. c.requires.right b (c.each_once-blocks.ensures.right b h)) (λ b h. c.each_once-blocks.ensures.all b (c.requires.all b h)))

pub returns-clause-once : goal.returns-clause-once
returns-clause-once c =
    let l = c.args.table.now.site.layout in
    let v = sight c.args.owner.now in
    let places = c.args.places.now in
    let bs = c.each_once-blocks.result.items in
    let items = c.add_placed.ensures.items ∙ ap (λ (ps : List Patch). ps ++ map (nth places) c.deref.result.now) c.requires.room.0 ∙ ap (map (nth places)) c.deref.ensures.value in
    subst EachOnce (sym items)
    (retired_once l v places c.look_blocks.ensures.told c.requires.placed bs c.each_once-blocks.ensures.once (λ b h. c.requires.right b (c.each_once-blocks.ensures.right b h)) (λ b h. c.each_once-blocks.ensures.all b (c.requires.all b h)))
