use Rattle.std.proofs.Common.{◌≡◌, ℕ, ◌+◌, ◌<◌, List, length, set, refl, sym, ap, ◌∙◌, subst, arith}
use Rattle.std.proofs.lemmas.List.{length-set}
use Rattle.table_rounds.specs.Patches.{nth}
use Rattle.table_rounds.specs.Stocks.{PlacesNoted}
use Rattle.table_rounds.proofs.Listing.{noted_none, noted_one}
use Rattle.table_rounds.proofs.finishing.note_places.Goals as goal

pub loop-patch-init : goal.loop-patch-init
loop-patch-init c = record { size = refl; noted = noted_none c.args.places.now.items c.args.patches.now }

pub index_mut-requires : goal.index_mut-requires
index_mut-requires c =
    let room = c.requires.room c.loop-patch.patch-index c.loop-patch-test.true in
    let size = c.loop-patch.invariant.size in
    omega arith

pub loop-patch-preserved : goal.loop-patch-preserved
loop-patch-preserved c =
    let n = c.loop-patch.patch-index in
    let ps = c.args.patches.now in
    let now = c.loop-patch.places.items in
    let room = c.requires.room n c.loop-patch-test.true in
    let size = c.loop-patch.invariant.size in
    let inside : (nth ps n).block < length now = omega arith in
    record {
      size = length-set now (nth ps n).block (nth ps n) ∙ size;
      noted = noted_one c.args.places.now.items now ps n (nth ps n).block (nth ps n) c.loop-patch.invariant.noted refl refl inside;
    }

pub returns-clause-length : goal.returns-clause-length
returns-clause-length c = c.loop-patch.invariant.size

pub returns-clause-noted : goal.returns-clause-noted
returns-clause-noted c =
    let end : c.loop-patch.patch-index ≡ length c.args.patches.now = omega arith in
    subst (PlacesNoted c.args.places.now.items c.loop-patch.places.items c.args.patches.now) end c.loop-patch.invariant.noted
