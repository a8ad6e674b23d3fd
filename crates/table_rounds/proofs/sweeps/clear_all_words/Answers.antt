use Rattle.std.proofs.Common.{◌≡◌, ℕ, ◌+◌, ◌<◌, length, refl, sym, ap, ◌∙◌, subst, arith}
use Rattle.table_words.specs.Entries.{HasEntry}
use Rattle.mesh_table.specs.Sights.{Sight}
use Rattle.mesh_table.specs.Told.{sight}
use Rattle.table_rounds.specs.Patches.{nth, spot}
use Rattle.table_rounds.proofs.Cuts.{may_on}
use Rattle.table_rounds.proofs.GivenUp.{words_begin, words_go}
use Rattle.table_rounds.proofs.sweeps.clear_all_words.Goals as goal

pub loop-patch-init : goal.loop-patch-init
loop-patch-init c = record { stays = (refl, refl, refl); clear = words_begin c.args.table.now.site.layout (sight c.args.owner.now) c.args.rolled_back.now }

pub clear_words-requires-clause-may : goal.clear_words-requires-clause-may
clear_words-requires-clause-may c = may_on c.args.table.now.site.layout (sight c.args.owner.now) (sight c.loop-patch.owner) c.args.places.now c.loop-patch.invariant.clear.still.same c.requires.may

pub clear_words-requires-clause-fits : goal.clear_words-requires-clause-fits
clear_words-requires-clause-fits c = c.requires.back.fits c.loop-patch.patch-index c.loop-patch-test.true

pub clear_words-requires-clause-placed : goal.clear_words-requires-clause-placed
clear_words-requires-clause-placed c = subst (λ (z : Sight). HasEntry z.ruling.placed (spot c.args.table.now.site.layout (nth c.args.rolled_back.now c.loop-patch.patch-index))) (sym c.loop-patch.invariant.clear.still.same) (c.requires.back.each c.loop-patch.patch-index c.loop-patch-test.true).1

pub loop-patch-preserved : goal.loop-patch-preserved
loop-patch-preserved c =
    let t = c.loop-patch.invariant.stays in
    let e = c.clear_words.ensures in
    record {
      stays = (e.stays.0 ∙ t.0, e.stays.1 ∙ t.1, e.stays.2 ∙ t.2);
      clear = words_go c.args.table.now.site.layout (sight c.args.owner.now) c.args.rolled_back.now (sight c.loop-patch.owner) (sight c.clear_words.new.owner) c.loop-patch.patch-index c.loop-patch.invariant.clear e.still e.clear;
    }
