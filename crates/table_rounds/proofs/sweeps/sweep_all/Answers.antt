use Rattle.std.proofs.Common.{◌≡◌, ℕ, ◌+◌, ◌<◌, length, refl, sym, ap, ◌∙◌, subst, arith}
use Rattle.mesh_table.specs.Told.{sight}
use Rattle.table_rounds.specs.Patches.{nth}
use Rattle.table_rounds.specs.Sweeps.{ClearTo}
use Rattle.table_rounds.proofs.Cuts.{may_on}
use Rattle.table_rounds.proofs.GivenUp.{clear_begins, clear_goes, old_on}
use Rattle.table_rounds.proofs.sweeps.sweep_all.Goals as goal

pub loop-patch-init : goal.loop-patch-init
loop-patch-init c = record { stays = (refl, refl, refl); clear = clear_begins c.args.table.now.site.layout (sight c.args.owner.now) c.args.kept.now }

pub sweep_block-requires-clause-may : goal.sweep_block-requires-clause-may
sweep_block-requires-clause-may c = may_on c.args.table.now.site.layout (sight c.args.owner.now) (sight c.loop-patch.owner) c.args.places.now c.loop-patch.invariant.clear.still.same c.requires.may

pub sweep_block-requires-clause-old : goal.sweep_block-requires-clause-old
sweep_block-requires-clause-old c = old_on c.args.table.now.site.layout (sight c.args.owner.now) (sight c.loop-patch.owner) (nth c.args.kept.now c.loop-patch.patch-index) c.loop-patch.invariant.clear.still.same (c.requires.old.each c.loop-patch.patch-index c.loop-patch-test.true)

pub loop-patch-preserved : goal.loop-patch-preserved
loop-patch-preserved c =
    let t = c.loop-patch.invariant.stays in
    let e = c.sweep_block.ensures in
    record {
      stays = (e.stays.0 ∙ t.0, e.stays.1 ∙ t.1, e.stays.2 ∙ t.2);
      clear = clear_goes c.args.table.now.site.layout (sight c.args.owner.now) c.args.kept.now (sight c.loop-patch.owner) (sight c.sweep_block.new.owner) c.loop-patch.patch-index c.loop-patch.invariant.clear e.still e.clear;
    }
