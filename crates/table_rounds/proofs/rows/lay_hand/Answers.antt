use Rattle.std.proofs.Common.{◌≡◌, ℕ, ◌+◌, ◌-◌, ◌<◌, ◌≤◌, ◌⊎◌, inl, inr, length, slice_index, refl, sym, ap, ◌∙◌, subst, arith}
use Rattle.table_words.specs.Entries.{HasEntry}
use Rattle.mesh_table.specs.Sights.{Sight}
use Rattle.mesh_table.specs.Told.{sight}
use Rattle.table_rounds.specs.Rows.{laid, IsHand, IsShut, RowsLaid}
use Rattle.table_rounds.proofs.Laying.{lays_nothing, lays_next}
use Rattle.table_rounds.proofs.rows.lay_hand.Goals as goal

pub loop-block-init : goal.loop-block-init
loop-block-init c = record {
  stays = (refl, refl, refl);
  same = refl;
  next = refl;
  laid = lays_nothing (sight c.args.owner.now) c.args.table.now.site.layout.pool c.args.hand.now c.args.low c.args.rows c.requires.hand;
}

pub loop-block-preserved : goal.loop-block-preserved
loop-block-preserved c =
    let t = c.loop-block.invariant.stays in
    let d = c.lay_block.ensures in
    let u = sight c.args.owner.now in
    let v = sight c.loop-block.owner in
    let w = sight c.lay_block.new.owner in
    let hand = c.args.hand.now in
    let n = c.loop-block.block-index in
    let pool = c.args.table.now.site.layout.pool in
    let low = c.args.low in
    let rows = c.args.rows in
    let r = c.row_of-row.result in
    let same = c.loop-block.invariant.same in
    let next = c.loop-block.invariant.next in
    let is : IsHand v pool hand = subst (λ (z : Sight). IsHand z pool hand) (sym same) record { held = c.requires.hand.held; all = c.requires.hand.all; once = c.requires.hand.once } in
    let which : ((n < low) × (r ≡ n)) ⊎ ((low ≤ n) × (r ≡ rows + (n - low))) = subst (λ (m : ℕ). ((m < low) × (r ≡ m)) ⊎ ((low ≤ m) × (r ≡ rows + (m - low)))) next c.row_of-row.ensures in
    record {
      stays = (d.stays.0 ∙ t.0, d.stays.1 ∙ t.1, d.stays.2 ∙ t.2);
      same = d.laid ∙ (λ i. record (same i) { owned = (laid v r (slice_index hand n)).owned }) ∙ sym (ap (λ (z : Sight). record u { owned = z.owned }) d.laid);
      next = omega arith;
      laid = lays_next v pool hand is low rows n c.requires.low.1 c.loop-block-test.true c.loop-block.invariant.laid r which w d.laid;
    }
