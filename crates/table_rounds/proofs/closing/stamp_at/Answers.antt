use Rattle.std.proofs.Common.{◌≡◌, ℕ, ◌+◌, ◌<◌, ◌/◌, ◌%◌, ◌⊎◌, inl, inr, refl, sym, ap, ◌∙◌, subst, arith}
use Rattle.table_words.specs.Places.{place_number}
use Rattle.table_words.specs.Words.{node, node_of}
use Rattle.mesh_table.specs.Sights.{Sight}
use Rattle.mesh_table.specs.Passes.{IsStampedIn}
use Rattle.mesh_table.specs.Told.{noted_head, sight}
use Rattle.table_rounds.specs.Patches.{StampsStay}
use Rattle.table_rounds.proofs.Stamps.{load_stays, stamp_stays}
use Rattle.table_rounds.proofs.closing.stamp_at.Goals.{else-word-from-via-then-word-from+else-word-eq0, else-word-from-via-else-word-from}
use Rattle.table_rounds.proofs.closing.stamp_at.Goals as goal

pub returns-then-word-eq0-clause-stamped : goal.returns-then-word-eq0-clause-stamped
returns-then-word-eq0-clause-stamped c =
    let now = c.requires.swept.now in
    subst (λ (v : Sight). IsStampedIn v (place_number c.args.table.now.site.layout c.args.at) c.args.block) (sym c.stamp.ensures.stamped) (node (c.args.block + 1) c.args.round, inl (refl, refl), inr (omega arith))

pub returns-then-word-eq0-clause-others : goal.returns-then-word-eq0-clause-others
returns-then-word-eq0-clause-others c =
    let now = c.requires.swept.now in
    let x = place_number c.args.table.now.site.layout c.args.at in
    let one : StampsStay (sight c.args.owner.now) (sight c.look_head-word.new.owner) = subst (λ (v : Sight). StampsStay (sight c.args.owner.now) v) (sym c.look_head-word.ensures.view) (load_stays (sight c.args.owner.now) x (node_of c.look_head-word.result) c.look_head-word.ensures.again) in
    let two : StampsStay (sight c.look_head-word.new.owner) (sight c.stamp.new.owner) = subst (λ (v : Sight). StampsStay (sight c.look_head-word.new.owner) v) (sym c.stamp.ensures.stamped) (stamp_stays (sight c.look_head-word.new.owner) x (node (c.args.block + 1) c.args.round) (omega arith)) in
    λ y d h. two y d (one y d h)

pub returns-else-word-from-clause-stamped : goal.returns-else-word-from-clause-stamped
returns-else-word-from-clause-stamped c =
    let n = c.look_head-word.result in
    let from = c.from.ensures in
    let fine : ((node_of n).block ≡ c.args.block + 1 → ⊥) ⊎ (0 < (node_of n).died) = elim c.else-word-from.branch [
      | else-word-from-via-then-word-from+else-word-eq0 w ↦ let t = w.if-word-eq0.false in inr (omega arith)
      | else-word-from-via-else-word-from w ↦ let t = w.if-word-from.false in inl (λ (e : n / 2 % 2097152 ≡ c.args.block + 1). omega arith)
    ] in
    subst (λ (v : Sight). IsStampedIn v (place_number c.args.table.now.site.layout c.args.at) c.args.block) (sym c.look_head-word.ensures.view) (node_of n, inl (refl, refl), fine)
