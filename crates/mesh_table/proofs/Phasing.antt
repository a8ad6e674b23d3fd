-- The second half is planned, and a round is closed, refused or rolled back.
use Rattle.std.proofs.Common.{ℕ, List, refl, sym, ap, subst}
use Rattle.atomic_table.specs.Table.{Allows}
use Rattle.table_words.specs.Words.{words_at}
use Rattle.table_steps.specs.Steps.{ByPlanStep, ByCloseStep, ByRefuseStep, ByRestoreStep}
use Rattle.mesh_table.specs.declared.rule.Site.{Site}
use Rattle.mesh_table.specs.Sights.{Sight, seat_at, setup_at}
use Rattle.mesh_table.specs.Holds.{Holds, Sat}
use Rattle.mesh_table.specs.Rounds.{MayPlan, planned, MayClose, closed, MayRefuse, refused, MayRestore, restored}
use Rattle.mesh_table.specs.Told.{moved}
use Rattle.mesh_table.proofs.Owning.{owner_acts, by_step, kept_words}
use Rattle.mesh_table.proofs.Seats.{in_owner}

module _ (k : Site) (id i : ℕ) (me : Sat) where
  pub plans : (retire : List ℕ) → MayPlan me.0 → (slots : ℕ) → Allows (Holds k) slots id me i (λ n. n) (moved (λ n v. planned v retire) me)
  plans retire may slots = owner_acts k id i me may.rules slots (λ n. n) (moved (λ n v. planned v retire) me) (λ s h same _.
      let f = seat_at s.views in
      let can : MayPlan (f 0) = subst (λ (y : Sight). MayPlan y) (sym same) may in
      (planned (f 0) retire, words_at k.layout s.words, _, kept_words k id i me may.rules s, in_owner f (planned (f 0) retire) refl refl refl refl, by_step k id i me may.rules s h _ _ (ByPlanStep (retire, can.needs, can.half, can.home, can.living, refl)), (refl, ap (λ (y : Sight). planned y retire) same)))

  pub closes : MayClose (setup_at k) me.0 → (slots : ℕ) → Allows (Holds k) slots id me i (λ n. n) (moved (λ n v. closed v) me)
  closes may slots = owner_acts k id i me may.rules slots (λ n. n) (moved (λ n v. closed v) me) (λ s h same _.
      let f = seat_at s.views in
      let can : MayClose (setup_at k) (f 0) = subst (λ (y : Sight). MayClose (setup_at k) y) (sym same) may in
      (closed (f 0), words_at k.layout s.words, _, kept_words k id i me may.rules s, in_owner f (closed (f 0)) refl refl refl refl, by_step k id i me may.rules s h _ _ (ByCloseStep (can.done, can.half, can.home, refl)), (refl, ap (λ (y : Sight). closed y) same)))

  pub refuses : MayRefuse me.0 → (slots : ℕ) → Allows (Holds k) slots id me i (λ n. n) (moved (λ n v. refused v) me)
  refuses may slots = owner_acts k id i me may.rules slots (λ n. n) (moved (λ n v. refused v) me) (λ s h same _.
      let f = seat_at s.views in
      let can : MayRefuse (f 0) = subst (λ (y : Sight). MayRefuse y) (sym same) may in
      (refused (f 0), words_at k.layout s.words, _, kept_words k id i me may.rules s, in_owner f (refused (f 0)) refl refl refl refl, by_step k id i me may.rules s h _ _ (ByRefuseStep (can.half, can.home, refl)), (refl, ap (λ (y : Sight). refused y) same)))

  pub restores : MayRestore me.0 → (slots : ℕ) → Allows (Holds k) slots id me i (λ n. n) (moved (λ n v. restored v) me)
  restores may slots = owner_acts k id i me may.rules slots (λ n. n) (moved (λ n v. restored v) me) (λ s h same _.
      let f = seat_at s.views in
      let can : MayRestore (f 0) = subst (λ (y : Sight). MayRestore y) (sym same) may in
      (restored (f 0), words_at k.layout s.words, _, kept_words k id i me may.rules s, in_owner f (restored (f 0)) refl refl refl refl, by_step k id i me may.rules s h _ _ (ByRestoreStep (can.back, can.none, refl)), (refl, ap (λ (y : Sight). restored y) same)))
