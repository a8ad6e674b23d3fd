-- The laws of claims.
use Rattle.std.proofs.Common.{◌≡◌, ℕ, ◌+◌, ◌≤◌, inl, inr, refl, sym, ap, ◌∙◌, subst, ⊎_elim, arith}
use native.Mathlib.Decide.{dec_lt}
use Rattle.table_words.specs.Claims.{Progress, Drawn, Half, Whole}
use Rattle.table_words.specs.Setup.{places}
use Rattle.table_state.specs.Ghosts.{Stage, Open, Held}
use Rattle.table_state.specs.Chains.{IsUnborn}
use Rattle.table_state.specs.Claims.{bit_of}
use Rattle.table_state.specs.ClaimLaws.{BitsClaimed, SecondPlaces, StagesViewed, DrawsCounted, UnbornBlocks, FreeUnborn, UnbornClaimed, TargetLeast}
use Rattle.table_state.proofs.HeldClaims.{held_one, not_open}

few_bits : (t : Stage) → bit_of t ≤ 1
few_bits Open = omega arith
few_bits (Held j m p) = omega arith

bit_held : (t : Stage) → bit_of t ≡ 1 → (j : ℕ) × (m : ℕ) × (p : Progress) × (t ≡ Held j m p)
bit_held Open e = absurd (omega arith)
bit_held (Held j m p) e = (j, m, p, refl)

pub bits_claimed : BitsClaimed
bits_claimed s w n v (g, r) x = (
  (let b = few_bits (g.stage x) in let e = r.claims.bits x in omega arith),
  (λ j m p h. r.claims.bits x ∙ ap bit_of (r.claims.held j x m p h)),
  λ e. let t = bit_held (g.stage x) (sym (r.claims.bits x) ∙ e) in (t.0, t.1, t.2, r.claims.holds t.0 x t.1 t.2 t.3, λ i k q h. held_one i t.0 k t.1 q t.2 (sym (r.claims.held i x k q h) ∙ t.3)),
)

pub second_places : SecondPlaces
second_places s w n v (g, r) j x y p h = let t = r.claims.mates x j y p (r.claims.held j x (y + 1) p h) in (r.claims.bits y ∙ ap bit_of t.0, λ i z q l. t.1 z i q (r.claims.held i z (y + 1) q l))

pub stages_viewed : StagesViewed
stages_viewed s w n v (g, r) j x m p = (
  (r.claims.holds j x m p, r.claims.held j x m p),
  λ h. elim (dec_lt x (places s)) [ yes a ↦ a | no o ↦ absurd (not_open j m p (sym (r.claims.held j x m p h) ∙ r.claims.inside x (omega arith))) ],
)

pub draws_counted : DrawsCounted
draws_counted s w n v (g, r) one = r.claims.drawn one

pub unborn_blocks : UnbornBlocks
unborn_blocks s w n v (g, r) = (
  (λ j x m b h. r.claims.shape x j m (Drawn b) (r.claims.held j x m (Drawn b) h)),
  (λ j x m b h. r.claims.shape x j m (Half b) (r.claims.held j x m (Half b) h)),
  (λ j x m b h. r.claims.shape x j m (Whole b) (r.claims.held j x m (Whole b) h)),
  r.chains.rolled_back,
)

pub free_unborn : FreeUnborn
free_unborn s w n v (g, r) b u = elim (dec_lt 0 (w.born b)) [
  | yes p ↦ ⊎_elim inl (λ k. inr (p, k.0, k.1, λ i l m e. let z : w.born (w.row i) ≡ w.born b = ap w.born e in let y = (r.claims.rows i l m).1 in omega arith)) (subst (IsUnborn w.round (w.born b) (w.died b)) u (r.chains.unborn b))
  | no o ↦ inl (omega arith)
]

pub unborn_claimed : UnbornClaimed
unborn_claimed s w n v (g, r) b x m u z = let t = r.claims.half b x m u z in (t.0, ⊎_elim (λ e. inl (r.claims.holds t.0 x m (Half b) e)) (λ e. inr (r.claims.holds t.0 x m (Whole b) e)) t.1)

pub target_least : TargetLeast
target_least s w n v (g, r) a b = r.plan.aim a b
