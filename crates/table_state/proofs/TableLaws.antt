-- The laws of where things lie.
use Rattle.std.proofs.Common.{◌≡◌, ℕ, ◌+◌, ◌<◌, Bool, true, false, refl, sym, ap, ◌∙◌, subst, inl, inr, ⊎_elim, arith}
use mathlib.Core.Logic.{dite}
use native.Mathlib.Decide.{ℕ_discrete, dec_lt}
use Rattle.table_words.specs.Setup.{Setup, places}
use Rattle.table_words.specs.Words.{Words}
use Rattle.table_words.specs.Views.{Views, Still, At, Worker, order}
use Rattle.table_words.specs.Places.{member_of}
use Rattle.table_state.specs.Ghosts.{Held, Free, RolledBack, stands, Ghost}
use Rattle.table_state.specs.Bisections.{IsPatch}
use Rattle.table_state.specs.Inside.{IsLabel}
use Rattle.table_state.specs.Readers.{Walks}
use Rattle.table_state.specs.Work.{IsWorkPlace, WorkWalks}
use Rattle.table_state.specs.Rule.{Rule}
use Rattle.table_state.specs.TableLaws.{BlocksInPool, BlocksViewed, PlacesInTable, ChainsNamed, ElementsNamed, WalkSides, ClaimsListedOnce}
use Rattle.table_state.proofs.FoundAgain.{standing, stood, chained_stands}
use Rattle.table_state.proofs.HeldClaims.{used_life, free_loose, free_not, place_of}
use Rattle.table_state.proofs.Across.{zero_or_more}
use Rattle.table_state.proofs.Bisections.{two_names}
use Rattle.table_state.proofs.Inside.{below_pool, not_free, label_below, label_one, label_of}
use Rattle.table_state.proofs.Lawful.{uses_block}
use Rattle.table_state.proofs.RoundLaws.{chains_stand}
use Rattle.table_words.proofs.SeatKinds.{kind_discrete}

module _ (s : Setup) (w : Words) (n : ℕ) (v : Views) (g : Ghost) (r : Rule s w n v g) where
  low : (b : ℕ) → (g.life b ≡ Free → ⊥) → b < s.pool
  low = below_pool s w.free w.row g.life g.stage v.ruling.hand v.ruling.retired r.inside

  stands_low : (b x : ℕ) (t : Bool) → stands (g.life b) t ≡ x + 1 → b < s.pool
  stands_low b x t st = low b (not_free (g.life b) t x st)

  place_low : (x k : ℕ) → IsLabel s w.name g.life x k → x < places s
  place_low = label_below s w.name w.free w.row g.life g.stage v.ruling.hand v.ruling.retired r.inside

  -- the two members of a block that stands have two names
  two_stand : (b x : ℕ) (t u : Bool) → stands (g.life b) t ≡ x + 1 → w.name (member_of b t) ≡ w.name (member_of b u) → t ≡ u
  two_stand b x t u st e = by t u e
    where
      patch : (m : ℕ) × IsPatch s w.name b m
      patch = ⊎_elim (λ p. (p.1, r.names.patch b p.0 p.1 p.2)) (λ p. (p.1, r.named.patch b p.0 p.1 p.2)) (standing (g.life b) t x st)

      clash : w.name (member_of b false) ≡ w.name (member_of b true) → ⊥
      clash e = let a = patch.1 in ⊎_elim (λ z. r.names_apart.leads_some (ap s.leads (sym z ∙ sym e) ∙ a.0)) (λ z. two_names s r.names_apart w.name b patch.0 a z.0 z.1 e) (zero_or_more (w.name (member_of b true)))

      by : (t u : Bool) → w.name (member_of b t) ≡ w.name (member_of b u) → t ≡ u
      by true true e = refl
      by false false e = refl
      by true false e = absurd (clash (sym e))
      by false true e = absurd (clash e)

  -- which member stands at the place of a name
  pub side_is : (b x k : ℕ) (t : Bool) → stands (g.life b) t ≡ x + 1 → w.name (member_of b t) ≡ k → (u : Bool) → (w.name (member_of b u) ≡ k → u ≡ t) × (u ≡ t → w.name (member_of b u) ≡ k)
  side_is b x k t st e u =
      ((λ f. sym (two_stand b x t u st (e ∙ sym f))), λ f. ap (λ (i : Bool). w.name (member_of b i)) f ∙ e)

  pub work_label : (j x k : ℕ) → v.kind j ≡ Worker → IsWorkPlace s w.round v.ruling.phase w.name g.who x k → IsLabel s w.name g.life x k
  work_label j x k kind (inl t) = label_of s w n v g r (w.round + 1) (inr (refl, let e = t.0 in omega (arith, ap order e))) x k t.1
  work_label j x k kind (inr t) = label_of s w n v g r w.round (inl (inl refl)) x k t

  not_still : (x k b : ℕ) (t : Bool) → Still ≡ At x k b t → ⊥
  not_still x k b t e = cc

  worker : (j x k b : ℕ) (t : Bool) → (v.work j).walk ≡ At x k b t → v.kind j ≡ Worker
  worker j x k b t at = dite (kind_discrete (v.kind j) Worker) (λ e. e) (λ o. absurd (not_still x k b t (sym ((r.walks j).still o).1 ∙ at)))

pub blocks_in_pool : BlocksInPool
blocks_in_pool s w n v (g, r) = (
  r.inside.few,
  r.inside.rows,
  (λ b x t st. stands_low s w n v g r b x t st),
  (λ x b l e. let t = (chains_stand s w n v (g, r)).0 x b l e in stands_low s w n v g r b x t.0 t.1),
  (λ a x b t st e. let u = (chains_stand s w n v (g, r)).1 a b x t st e in stands_low s w n v g r b x u.0 u.1),
  λ j x m b p h e. low s w n v g r b (λ f. ⊎_elim (λ k. free_loose (x + 1) (sym f ∙ k)) (λ k. free_not x m (sym f ∙ k)) (used_life w.round w.head w.born g.life x m p b (r.claims.shape x j m p (r.claims.held j x m p h)) (uses_block p b e))),
)

pub blocks_viewed : BlocksViewed
blocks_viewed s w n v (g, r) j b = (
  (λ i h. let t = r.drawn.drawn j i (b + 1) h in elim (dec_lt i w.free) [ yes l ↦ let a = t.2 l in let c = r.inside.rows i l in omega arith | no o ↦ absurd (let a = t.3 (omega arith) in omega arith) ]),
  (λ h. let t = ((r.walks j).went b h).0 in stands_low s w n v g r b t.1 t.0 t.2),
  (λ k h. let f = (r.names.fits w.round (inl (inl refl))).found k b ((r.walks j).had b k h) in let st = stood (g.life b) f.0 f.1 f.3 in stands_low s w n v g r b st.0 false st.1),
  (λ k h. let t = ((r.works j).given b k h).2 in low s w n v g r b (λ f. free_not t.0 t.1 (sym f ∙ t.2))),
  (r.walks j).retired_in b,
  (λ q p h. let t = ((r.goes j).went q b p h).0 in stands_low s w n v g r b t.1 t.0 t.2),
  r.inside.hand_in b,
  r.inside.retired_in b,
  (λ h. let t = r.note.rolled_back b h in low s w n v g r b (λ f. free_rolled_back t.0 t.1 (sym f ∙ t.2))),
  λ x m h. low s w n v g r b (λ f. ⊎_elim (λ e. free_not x m (sym f ∙ e)) (λ e. free_rolled_back x m (sym f ∙ e)) (r.note.placed b x m h)),
)
  where
    free_rolled_back : (x m : ℕ) → Free ≡ RolledBack x m → ⊥
    free_rolled_back x m e = cc

pub places_in_table : PlacesInTable
places_in_table s w n v (g, r) = (
  (λ b x t st. r.inside.stand_in b t x st),
  (λ j x m p h. let is = r.claims.held j x m p h in (place_of s w.round w.cursor w.free v.ruling.phase w.row w.claimed w.head w.born g.life g.stage v.claims r.claims x j m p is, λ y e. r.inside.seconds x j y p (subst (λ (i : ℕ). g.stage x ≡ Held j i p) e is))),
  λ j x k. (
    (λ h. let t = (r.works j).found x k h in place_low s w n v g r x k (label_of s w n v g r (w.round + 1) (inr (refl, let e = t.0 in omega (arith, ap order e))) x k t.1)),
    (λ h. place_low s w n v g r x k (label_of s w n v g r w.round (inl (inl refl)) x k ((r.walks j).stood x k h))),
    λ q p h. place_low s w n v g r x k (label_of s w n v g r q (inl (inr (j, p))) x k ((r.goes j).places q x k p h)),
  ),
)

pub chains_named : ChainsNamed
chains_named s w n v (g, r) = (r.named.heads, r.named.histories, label_one s w.name g.life)

pub elements_named : ElementsNamed
elements_named s w n v (g, r) q may x k at = label_of s w n v g r q may x k at

pub walk_sides : WalkSides
walk_sides s w n v (g, r) j x k b t = (
  (λ at. let h = subst (WorkWalks s w.round v.ruling.phase w.name w.history w.born w.died g.life g.who (v.work j).went) at (r.walks j).walk in side_is s w n v g r b x k t (chained_stands (g.life b) t x h.1) ((r.walks j).sided x k b t (inl at))),
  λ q p at. let h = subst (Walks s w.name w.history w.born w.died g.life (g.who q) q (v.read j).went) at ((r.goes j).walk q p) in side_is s w n v g r b x k t h.1 ((r.goes j).sided q x k b t p (inl at)),
)

pub claims_listed_once : ClaimsListedOnce
claims_listed_once s w n v (g, r) j = r.once j
