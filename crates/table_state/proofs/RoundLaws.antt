-- The laws of the lists of a round, of the history, and of blocks that may not be used again.
use Rattle.std.proofs.Common.{◌≡◌, ℕ, zero, suc, ◌+◌, ◌<◌, ◌≤◌, Bool, true, false, refl, sym, ap, ◌∙◌, inl, inr, ⊎_elim, arith}
use mathlib.Core.Logic.{dite}
use native.Mathlib.Decide.{ℕ_discrete, dec_lt}
use Rattle.table_words.specs.Claims.{Drawn, Living}
use Rattle.table_words.specs.Entries.{HasEntry}
use Rattle.table_words.specs.Places.{member_of}
use Rattle.table_state.specs.Ghosts.{Held, Life, Free, chained, stands}
use Rattle.table_state.specs.Claims.{bit_of, Shape}
use Rattle.table_state.specs.Bisections.{IsPlaceOf}
use Rattle.table_state.specs.RoundLaws.{BetweenForests, DiffersByPatches, BisectedClosed, ClaimsAimed, LivingAimed, ClaimsDrawn, ListsKnown, HistoryRight, ToldPrefix, NotesInHistory, DrawsApart, QuietRound, WalksBegin, ChainsStand, StandingKept, RoundsLeft, WorkerAlone}
use Rattle.table_state.proofs.FoundAgain.{chained_stands, found_covers, one_more, seen_live}
use Rattle.table_state.proofs.ChainSteps.{named, older_named}
use Rattle.table_state.proofs.Across.{Went, half_of}
use Rattle.table_state.proofs.Lists.{bisected_closed, entry_low, entry_at}
use Rattle.table_words.specs.Views.{FirstHalf, RollingBack, Precedes, order}

pub between : BetweenForests
between s w n v (g, r) one = (r.plan.aim (omega (arith, ap order one)) (omega (arith, ap order one)), λ k. ((λ h. (h.0, r.names.grows k h.0 (omega (arith, ap order one)) h.1)), λ h. r.plan.within k (omega (arith, ap order one)) (omega (arith, ap order one)) h))

pub differs : DiffersByPatches
differs s w n v (g, r) later k = let a : Precedes FirstHalf v.ruling.phase = ⊎_elim (λ e. omega (arith, ap order e)) (λ e. omega (arith, ap order e)) later in let b : Precedes v.ruling.phase RollingBack = ⊎_elim (λ e. omega (arith, ap order e)) (λ e. omega (arith, ap order e)) later in
    ((λ h. r.plan.within k (omega arith) b h), (λ h. r.plan.whole k a b h), λ e h l. let z = r.plan.done k e h in let y = l.1 in omega arith)

pub closed : BisectedClosed
closed s w n v (g, r) q may = bisected_closed s w n v g r q may

pub aimed : ClaimsAimed
aimed s w n v (g, r) j x m p one h = let e = r.claims.held j x m p h in let l = r.labels x j m p e one in (r.claims.bits x ∙ ap bit_of e, (l.0, l.1, l.2, l.3, l.6))

pub living_aimed : LivingAimed
living_aimed s w n v (g, r) j x m b late early h = (r.claims.bits x ∙ ap bit_of held, (r.names.patch b x m shape.0).0, here.1, absent, r.plan.within k late early (b, here.0))
  where
    k : ℕ
    k = w.name (member_of b false)

    held : g.stage x ≡ Held j m (Living b)
    held = r.claims.held j x m (Living b) h

    shape : Shape w.round w.head w.born g.life x m (Living b)
    shape = r.claims.shape x j m (Living b) held

    lives : w.died b ≡ 0
    lives = dite (ℕ_discrete (w.died b) 0) (λ e. e) (λ o. let d = r.chains.dieds b x m shape.0 (omega arith) in let c = shape.1 in absurd (omega arith))

    here : (g.who (w.round + 1) k ≡ b + 1) × IsPlaceOf s w.name (g.who (w.round + 1)) x k
    here = let c = shape.1 in r.names.sound (w.round + 1) (inr (refl, early)) b false x (ap (λ (l : Life). chained l false) shape.0) (omega arith, omega arith, inl lives)

    -- the last finished round cannot have it by another block, which would be its block now, nor by this one, which is younger
    no_block : (c : ℕ) → g.who w.round k ≡ c + 1 → ⊥
    no_block c e = let f = (r.names.fits w.round (inl (inl refl))).found k c e in let v1 = found_covers w.history w.born w.died g.life w.round f.1 c f.5.0 (w.head f.1) f.5.1 in let low = v1.1 in
        ⊎_elim (λ same. let one : c ≡ b = one_more c b (sym same ∙ here.0) in let young : w.born c ≡ w.born b = ap w.born one in let d = shape.1 in omega arith) (λ none. let d = here.0 in omega arith) (r.names.either k c early e)

    absent : g.who w.round k ≡ 0
    absent = by (g.who w.round k) refl
      where
        by : (i : ℕ) → g.who w.round k ≡ i → g.who w.round k ≡ 0
        by zero e = e
        by (suc c) e = absurd (no_block c (e ∙ omega arith))

pub lists_known : ListsKnown
lists_known s w n v (g, r) j k = r.plan.same j k

pub history_right : HistoryRight
history_right s w n v (g, r) = (
  (λ q l. entry_at v.ruling.history q (let k = r.history.rounds in omega arith)),
  λ q names e. (let l = entry_low v.ruling.history q names e in let k = r.history.rounds in omega arith, λ k. r.history.forests q names e k),
)

pub told_prefix : ToldPrefix
told_prefix s w n v (g, r) j = let a = r.history.seen j in (r.history.told j, a.0, a.1, (r.history.made j).1)

pub notes_told : NotesInHistory
notes_told s w n v (g, r) j k q = (
  finished,
  λ names e. (
    (λ h. (r.history.forests q names e k).1 ((r.goes j).yes_notes k q h).1),
    λ h m. let z = ((r.goes j).no_notes k q h).1 in let y = (r.history.forests q names e k).0 m in let x = y.1 in omega arith,
  ),
)
  where
    finished : (b : Bool) → HasEntry (v.read j).notes record { round = q; name = k; bisected = b } → q ≤ w.round
    finished true h = ((r.goes j).yes_notes k q h).0
    finished false h = ((r.goes j).no_notes k q h).0

pub draws_apart : DrawsApart
draws_apart s w n v (g, r) i j k b c h l = let t = r.drawn.drawn i k b h in let u = r.drawn.drawn j k c l in
    (r.drawn.apart i j k b c h l, elim (dec_lt k w.free) [ yes a ↦ t.2 a ∙ sym (u.2 a) | no o ↦ t.3 (omega arith) ∙ sym (u.3 (omega arith)) ], t.1, t.2)

pub walks_begin : WalksBegin
walks_begin s w n v (g, r) q may x k at = seen_live s w.name w.name w.head w.history w.head w.history w.born w.died w.born w.died g.life g.life (λ _ _ _ _ _. refl) (g.who q) q x k (r.names.fits q may) at

pub chains_stand : ChainsStand
chains_stand s w n v (g, r) = (
  (λ x b l e. let t = named (λ _. Unit {0}) (Went w.round w.died v.kind v.work v.read) s.elements w.round w.head w.history w.born w.died g.life r.chains x b (w.head x) (r.chains.heads x l) e in (t.0, chained_stands (g.life b) t.0 x t.1)),
  λ a c x t h e. let o = older_named (λ _. Unit {0}) (Went w.round w.died v.kind v.work v.read) s.elements w.round w.head w.history w.born w.died g.life r.chains x c (w.born a) (w.history (member_of a t)) (r.chains.histories a t x h) e in (o.0, chained_stands (g.life c) o.0 x o.1),
)

pub quiet_round : QuietRound
quiet_round s w n v (g, r) b x m u = (
  (λ e j p h. r.note.quiet e j b p h (r.note.all b x m u)),
  (λ y l e. let t = named (λ _. Unit {0}) (Went w.round w.died v.kind v.work v.read) s.elements w.round w.head w.history w.born w.died g.life r.chains y b (w.head y) (r.chains.heads y l) e in gone t.0 y t.1),
  λ a y t h e. let o = older_named (λ _. Unit {0}) (Went w.round w.died v.kind v.work v.read) s.elements w.round w.head w.history w.born w.died g.life r.chains y b (w.born a) (w.history (member_of a t)) (r.chains.histories a t y h) e in gone o.0 y o.1,
)
  where
    gone : (t : Bool) (y : ℕ) → chained (g.life b) t ≡ y + 1 → ⊥
    gone t y c = let z : 0 ≡ y + 1 = sym (ap (λ (l : Life). chained l t) u) ∙ c in omega arith

pub standing_kept : StandingKept
standing_kept s w n v (g, r) b x t st = (
  (λ i a l e. free (ap g.life (sym e) ∙ (r.claims.rows i a l).0)),
  (λ h. free (r.hand b h)),
  λ j y m h. let sh = r.claims.shape y j m (Drawn b) (r.claims.held j y m (Drawn b) h) in let z : 0 ≡ x + 1 = sym (ap (λ (l : Life). stands l t) sh.0) ∙ st in omega arith,
)
  where
    free : g.life b ≡ Free → ⊥
    free e = let z : 0 ≡ x + 1 = sym (ap (λ (l : Life). stands l t) e) ∙ st in omega arith

pub rounds_left : RoundsLeft
rounds_left s w n v (g, r) = (r.crew.rounds.0, λ j k. r.crew.rounds.1 (⊎_elim (λ e. omega (arith, ap order e)) (λ e. omega (arith, ap order e)) (half_of s w n v g r j k)))

pub worker_alone : WorkerAlone
worker_alone s w n v (g, r) j one k z = let t = r.crew.alone j one k z in (t.0, λ i x m p h. t.1 x i m p (r.claims.held i x m p h))

pub claims_drawn : ClaimsDrawn
claims_drawn s w n v (g, r) j x m p one h f = r.draws x j m p one (r.claims.held j x m p h) f
