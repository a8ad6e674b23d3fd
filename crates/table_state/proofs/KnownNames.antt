-- The laws of walks for names that a pass knows as bisected.
use Rattle.std.proofs.Common.{◌≡◌, ℕ, zero, suc, ◌+◌, ◌<◌, Bool, true, false, ◌⊎◌, refl, sym, ap, ◌∙◌, subst, inl, inr, ⊎_elim, arith}
use mathlib.Core.Logic.{dite}
use native.Mathlib.Decide.{ℕ_discrete, dec_lt}
use Rattle.table_words.specs.Setup.{Setup}
use Rattle.table_words.specs.Words.{Words, Node, node}
use Rattle.table_words.specs.Views.{Views, At, FirstHalf, order}
use Rattle.table_words.specs.Claims.{Half, Whole}
use Rattle.table_words.specs.Places.{member_of}
use Rattle.table_state.specs.Ghosts.{Held, Life, Placed, chained, Ghost}
use Rattle.table_state.specs.Bisections.{IsPlaceOf, MayRead}
use Rattle.table_state.specs.Work.{IsWorkPlace, WorkWalks}
use Rattle.table_state.specs.Rule.{Rule}
use Rattle.table_state.specs.KnownNames.{BeginsAt, WalksChained, KnownFound}
use Rattle.table_state.proofs.Across.{place_one}
use Rattle.table_state.proofs.FoundAgain.{one_more, placed, found_covers, seen_live}
use Rattle.table_state.proofs.Lawful.{members_together}
use Rattle.table_state.proofs.SeatLaws.{living_blocks}

module _ (s : Setup) (w : Words) (n : ℕ) (v : Views) (g : Ghost) (r : Rule s w n v g) (one : v.ruling.phase ≡ FirstHalf) where
  abbrev d : ℕ
  d = w.round + 1

  next : MayRead w.round v.ruling.phase v.read d
  next = inr (refl, omega (arith, ap order one))

  -- the places of the last round's elements are theirs in the first half too
  pub lifts : (x k : ℕ) → IsPlaceOf s w.name (g.who w.round) x k → IsPlaceOf s w.name (g.who d) x k
  lifts x k (inl a) = inl a
  lifts x k (inr c) = inr (c.0, c.1, c.2, c.3, r.names.grows (w.name (member_of c.0 c.1)) c.0 (omega (arith, ap order one)) c.4, c.5)

  pub first_place : (x k : ℕ) → IsWorkPlace s w.round v.ruling.phase w.name g.who x k → IsPlaceOf s w.name (g.who d) x k
  first_place x k h = ⊎_elim (λ t. t.1) (lifts x k) h

  module _ (b k : ℕ) (bisects : g.who d k ≡ b + 1) where
    -- the block is in chains, living
    lives : (t : Bool) × (x m y : ℕ) × (g.life b ≡ Placed x m) × (chained (g.life b) t ≡ y + 1) × IsPlaceOf s w.name (g.who d) y k × (0 < w.born b) × (w.died b ≡ 0)
    lives = let f = (r.names.fits d next).found k b bisects in let p = placed (g.life b) f.0 f.1 f.3 in let c = found_covers w.history w.born w.died g.life d f.1 b f.5.0 (w.head f.1) f.5.1 in
        (f.0, p.0, p.1, f.1, p.2, f.3, f.4, c.0, let l = r.names.calm b p.0 p.1 ((λ z. cc), λ z. cc) p.2 in ⊎_elim (λ e. e) (λ m. omega arith) c.2)

    -- and the LINK word of the name's place names it
    named_at : (x : ℕ) → IsPlaceOf s w.name (g.who d) x k → (w.head x).block ≡ b + 1
    named_at x at = let l = lives in let same = place_one s w n v g r d next l.3 x k l.6 at in
        subst (λ (y : ℕ). (w.head y).block ≡ b + 1) same ((living_blocks s w n v (g, r) b l.1 l.2 l.4 l.7 l.8).1 l.0 l.3 l.5).0

    no_round : (x : ℕ) → IsPlaceOf s w.name (g.who d) x k → (w.head x).died ≡ 0
    no_round x at = let l = lives in let e = named_at x at in let dead = l.8 in ⊎_elim
        (λ z. ap (λ (i : Node). i.died) z)
        (λ o. let same : w.died o.0 ≡ w.died b = ap w.died (one_more o.0 b (sym o.2 ∙ e)) in
        dite (ℕ_discrete (w.head x).died 0) (λ q. q) (λ q. let z : (w.head x).died ≡ w.died o.0 = o.4 (elim (dec_lt 0 (w.head x).died) [ yes p ↦ p | no p ↦ absurd (q (omega arith)) ]) in omega arith))
        (r.chains.heads x (seen_live s w.name w.name w.head w.history w.head w.history w.born w.died w.born w.died g.life g.life (λ _ _ _ _ _. refl) (g.who d) d x k (r.names.fits d next) at))

  module _ (b k : ℕ) (bisects : g.who d k ≡ b + 1) (c x : ℕ) (at : IsPlaceOf s w.name (g.who d) x k) (z : w.born c ≡ 0) where
    clash : (y : ℕ) → (w.head y).block ≡ b + 1 → w.head y ≡ node (c + 1) 0 → ⊥
    clash y e f = let same = ap w.born (one_more c b (sym (ap (λ (l : Node). l.block) f) ∙ e)) in let young = (lives b k bisects).7 in omega arith

    here : (w.head x).block ≡ b + 1
    here = named_at b k bisects x at

    first_side : (y m : ℕ) → g.life c ≡ Placed y m → chained (g.life c) false ≡ x + 1 → (w.head y).block ≡ b + 1
    first_side y m u e = ap (λ (f : ℕ). (w.head f).block) (one_more y x (sym (ap (λ (l : Life). chained l false) u) ∙ e)) ∙ here

    whole : (y m i : ℕ) → g.life c ≡ Placed y m → g.stage y ≡ Held i m (Whole c) → (t : Bool) → chained (g.life c) t ≡ x + 1 → ⊥
    whole y m i u a false e = clash y (first_side y m u e) (r.claims.shape y i m (Whole c) a).2
    whole y m i u a true e = clash x here ((r.claims.shape y i m (Whole c) a).3 x (sym (ap (λ (l : Life). chained l true) u) ∙ e))

    -- the second member of a block that is linked at the first one's place alone: the block bisects the first too, whose place's word would name it
    half : (y m i : ℕ) → g.life c ≡ Placed y m → g.stage y ≡ Held i m (Half c) → (t : Bool) → chained (g.life c) t ≡ x + 1 → w.name (member_of c t) ≡ k → ⊥
    half y m i u a false e is = clash y (first_side y m u e) (r.claims.shape y i m (Half c) a).2
    half y m i u a true e is = let l = r.labels y i m (Half c) a one in let first : w.name (member_of c false) ≡ l.0 = l.4 c refl in let q : m ≡ x + 1 = sym (ap (λ (l : Life). chained l true) u) ∙ e in
        let p = r.names.patch c y m u in ⊎_elim
        (λ o. let f = o.0 in omega arith)
        (λ o. let both = (members_together s w n v (g, r) d next (w.name (member_of c false)) o.1 b o.3).1 (ap (g.who d) (sym (sym is ∙ p.1 ∙ o.3)) ∙ bisects) in
        clash y (named_at b (w.name (member_of c false)) both y (subst (IsPlaceOf s w.name (g.who d) y) (sym first) l.2)) (r.claims.shape y i m (Half c) a).2) p.2

    -- a block that is not born is in no chain of the name's place with this name: its claim's words would name it
    pub no_unborn : (t : Bool) → chained (g.life c) t ≡ x + 1 → w.name (member_of c t) ≡ k → ⊥
    no_unborn t ch is = let p = placed (g.life c) t x ch in let h = r.claims.half c p.0 p.1 p.2 z in
        ⊎_elim (λ a. half p.0 p.1 h.0 p.2 a t ch is) (λ a. whole p.0 p.1 h.0 p.2 a t ch) h.1

pub walks_chained : WalksChained
walks_chained s w n v (g, r) j x k b t at = (subst (WorkWalks s w.round v.ruling.phase w.name w.history w.born w.died g.life g.who (v.work j).went) at (r.walks j).walk).1

pub known_found : KnownFound
known_found s w n v (g, r) j x k kind h = (
  (λ at. let p = first_place s w n v g r one x k (begins at) in let l = lives s w n v g r one b k bisects in
      (b, (let e = named_at s w n v g r one b k bisects x p in let z = no_round s w n v g r one b k bisects x p in λ i. node (e i) (z i)), bisects, l.7)),
  λ c t at. let f = subst (WorkWalks s w.round v.ruling.phase w.name w.history w.born w.died g.life g.who (v.work j).went) at (r.walks j).walk in
      let p = first_place s w n v g r one x k f.2 in let is = (r.walks j).sided x k c t (inl at) in
      let born = positive (w.born c) (λ z. no_unborn s w n v g r one b k bisects c x p z t f.1 is) in (ap (g.who (w.round + 1)) (sym is) ∙ (r.names.sound (w.round + 1) (next s w n v g r one) c t x f.1 (born, r.chains.borns c, lasts c t f)).0, born),
)
  where
    one : v.ruling.phase ≡ FirstHalf
    one = ((r.works j).known k h).0

    b : ℕ
    b = ((r.works j).known k h).1.0

    bisects : g.who (w.round + 1) k ≡ b + 1
    bisects = ((r.works j).known k h).1.1

    positive : (i : ℕ) → (i ≡ 0 → ⊥) → 0 < i
    positive zero o = absurd (o refl)
    positive (suc i) o = omega arith

    begins : BeginsAt s (v.work j) x k → IsWorkPlace s w.round v.ruling.phase w.name g.who x k
    begins a = ⊎_elim (λ t. inl ((r.works j).found x k t)) (λ t. ⊎_elim (λ u. inr ((r.walks j).stood x k u)) (λ u. inr (inl u)) t) a

    -- a block to which the pass went is retired by no round of the first half
    lasts : (c : ℕ) (t : Bool) → WorkWalks s w.round v.ruling.phase w.name w.history w.born w.died g.life g.who (v.work j).went (At x k c t) → (w.died c ≡ 0) ⊎ (w.round + 1 < w.died c)
    lasts c t f = let e = one in let p = placed (g.life c) t x f.1 in let l = r.names.calm c p.0 p.1 ((λ z. cc), λ z. cc) p.2 in ⊎_elim inl (λ m. absurd (omega arith)) ((r.walks j).went c f.0).1
