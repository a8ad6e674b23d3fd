-- The laws that hold between any two steps.
use Rattle.std.proofs.Common.{◌≡◌, ℕ, ◌+◌, ◌*◌, ◌<◌, ◌≤◌, Bool, true, false, List, inl, inr, [], ◌∷◌, length, sym, ap, ◌∙◌, subst, ⊎_elim, arith}
use Rattle.table_words.specs.Words.{Node}
use Rattle.table_words.specs.Places.{member_of}
use Rattle.table_words.specs.Claims.{Progress, Claimed, Failed, Drawn, Half, Whole, Living}
use Rattle.table_words.specs.Setup.{places}
use Rattle.table_words.proofs.Sums.{flags_below}
use Rattle.table_state.specs.Ghosts.{Stage, Open, Held, Life, stands, chained}
use Rattle.table_state.specs.Chains.{Finds, Reaches}
use Rattle.table_state.specs.Claims.{draws_of}
use Rattle.table_state.specs.Bisections.{IsPlaceOf}
use Rattle.table_state.specs.Claims.{block_of}
use Rattle.table_state.specs.Laws.{BlocksPlaced, CoversBisect, RetiredBorn, LeadOn, WalksShort, PinsBounded, OneHolder, OneClaim, DrawsBounded, FreeRows, WalksAgree, WalksEnd, ParentsBisected, MembersTogether, PlacesAgree, NotesAgree, ReachedKept, DrainedRounds}
use Rattle.table_state.proofs.FoundAgain.{one_more, placed, found_covers, standing, placed_chained}
use Rattle.table_state.proofs.HeldClaims.{held_one, uses, one_user}
use Rattle.table_state.proofs.Across.{place_one, name_one, no_pin}

pub bounded : PinsBounded
bounded s w n v (g, r) = let b = r.pins.bound in (omega arith, sym r.pins.now ∙ r.pins.count w.round)

pub one_holder : OneHolder
one_holder s w n v (g, r) i j x m k p q a b = held_one i j m k p q (sym (r.claims.held i x m p a) ∙ r.claims.held j x k q b)

pub uses_block : (p : Progress) (b : ℕ) → block_of p ≡ b + 1 → uses p ≡ b + 1
uses_block Claimed b e = e
uses_block Failed b e = e
uses_block (Drawn c) b e = e
uses_block (Half c) b e = e
uses_block (Whole c) b e = e
uses_block (Living c) b e = e

pub one_claim : OneClaim
one_claim s w n v (g, r) i j x y m k b p q a c e f = one_user s w.round w.cursor w.free v.ruling.phase w.row w.claimed w.head w.born g.life g.stage v.claims r.claims x y i j m k b p q (r.claims.held i x m p a) (r.claims.held j y k q c) (uses_block p b e) (uses_block q b f)

few_draws : (t : Stage) → draws_of t ≤ 1
few_draws Open = omega arith
few_draws (Held j m Claimed) = omega arith
few_draws (Held j m Failed) = omega arith
few_draws (Held j m (Drawn b)) = omega arith
few_draws (Held j m (Half b)) = omega arith
few_draws (Held j m (Whole b)) = omega arith
few_draws (Held j m (Living b)) = omega arith

pub draws_bounded : DrawsBounded
draws_bounded s w n v (g, r) one = let a = r.claims.drawn one in let b = flags_below (places s) (λ x. draws_of (g.stage x)) (λ x. few_draws (g.stage x)) in omega arith

pub free_rows : FreeRows
free_rows s w n v (g, r) i k a l = let t = r.claims.rows i a l in (t.0, t.1, λ b m e. r.claims.apart i k a l b m e)

pub walks_end : WalksEnd
walks_end s w n v (g, r) b c x t st e = ⊎_elim
    (λ o. let z : 0 ≡ c + 1 = sym (ap (λ (l : Node). l.block) o) ∙ e in absurd (omega arith))
    (λ o. let same : o.0 ≡ c = one_more o.0 c (sym (ap (λ (l : Node). l.block) o.2) ∙ e) in subst (λ (i : ℕ). (0 < w.died i) × (w.died i ≤ w.round) × (0 < w.born b → w.died i < w.born b)) same (o.4, o.6, o.5))
    (r.chains.histories b t x st)

pub covers_bisect : CoversBisect
covers_bisect s w n v (g, r) q may b x m life covers = (r.names.patch b x m life, λ t y c. r.names.sound q may b t y c covers)

pub parents_bisected : ParentsBisected
parents_bisected s w n v (g, r) q may k b e = ⊎_elim (λ t. inl (f.1, t.0, t.1)) (λ t. inr (w.name (member_of t.0 t.1), t.0, t.2, t.5, t.4)) f.4
  where
    f : (t : Bool) × (x : ℕ) × (w.name (member_of b t) ≡ k) × (chained (g.life b) t ≡ x + 1) × IsPlaceOf s w.name (g.who q) x k × Reaches w.history w.born w.died g.life q x b (w.head x)
    f = (r.names.fits q may).found k b e

pub members_together : MembersTogether
members_together s w n v (g, r) q may k i b e = (down, up)
  where
    -- the block of a name, its patch, and whether it is the first member
    down : g.who q k ≡ b + 1 → g.who q (i + 1) ≡ b + 1
    down h = let f = (r.names.fits q may).found k b h in let p = placed (g.life b) f.0 f.1 f.3 in let a = r.names.patch b p.0 p.1 p.2 in by f.0 f.2
      where
        by : (t : Bool) → w.name (member_of b t) ≡ k → g.who q (i + 1) ≡ b + 1
        by false n1 = let f = (r.names.fits q may).found k b h in let p = placed (g.life b) f.0 f.1 f.3 in let a = r.names.patch b p.0 p.1 p.2 in ⊎_elim
            (λ z. let y : 0 ≡ i + 1 = sym z.1 ∙ ap s.mate n1 ∙ e in absurd (omega arith))
            (λ z. ap (g.who q) (sym (a.1 ∙ ap s.mate n1 ∙ e)) ∙ (r.names.fits q may).both b z.0 false true (ap (g.who q) n1 ∙ h) (ap (λ (l : Life). chained l true) p.2 ∙ z.2)) a.2
        by true n1 = let f = (r.names.fits q may).found k b h in let p = placed (g.life b) f.0 f.1 f.3 in let a = r.names.patch b p.0 p.1 p.2 in ⊎_elim
            (λ z. absurd (r.names_apart.leads_some (ap s.leads (sym (sym n1 ∙ a.1 ∙ z.1)) ∙ r.names_apart.mates_lead k i e)))
            (λ z. absurd (r.names_apart.mate_leads (w.name (member_of b false)) k z.1 z.3 (r.names_apart.mates_lead k i e) (sym n1 ∙ a.1 ∙ z.3))) a.2

    up : g.who q (i + 1) ≡ b + 1 → g.who q k ≡ b + 1
    up h = let f = (r.names.fits q may).found (i + 1) b h in by f.0 f.2
      where
        by : (t : Bool) → w.name (member_of b t) ≡ i + 1 → g.who q k ≡ b + 1
        by false n1 = let f = (r.names.fits q may).found (i + 1) b h in let p = placed (g.life b) f.0 f.1 f.3 in let a = r.names.patch b p.0 p.1 p.2 in absurd (r.names_apart.mate_leads k (w.name (member_of b false)) i e a.0 n1)
        by true n1 = let f = (r.names.fits q may).found (i + 1) b h in let p = placed (g.life b) f.0 f.1 f.3 in let a = r.names.patch b p.0 p.1 p.2 in
            let first : w.name (member_of b false) ≡ k = r.names_apart.mate_one (w.name (member_of b false)) k i (sym a.1 ∙ n1) e in
            ap (g.who q) (sym first) ∙ (r.names.fits q may).both b p.0 true false (ap (g.who q) n1 ∙ h) (ap (λ (l : Life). chained l false) p.2)

pub places_agree : PlacesAgree
places_agree s w n v (g, r) q may x y k i a = ((λ b. place_one s w n v g r q may x y k a b), λ b. name_one s w n v g r q x k i a b)

pub notes_agree : NotesAgree
notes_agree s w n v (g, r) j k q = ((λ h. ((r.goes j).yes_notes k q h).1), λ h. ((r.goes j).no_notes k q h).1)

found_stands : (history : ℕ → Node) (born died : ℕ → ℕ) (life : ℕ → Life) (q x c : ℕ) (ts : List (ℕ × Bool)) (l : Node) → Finds history born died life q x c l ts → (t : Bool) × (stands (life c) t ≡ x + 1)
found_stands history born died life q x c [] l h = absurd h
found_stands history born died life q x c (t ∷ ts) l h = ⊎_elim (λ k. (t.1, subst (λ (y : ℕ). stands (life y) t.1 ≡ x + 1) k.0 h.1)) (λ f. found_stands history born died life q x c ts (history (member_of t.0 t.1)) f) h.2

pub walks_agree : WalksAgree
walks_agree s w n v (g, r) q k x i b seen = (
  (λ e. let h = (r.names.fits q k).found i b e in subst (λ (y : ℕ). Reaches w.history w.born w.died g.life q y b (w.head y)) (place_one s w n v g r q k h.1 x i h.4 seen) h.5),
  λ h. let c = found_covers w.history w.born w.died g.life q x b h.0 (w.head x) h.1 in let t = found_stands w.history w.born w.died g.life q x b h.0 (w.head x) h.1 in
      let ch : chained (g.life b) t.0 ≡ x + 1 = ⊎_elim (λ p. placed_chained (g.life b) t.0 x p.0 p.1 p.2 t.1) (λ p. let z = r.chains.rolled_back b p.0 p.1 p.2 in let c0 = c.0 in absurd (omega arith)) (standing (g.life b) t.0 x t.1) in
      let u = r.names.sound q k b t.0 x ch c in ap (g.who q) (sym (name_one s w n v g r q x (w.name (member_of b t.0)) i u.1 seen)) ∙ u.0,
)

pub reached_kept : ReachedKept
reached_kept s w n v (g, r) j q b p h = (r.goes j).went q b p h

pub drained_rounds : DrainedRounds
drained_rounds s w n v (g, r) q j h = ((r.rules.drained q h).0, λ e. no_pin s w n v g r q h j e)

pub blocks_placed : BlocksPlaced
blocks_placed s w n v (g, r) q may k b e = let f = (r.names.fits q may).found k b e in (f.0, f.1, f.2, f.3, f.4)

pub retired_born : RetiredBorn
retired_born s w n v (g, r) = r.chains.dieds

pub walks_short : WalksShort
walks_short s w n v (g, r) x [] h = omega arith
walks_short s w n v (g, r) x (a ∷ ts) h = rest ts h.2
  where
    -- behind a block that was retired at d there are at most (d - 2) / 2
    behind : (ts : List (ℕ × Bool)) (c : ℕ) (t u : Bool) → stands (g.life c) t ≡ x + 1 → chained (g.life c) u ≡ x + 1 → 0 < w.died c → LeadOn w.history g.life x (w.history (member_of c t)) ts → 2 * length ts + 2 ≤ w.died c
    behind [] c t u st ch z f = let p = placed (g.life c) u x ch in let b = r.chains.dieds c p.0 p.1 p.2 z in let k = b.0 in let l = b.1 in omega arith
    behind (d ∷ ts) c t u st ch z f = ⊎_elim
        (λ o. let y : 0 ≡ d.0 + 1 = sym (ap (λ (l : Node). l.block) o) ∙ f.0 in absurd (omega arith))
        (λ o. let same : o.0 ≡ d.0 = one_more o.0 d.0 (sym (ap (λ (l : Node). l.block) o.2) ∙ f.0) in
        let p = placed (g.life c) u x ch in let b = r.chains.dieds c p.0 p.1 p.2 z in let k = b.0 in let l = b.1 in let e = o.5 k in let de = ap w.died same in
        let m = behind ts d.0 d.1 o.1 f.1 (ap (λ (i : ℕ). chained (g.life i) o.1) (sym same) ∙ o.3) (subst (λ (i : ℕ). 0 < w.died i) same o.4) f.2 in omega arith)
        (r.chains.histories c t x st)

    rest : (ts : List (ℕ × Bool)) → LeadOn w.history g.life x (w.history (member_of a.0 a.1)) ts → 2 * length (a ∷ ts) ≤ w.round + 2
    rest [] f = omega arith
    rest (d ∷ ts) f = ⊎_elim
        (λ o. let y : 0 ≡ d.0 + 1 = sym (ap (λ (l : Node). l.block) o) ∙ f.0 in absurd (omega arith))
        (λ o. let same : o.0 ≡ d.0 = one_more o.0 d.0 (sym (ap (λ (l : Node). l.block) o.2) ∙ f.0) in let de = ap w.died same in let k = o.6 in
        let m = behind ts d.0 d.1 o.1 f.1 (ap (λ (i : ℕ). chained (g.life i) o.1) (sym same) ∙ o.3) (subst (λ (i : ℕ). 0 < w.died i) same o.4) f.2 in omega arith)
        (r.chains.histories a.0 a.1 x h.1)
