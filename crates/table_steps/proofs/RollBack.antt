-- Closing a round, and taking a refused one back.
use Rattle.std.proofs.Common.{◌≡◌, ◌==◌, ◌≢◌, ℕ, ◌+◌, ◌<◌, ◌≤◌, Bool, true, false, List, ◌∷◌, ◌⊎◌, refl, sym, ap, ◌∙◌, subst, inl, inr, ⊎_elim, arith, eqb-true}
use mathlib.Core.Logic.{dite}
use native.Mathlib.Decide.{ℕ_discrete}
use Rattle.table_words.specs.Setup.{Setup}
use Rattle.table_words.specs.Functions.{update}
use Rattle.table_words.specs.Words.{Words, Node, node}
use Rattle.table_words.specs.Views.{Views, Closing, RollingBack, Precedes, order}
use Rattle.table_words.specs.Claims.{Progress, Claimed, Failed, Drawn, Half, Whole, Living, Claim, claim, moved_on, ended}
use Rattle.table_words.specs.Places.{member_of}
use Rattle.table_words.specs.Entries.{HasEntry, Noted}
use Rattle.table_words.proofs.Functions.{update_same, update_at, update_other}
use Rattle.table_words.proofs.Entries.{noted_after}
use Rattle.table_state.specs.Ghosts.{Stage, Open, Held, Life, Free, Loose, Placed, RolledBack, chained, stands, Ghost}
use Rattle.table_state.specs.Chains.{Covers, IsUnborn, ChainsRule}
use Rattle.table_state.specs.Claims.{ClaimsRule, Shape}
use Rattle.table_state.specs.Bisections.{IsPatch, MayRead}
use Rattle.table_state.specs.Rule.{Rule}
use Rattle.table_state.proofs.Inside.{below_pool, not_free, inside_goes, inside_ends, inside_life, inside_block, labels_on, labels_heads, labels_skip, once_moved, once_ended, once_update}
use Rattle.table_state.proofs.FoundAgain.{placed, one_more, Moves}
use Rattle.table_state.proofs.ChainSteps.{moves_same, stamps, skips, named, older_named}
use Rattle.table_steps.proofs.BlockSteps.{undead, unbears, resets, frees, undoes}
use Rattle.table_state.proofs.HeldClaims.{not_open, held_one, loose_not, free_loose, free_not, placed_one, uses, used_life, shape_on, one_user, heads_apart}
use Rattle.table_state.proofs.Across.{Of, Went, chained_of, low}
use Rattle.table_steps.proofs.Sweeping.{Quiet, OwnWords, own_words, owners, sweeps, sweeps_to}
use Rattle.table_state.proofs.HeldClaims as held
use Rattle.table_state.proofs.Lawful.{uses_block}
use Rattle.table_state.proofs.Known.{frees_on, kept_on, known_goes, known_ends}
use Rattle.table_steps.specs.SweepSteps.{noted_at}

-- the list that the end of a claim leaves
pub noted_has : (list : List (ℕ × ℕ × ℕ)) (x m : ℕ) (p : Progress) (a : ℕ × ℕ × ℕ) → HasEntry (noted_at list x m p) a → HasEntry list a ⊎ ((b : ℕ) × (p ≡ Living b) × (a ≡ (b, x, m)))
noted_has list x m Claimed a h = inl h
noted_has list x m Failed a h = inl h
noted_has list x m (Drawn b) a h = inl h
noted_has list x m (Half b) a h = inl h
noted_has list x m (Whole b) a h = inl h
noted_has list x m (Living b) a h = ⊎_elim (λ e. inr (b, refl, e)) inl h

pub noted_more : (list : List (ℕ × ℕ × ℕ)) (x m : ℕ) (p : Progress) (a : ℕ × ℕ × ℕ) → HasEntry list a → HasEntry (noted_at list x m p) a
noted_more list x m Claimed a h = h
noted_more list x m Failed a h = h
noted_more list x m (Drawn b) a h = h
noted_more list x m (Half b) a h = h
noted_more list x m (Whole b) a h = h
noted_more list x m (Living b) a h = inr h

pub noted_new : (list : List (ℕ × ℕ × ℕ)) (x m : ℕ) (p : Progress) (b : ℕ) → p ≡ Living b → HasEntry (noted_at list x m p) (b, x, m)
noted_new list x m p b e = subst (λ (q : Progress). HasEntry (noted_at list x m q) (b, x, m)) (sym e) (inl refl)

module _ (s : Setup) (w : Words) (n : ℕ) (v : Views) (g : Ghost) (r : Rule s w n v g) where
  abbrev d : ℕ
  d = w.round + 1

  abbrev A_ : ℕ → ℕ → Type 0
  A_ = Went w.round w.died v.kind v.work v.read

  abbrev Can_ : ℕ → Type 0
  Can_ q = MayRead w.round v.ruling.phase v.read q

  abbrev C : ℕ → ℕ → (ℕ → ℕ) → (ℕ → ℕ) → (ℕ → Node) → (ℕ → ℕ) → (ℕ → Life) → (ℕ → Stage) → (ℕ → List Claim) → Type 0
  C cursor free row claimed head born life stage claims = ClaimsRule s w.round cursor free v.ruling.phase row claimed head born life stage claims

  one : (x z i k b : ℕ) (j m : ℕ) (p q : Progress) → g.stage x ≡ Held j m p → g.stage z ≡ Held i k q → uses p ≡ b + 1 → uses q ≡ b + 1 → x ≡ z
  one x z i k b j m p q = one_user s w.round w.cursor w.free v.ruling.phase w.row w.claimed w.head w.born g.life g.stage v.claims r.claims x z j i m k b p q

  apart_heads : (x z j i m k : ℕ) (p q : Progress) → g.stage x ≡ Held j m p → g.stage z ≡ Held i k q → z ≢ x → (y : ℕ) → Of x m y → (y ≢ z) × ((a : ℕ) → k ≡ a + 1 → a ≢ y)
  apart_heads x z j i m k p q = heads_apart s w.round w.cursor w.free v.ruling.phase w.row w.claimed w.head w.born g.life g.stage v.claims r.claims x z j i m k p q

  free_rolled_back : (x m : ℕ) → Free ≡ RolledBack x m → ⊥
  free_rolled_back x m e = cc

  whole_not : (b c : ℕ) → Whole b ≡ Drawn c → ⊥
  whole_not b c e = cc

  rolled_back_not : (x m y k : ℕ) → RolledBack x m ≡ Placed y k → ⊥
  rolled_back_not x m y k e = cc

  -- the head of a place that no claim has changes: the other claims' words stay
  module _ (quiet : Quiet s w n v g r) where
    own : OwnWords s w n v g r w.head w.history w.born w.died w.name w.row (v.owned 0)
    own = own_words s w n v g r quiet

    back_own : (x j m : ℕ) (p : Progress) → g.stage x ≡ Held j m p → j ≡ 0
    back_own = owners s w n v g r quiet

    add_head : (x : ℕ) (l : Node) → OwnWords s w n v g r (update w.head x l) w.history w.born w.died w.name w.row (record (v.owned 0) { head = (x, l) ∷ (v.owned 0).head })
    add_head x l = record { heads = noted_after (v.owned 0).head w.head x l own.heads; histories = own.histories; dieds = own.dieds; names = own.names; borns = own.borns; rows = own.rows }

    stamped_head : v.ruling.phase ≡ Closing → (x b y m : ℕ) (t : Bool) → HasEntry v.ruling.placed (b, y, m) → (HasEntry v.ruling.rolled_back b → ⊥) → chained (Placed y m) t ≡ x + 1 → Noted (v.owned 0).head x (node (b + 1) 0) → Noted (v.owned 0).died b d
        → Rule s (record w { head = update w.head x (node (b + 1) d) }) n (record v { owned = update v.owned 0 (record (v.owned 0) { head = (x, node (b + 1) d) ∷ (v.owned 0).head }) }) g
    stamped_head three x b y m t known fair side f1 f2 = let h : w.head x ≡ node (b + 1) 0 = own.heads x (node (b + 1) 0) f1 in let dd : w.died b ≡ d = own.dieds b d f2 in
        let at : chained (g.life b) t ≡ x + 1 = ap (λ (i : Life). chained i t) (⊎_elim (λ e. e) (λ e. absurd (fair (r.note.all b y m e))) (r.note.placed b y m known)) ∙ side in
        let mv = stamps Can_ A_ s.elements w.round w.head w.history w.born w.died g.life r.chains x b t h at (omega arith) in
        let head' : ℕ → Node = update w.head x (node (b + 1) d) in
        -- no claim's block is retired
        let not_here : (a m k : ℕ) → g.life a ≡ Placed m k → w.born a ≡ d → w.head x ≡ node (a + 1) 0 → ⊥ = λ a y k pl e u. let same : a ≡ b = one_more a b (sym (ap (λ (l : Node). l.block) u) ∙ ap (λ (l : Node). l.block) h) in
        let z : w.died a ≡ w.died b = ap w.died same in let c = r.chains.dieds a y k pl (omega arith) in let c1 = c.1 in omega arith in
        let dead : (a y k : ℕ) → g.life a ≡ Placed y k → w.born a ≡ 0 → w.head x ≡ node (a + 1) 0 → ⊥ = λ a y k pl e u. let same : a ≡ b = one_more a b (sym (ap (λ (l : Node). l.block) u) ∙ ap (λ (l : Node). l.block) h) in
        let z : w.died a ≡ w.died b = ap w.died same in let c = (r.chains.dieds a y k pl (omega arith)).0 in omega arith in
        sweeps s w n v g r quiet w.claimed head' w.history w.born w.died g.stage v.claims (update v.owned 0 (record (v.owned 0) { head = (x, node (b + 1) d) ∷ (v.owned 0).head })) v.ruling.hand
        record {
          held = r.claims.held;
          holds = r.claims.holds;
          bits = r.claims.bits;
          inside = r.claims.inside;
          mates = r.claims.mates;
          shape = λ z j k p u. shape_at head' (λ y l. update_other w.head x y (node (b + 1) d) l) (λ y. dite (ℕ_discrete y x) (λ e. ap (λ (l : Node). l.block) (update_at w.head x y (node (b + 1) d) e) ∙ sym (ap (λ (l : Node). l.block) (ap w.head e ∙ h))) (λ o. ap (λ (l : Node). l.block) (update_other w.head x y (node (b + 1) d) o))) not_here dead z k p (r.claims.shape z j k p u);
          kept = r.claims.kept;
          half = r.claims.half;
          rows = r.claims.rows;
          apart = r.claims.apart;
          drawn = r.claims.drawn;
          living = r.claims.living;
          none = r.claims.none;
        }
        (subst (λ (i : ℕ). ChainsRule s.elements w.round (update w.head x (node (b + 1) i)) w.history w.born w.died g.life × Moves Can_ A_ s.elements w.round w.head w.history (update w.head x (node (b + 1) i)) w.history w.born w.died w.born w.died g.life g.life) dd mv)
        (λ _ _ _ _. (refl, λ p. p)) back_own (add_head x (node (b + 1) d)) r.hand r.inside (labels_heads s w.name w.head head' w.history g.life (λ y. dite (ℕ_discrete y x) (λ e. ap (λ (l : Node). l.block) (update_at w.head x y (node (b + 1) d) e) ∙ sym (ap (λ (l : Node). l.block) (ap w.head e ∙ h))) (λ o. ap (λ (l : Node). l.block) (update_other w.head x y (node (b + 1) d) o))) r.named) r.once r.frees r.known
      where
        shape_at : (head' : ℕ → Node) → ((y : ℕ) → y ≢ x → head' y ≡ w.head y) → ((y : ℕ) → (head' y).block ≡ (w.head y).block) → ((a m k : ℕ) → g.life a ≡ Placed m k → w.born a ≡ d → w.head x ≡ node (a + 1) 0 → ⊥) → ((a m k : ℕ) → g.life a ≡ Placed m k → w.born a ≡ 0 → w.head x ≡ node (a + 1) 0 → ⊥)
            → (z k : ℕ) (p : Progress) → Shape w.round w.head w.born g.life z k p → Shape w.round head' w.born g.life z k p
        shape_at head' o block lives dead z k Claimed h = tt
        shape_at head' o block lives dead z k Failed h = tt
        shape_at head' o block lives dead z k (Drawn a) h = h
        shape_at head' o block lives dead z k (Half a) h = (h.0, h.1, o z (λ (e : z ≡ x). dead a z k h.0 h.1 (ap w.head (sym e) ∙ h.2)) ∙ h.2, λ y e m. h.3 y e (sym (block y) ∙ m))
        shape_at head' o block lives dead z k (Whole a) h = (h.0, h.1, o z (λ (e : z ≡ x). dead a z k h.0 h.1 (ap w.head (sym e) ∙ h.2)) ∙ h.2, λ y e. o y (λ (f : y ≡ x). dead a z k h.0 h.1 (ap w.head (sym f) ∙ h.3 y e)) ∙ h.3 y e)
        shape_at head' o block lives dead z k (Living a) h = (h.0, h.1, o z (λ (e : z ≡ x). lives a z k h.0 h.1 (ap w.head (sym e) ∙ h.2)) ∙ h.2, λ y e. o y (λ (f : y ≡ x). lives a z k h.0 h.1 (ap w.head (sym f) ∙ h.3 y e)) ∙ h.3 y e)

    -- the round is stamped on the head of a retired block
    pub stamps_head : v.ruling.phase ≡ Closing → (x b y m : ℕ) (t : Bool) → HasEntry v.ruling.placed (b, y, m) → (HasEntry v.ruling.rolled_back b → ⊥) → chained (Placed y m) t ≡ x + 1 → Noted (v.owned 0).head x (node (b + 1) 0) → Noted (v.owned 0).died b (v.ruling.finished + 1)
        → Rule s (record w { head = update w.head x (node (b + 1) (v.ruling.finished + 1)) }) n (record v { owned = update v.owned 0 (record (v.owned 0) { head = (x, node (b + 1) (v.ruling.finished + 1)) ∷ (v.owned 0).head }) }) g
    stamps_head three x b y m t known fair side f1 = subst (λ (q : ℕ). Noted (v.owned 0).died b (q + 1) → Rule s (record w { head = update w.head x (node (b + 1) (q + 1)) }) n (record v { owned = update v.owned 0 (record (v.owned 0) { head = (x, node (b + 1) (q + 1)) ∷ (v.owned 0).head }) }) g) (sym r.stock.finished) (stamped_head three x b y m t known fair side f1)

    -- a claim's own facts
    module _ (late : Precedes v.ruling.phase Closing → ⊥) (x m : ℕ) (p : Progress) (mine : HasEntry (v.claims 0) (claim x m p)) where
      is : g.stage x ≡ Held 0 m p
      is = r.claims.held 0 x m p mine

      -- the claim ends, and its words stay
      pub unclaims : ((b : ℕ) → uses p ≡ b + 1 → p ≡ Living b) → ((b : ℕ) → p ≡ Living b → (v.ruling.phase ≡ Closing → ⊥) → ⊥) → Rule s (record w { claimed = update w.claimed x 0 }) n (record v { claims = update v.claims 0 (ended (v.claims 0) x); ruling = record v.ruling { placed = noted_at v.ruling.placed x m p } }) (record g { stage = update g.stage x Open })
      unclaims lives dead = sweeps_to s w n v g r quiet w.cursor w.free w.row (update w.claimed x 0) w.head w.history w.born w.died g.life _ (update v.claims 0 (ended (v.claims 0) x)) v.owned v.ruling.hand v.ruling.cursor v.ruling.free v.ruling.low v.ruling.high v.ruling.rolled_back v.ruling.kept (noted_at v.ruling.placed x m p) v.ruling.seen v.ruling.quiet
          (held.ends s w.round w.cursor w.free v.ruling.phase w.row w.claimed w.head w.born g.life g.stage v.claims r.claims x 0 m p p is late w.head w.born g.life (λ z i k q h ne sh. sh)
          (λ b y k u e l. (u, e, λ q. dead b q l))
          (λ b y k u e. (u, e, λ q. let f = lives b q in let t = subst (Shape w.round w.head w.born g.life x m) f (r.claims.shape x 0 m p is) in let t1 = t.1 in omega arith)) (λ b u e. (u, e)))
          (r.chains, moves_same Can_ A_ s.elements w.round w.head w.history w.born w.died g.life w.head w.history w.born w.died (λ _ _. refl) (λ _ _ _ _. refl) (λ _ _ _ _ _ _ h. h) (λ _ _ _ _ _ _ h. h) (λ _ _ _ _ _ _ h. h))
          (λ _ _ _ u. (u, refl, λ p. p)) (λ z j k q h. back_own z j k q (dite (ℕ_discrete z x) (λ e. absurd (not_open j k q (sym h ∙ update_at g.stage x z Open e))) (λ o. sym (update_other g.stage x z Open o) ∙ h))) own r.hand
          (let k = r.stock in record { finished = k.finished; cursor_is = k.cursor_is; free_is = k.free_is; left = k.left })
          record {
            rolled_back = r.note.rolled_back;
            all = r.note.all;
            placed = λ c y k h. ⊎_elim (r.note.placed c y k) (λ t. inl (subst (λ (i : ℕ × ℕ × ℕ). g.life i.0 ≡ Placed i.1 i.2) (sym t.2) (in_chains t.0 t.1))) (noted_has v.ruling.placed x m p (c, y, k) h);
            seen = r.note.seen;
            quiet = r.note.quiet;
          }
          (inside_ends s w.free w.row g.life g.stage v.ruling.hand v.ruling.retired x r.inside) r.named (once_update v.claims (ended (v.claims 0) x) (once_ended (v.claims 0) x (r.once 0)) r.once) r.frees
          (known_ends g.life g.life g.stage v.ruling.placed (noted_at v.ruling.placed x m p) x 0 m p is (noted_more v.ruling.placed x m p)
          (λ b y k u. (u, λ e f h. subst (λ (i : ℕ × ℕ). HasEntry (noted_at v.ruling.placed x m p) (b, i.0, i.1)) (λ z. (sym f z, sym h z)) (noted_new v.ruling.placed x m p b (lives b (uses_block p b e)))))
          (λ b y k u. inl u) (λ b u e. (e, λ f. loose_not u x m (sym e ∙ in_chains b (lives b (uses_block p b f))))) r.known) r.kept (λ _ _ _ u _. (u, refl))
        where
          in_chains : (b : ℕ) → p ≡ Living b → g.life b ≡ Placed x m
          in_chains b e = (subst (Shape w.round w.head w.born g.life x m) e (r.claims.shape x 0 m p is)).0

      stage_own : (q : Progress) (z j k : ℕ) (t : Progress) → update g.stage x (Held 0 m q) z ≡ Held j k t → j ≡ 0
      stage_own q z j k t h = dite (ℕ_discrete z x) (λ e. sym (held_one 0 j m k q t (sym (update_at g.stage x z (Held 0 m q) e) ∙ h)).0) (λ o. back_own z j k t (sym (update_other g.stage x z (Held 0 m q) o) ∙ h))

      low_can : v.ruling.phase ≡ RollingBack → (q : ℕ) → Can_ q → q ≤ w.round
      low_can four q (inl k) = low s w n v g r q k
      low_can four q (inr k) = let l = k.1 in absurd (omega (arith, ap order four))

    -- BORN of a claim's block becomes 0: the claim is where it was before it was published
    pub unborns : v.ruling.phase ≡ RollingBack → (x m b : ℕ) → HasEntry (v.claims 0) (claim x m (Living b))
        → Rule s (record w { born = update w.born b 0 }) n (record v { claims = update v.claims 0 (moved_on (v.claims 0) x (Whole b)); owned = update v.owned 0 (record (v.owned 0) { born = (b, 0) ∷ (v.owned 0).born }) }) (record g { stage = update g.stage x (Held 0 m (Whole b)) })
    unborns four x m b mine = let is = r.claims.held 0 x m (Living b) mine in let sh = r.claims.shape x 0 m (Living b) is in let off : (c : ℕ) → c ≢ b → update w.born b 0 c ≡ w.born c = λ c o. update_other w.born b c 0 o in
        sweeps s w n v g r quiet w.claimed w.head w.history (update w.born b 0) w.died _ (update v.claims 0 (moved_on (v.claims 0) x (Whole b))) (update v.owned 0 (record (v.owned 0) { born = (b, 0) ∷ (v.owned 0).born })) v.ruling.hand
        (held.goes s w.round w.cursor w.free v.ruling.phase w.row w.claimed w.head w.born g.life g.stage v.claims r.claims x 0 m (Living b) (Whole b) is refl (λ e. absurd (omega arith)) w.head (update w.born b 0) g.life (sh.0, update_same w.born b 0, sh.2, sh.3)
        (λ z i k q h ne t. shape_on w.round w.head w.born g.life z k w.head (update w.born b 0) g.life q (λ c u. (refl, off c (λ (e : c ≡ b). ne (one z x 0 m b i k q (Living b) h is (u ∙ ap (λ (y : ℕ). y + 1) e) refl)))) refl (λ _ _. refl) t)
        (λ c y k u e l. dite (ℕ_discrete c b) (λ f. let t : update w.born b 0 c ≡ 0 = update_at w.born b c 0 f in absurd (omega arith)) (λ o. inr (u, sym (off c o) ∙ e, λ (h : b + 1 ≡ c + 1). o (omega arith))))
        (λ c y k u e. dite (ℕ_discrete c b) (λ f. let t = placed_one y k x m (sym u ∙ ap g.life f ∙ sh.0) in inl (t.0, t.1, inr (ap Whole (sym f)))) (λ o. inr (u, sym (off c o) ∙ e, λ (h : b + 1 ≡ c + 1). o (omega arith))))
        (λ c u e. (u, off c (λ (f : c ≡ b). free_not x m (sym u ∙ ap g.life f ∙ sh.0)) ∙ e)))
        (unbears Can_ A_ s.elements w.round w.head w.history w.born w.died g.life r.chains b x m sh.0 sh.1 (low_can (λ l. absurd (omega (arith, ap order four))) x m (Living b) mine four))
        (λ c _ _ _. (refl, born_was c)) (stage_own (λ l. absurd (omega (arith, ap order four))) x m (Living b) mine (Whole b))
        record { heads = own.heads; histories = own.histories; dieds = own.dieds; names = own.names; borns = noted_after (v.owned 0).born w.born b 0 own.borns; rows = own.rows } r.hand (inside_goes s w.free w.row g.life g.stage v.ruling.hand v.ruling.retired x 0 m (Living b) 0 (Whole b) is r.inside) r.named (once_update v.claims (moved_on (v.claims 0) x (Whole b)) (once_moved (v.claims 0) x (Whole b) (r.once 0)) r.once)
        (frees_on s.pool w.cursor w.free w.row w.born (update w.born b 0) g.life g.life v.ruling.hand v.ruling.low v.ruling.high (λ _ e. e) (λ c e. (e, λ z. dite (ℕ_discrete c b) (λ f. update_at w.born b c 0 f) (λ o. off c o ∙ z))) r.frees)
        (known_goes g.life g.stage v.ruling.placed x 0 m 0 (Living b) (Whole b) is refl (λ c e. living_not c e) r.known)
      where
        living_not : (c : ℕ) → Living b ≡ Drawn c → ⊥
        living_not c e = cc

        born_was : (c : ℕ) → 0 < update w.born b 0 c → 0 < w.born c
        born_was c p = dite (ℕ_discrete c b) (λ e. let z : update w.born b 0 c ≡ 0 = update_at w.born b c 0 e in absurd (omega arith)) (λ o. subst (λ (i : ℕ). 0 < i) (update_other w.born b c 0 o) p)

    not_covers : (b : ℕ) → w.born b ≡ 0 → (q : ℕ) → Can_ q → Covers w.born w.died q b → ⊥
    not_covers b z q k c = let p = c.0 in omega arith

    -- no history word names a block that is not born
    not_named : (b y k : ℕ) → g.life b ≡ Placed y k → w.born b ≡ 0 → (c x : ℕ) (t : Bool) → stands (g.life c) t ≡ x + 1 → (w.history (member_of c t)).block ≡ b + 1 → ⊥
    not_named b y k u z c x t st e = ⊎_elim (λ f. let q : 0 ≡ b + 1 = sym (ap (λ (l : Node). l.block) f) ∙ e in omega arith)
        (λ o. let same : o.0 ≡ b = one_more o.0 b (sym (ap (λ (l : Node). l.block) o.2) ∙ e) in let dd : w.died o.0 ≡ w.died b = ap w.died same in let p = o.4 in let l = undead Can_ A_ s.elements w.round w.head w.history w.born w.died g.life r.chains b y k u z in omega arith) (r.chains.histories c t x st)

    -- the second member's head gets back what it had
    pub unlinks_second : v.ruling.phase ≡ RollingBack → (x y b : ℕ) (l : Node) → HasEntry (v.claims 0) (claim x (y + 1) (Whole b)) → Noted (v.owned 0).history (member_of b true) l
        → Rule s (record w { head = update w.head y l }) n (record v { claims = update v.claims 0 (moved_on (v.claims 0) x (Half b)); owned = update v.owned 0 (record (v.owned 0) { head = (y, l) ∷ (v.owned 0).head }) }) (record g { stage = update g.stage x (Held 0 (y + 1) (Half b)) })
    unlinks_second four x y b l mine f = let is = r.claims.held 0 x (y + 1) (Whole b) mine in let sh = r.claims.shape x 0 (y + 1) (Whole b) is in let hh = own.histories b true l f in
        let apart : x ≢ y = λ (e : x ≡ y). not_open 0 (y + 1) (Whole b) (sym is ∙ ap g.stage e ∙ (r.claims.mates x 0 y (Whole b) is).0) in
        let m = skips Can_ A_ s.elements w.round w.head w.history w.born w.died g.life r.chains y b true (ap (λ (i : Node). i.block) (sh.3 y refl)) (ap (λ (i : Life). stands i true) sh.0) (not_covers b sh.1) in
        sweeps s w n v g r quiet w.claimed (update w.head y l) w.history w.born w.died _ (update v.claims 0 (moved_on (v.claims 0) x (Half b))) (update v.owned 0 (record (v.owned 0) { head = (y, l) ∷ (v.owned 0).head })) v.ruling.hand
        (held.goes s w.round w.cursor w.free v.ruling.phase w.row w.claimed w.head w.born g.life g.stage v.claims r.claims x 0 (y + 1) (Whole b) (Half b) is refl (λ e. absurd (omega arith)) (update w.head y l) w.born g.life
        (sh.0, sh.1, update_other w.head y x l apart ∙ sh.2, λ z e h. not_named b x (y + 1) sh.0 sh.1 b y true (ap (λ (i : Life). stands i true) sh.0) (ap (λ (i : Node). i.block) (hh ∙ sym (update_at w.head y z l (one_more z y (sym e)))) ∙ h))
        (λ z i k q h ne t. let a = apart_heads x z 0 i (y + 1) k (Whole b) q is h ne y (inr refl) in shape_on w.round w.head w.born g.life z k (update w.head y l) w.born g.life q (λ c u. (refl, refl)) (update_other w.head y z l (λ e. a.0 (sym e))) (λ c e. update_other w.head y c l (a.1 c e)) t)
        (λ c z k u e t. dite (ℕ_discrete c b) (λ f. let h : w.born c ≡ w.born b = ap w.born f in let q = sh.1 in absurd (omega arith)) (λ o. inr (u, e, λ (h : b + 1 ≡ c + 1). o (omega arith))))
        (λ c z k u e. dite (ℕ_discrete c b) (λ f. let t = placed_one z k x (y + 1) (sym u ∙ ap g.life f ∙ sh.0) in inl (t.0, t.1, inl (ap Half (sym f)))) (λ o. inr (u, e, λ (h : b + 1 ≡ c + 1). o (omega arith))))
        (λ c u e. (u, e)))
        (subst (λ (i : Node). ChainsRule s.elements w.round (update w.head y i) w.history w.born w.died g.life × Moves Can_ A_ s.elements w.round w.head w.history (update w.head y i) w.history w.born w.died w.born w.died g.life g.life) hh m)
        (λ _ _ _ _. (refl, λ p. p)) (stage_own (λ t. absurd (omega (arith, ap order four))) x (y + 1) (Whole b) mine (Half b)) (add_head y l) r.hand (inside_goes s w.free w.row g.life g.stage v.ruling.hand v.ruling.retired x 0 (y + 1) (Whole b) 0 (Half b) is r.inside) (labels_skip s w.name w.head w.history g.life y b true l (ap (λ (i : Node). i.block) (sh.3 y refl)) (ap (λ (i : Life). chained i true) sh.0) hh r.named) (once_update v.claims (moved_on (v.claims 0) x (Half b)) (once_moved (v.claims 0) x (Half b) (r.once 0)) r.once) r.frees
        (known_goes g.life g.stage v.ruling.placed x 0 (y + 1) 0 (Whole b) (Half b) is refl (λ c e. whole_not b c e) r.known)

    -- the first member's head gets back what it had, and the claim ends
    pub unlinks_first : v.ruling.phase ≡ RollingBack → (x m b : ℕ) (l : Node) (p : Progress) → HasEntry (v.claims 0) (claim x m p) → (p ≡ Half b) ⊎ ((p ≡ Whole b) × (m ≡ 0)) → Noted (v.owned 0).history (member_of b false) l
        → Rule s (record w { head = update w.head x l; claimed = update w.claimed x 0 }) n (record v { claims = update v.claims 0 (ended (v.claims 0) x); owned = update v.owned 0 (record (v.owned 0) { head = (x, l) ∷ (v.owned 0).head }); ruling = record v.ruling { rolled_back = b ∷ v.ruling.rolled_back; placed = (b, x, m) ∷ v.ruling.placed; seen = 0; quiet = false } }) (record g { stage = update g.stage x Open; life = update g.life b (RolledBack x m) })
    unlinks_first four x m b l p mine how f = let is = r.claims.held 0 x m p mine in let up : uses p ≡ b + 1 = ⊎_elim (λ e. ap uses e) (λ e. ap uses e.0) how in
        let sh : (g.life b ≡ Placed x m) × (w.born b ≡ 0) × (w.head x ≡ node (b + 1) 0) × ((y : ℕ) → m ≡ y + 1 → (w.head y).block ≡ b + 1 → ⊥) =
        ⊎_elim (λ e. subst (Shape w.round w.head w.born g.life x m) e (r.claims.shape x 0 m p is)) (λ e. let t = subst (Shape w.round w.head w.born g.life x m) e.0 (r.claims.shape x 0 m p is) in let z = e.1 in (t.0, t.1, t.2, λ y h. absurd (omega arith))) how in
        let hh = own.histories b false l f in let life' : ℕ → Life = update g.life b (RolledBack x m) in let off : (c : ℕ) → c ≢ b → life' c ≡ g.life c = λ c o. update_other g.life b c (RolledBack x m) o in
        let left : (c y k : ℕ) → life' c ≡ Placed y k → (c ≢ b) × (g.life c ≡ Placed y k) = λ c y k u. dite (ℕ_discrete c b) (λ e. absurd (rolled_back_not x m y k (sym (update_at g.life b c (RolledBack x m) e) ∙ u))) (λ o. (o, sym (off c o) ∙ u)) in
        let mv = undoes Can_ A_ s.elements w.round w.head w.history w.born w.died g.life r.chains b x m sh.0 sh.1 (ap (λ (i : Node). i.block) sh.2)
        (λ z ne live e. let t = named Can_ A_ s.elements w.round w.head w.history w.born w.died g.life r.chains z b (w.head z) (r.chains.heads z live) e in ⊎_elim (λ q. ne q) (λ q. sh.3 z q e) (chained_of (g.life b) t.0 x m z sh.0 t.1)) in
        sweeps_to s w n v g r quiet w.cursor w.free w.row (update w.claimed x 0) (update w.head x l) w.history w.born w.died life' _ (update v.claims 0 (ended (v.claims 0) x)) (update v.owned 0 (record (v.owned 0) { head = (x, l) ∷ (v.owned 0).head })) v.ruling.hand v.ruling.cursor v.ruling.free v.ruling.low v.ruling.high (b ∷ v.ruling.rolled_back) v.ruling.kept ((b, x, m) ∷ v.ruling.placed) 0 false
        (held.ends s w.round w.cursor w.free v.ruling.phase w.row w.claimed w.head w.born g.life g.stage v.claims r.claims x 0 m p p is (λ t. absurd (omega (arith, ap order four))) (update w.head x l) w.born life'
        (λ z i k q h ne t. let a = apart_heads x z 0 i m k p q is h ne x (inl refl) in shape_on w.round w.head w.born g.life z k (update w.head x l) w.born life' q (λ c u. (off c (λ (e : c ≡ b). ne (one z x 0 m b i k q p h is (u ∙ ap (λ (y : ℕ). y + 1) e) up)), refl)) (update_other w.head x z l ne) (λ c e. update_other w.head x c l (a.1 c e)) t)
        (λ c y k u e i. let t = left c y k u in (t.1, e, λ h. t.0 (one_more c b (sym (ap uses h) ∙ up))))
        (λ c y k u e. let t = left c y k u in (t.1, e, λ h. let q : b + 1 ≡ c + 1 = sym up ∙ h in absurd (t.0 (omega arith))))
        (λ c u e. (off c (λ (q : c ≡ b). free_not x m (sym u ∙ ap g.life q ∙ sh.0)) ∙ u, e)))
        (subst (λ (i : Node). ChainsRule s.elements w.round (update w.head x i) w.history w.born w.died life' × Moves Can_ A_ s.elements w.round w.head w.history (update w.head x i) w.history w.born w.died w.born w.died g.life life') hh mv)
        (λ c y k u. ((left c y k u).1, refl, λ p. p)) (λ z j k q h. back_own z j k q (dite (ℕ_discrete z x) (λ e. absurd (not_open j k q (sym h ∙ update_at g.stage x z Open e))) (λ o. sym (update_other g.stage x z Open o) ∙ h))) (add_head x l)
        (λ c h. let t = r.hand c h in off c (λ (e : c ≡ b). free_not x m (sym t ∙ ap g.life e ∙ sh.0)) ∙ t)
        (let k = r.stock in record { finished = k.finished; cursor_is = k.cursor_is; free_is = k.free_is; left = k.left })
        record { rolled_back = λ c h. ⊎_elim (λ e. (x, m, update_at g.life b c (RolledBack x m) e)) (λ t. let q = r.note.rolled_back c t in (q.0, q.1, off c (λ (f : c ≡ b). rolled_back_not q.0 q.1 x m (sym q.2 ∙ ap g.life f ∙ sh.0)) ∙ q.2)) h; all = λ c y k h. dite (ℕ_discrete c b) (λ f. inl f) (λ o. inr (r.note.all c y k (sym (off c o) ∙ h))); placed = λ c y k h. ⊎_elim (λ q. inr (subst (λ (i : ℕ × ℕ × ℕ). life' i.0 ≡ RolledBack i.1 i.2) (sym q) (update_same g.life b (RolledBack x m)))) (λ h. dite (ℕ_discrete c b) (λ f. inr (update_at g.life b c (RolledBack x m) f ∙ same_places c y k f (r.note.placed c y k h))) (λ o. ⊎_elim (λ e. inl (off c o ∙ e)) (λ e. inr (off c o ∙ e)) (r.note.placed c y k h))) h; seen = λ i e. absurd (omega arith); quiet = λ e. absurd (cc) }
        (inside_life s w.free w.row g.life life' (update g.stage x Open) v.ruling.hand v.ruling.retired (inside_block s g.life b (RolledBack x m) (below_pool s w.free w.row g.life g.stage v.ruling.hand v.ruling.retired r.inside b (λ e. free_not x m (sym e ∙ sh.0))) r.inside.blocks) (λ c t y st. r.inside.stand_in c t y (stayed c t y st)) (inside_ends s w.free w.row g.life g.stage v.ruling.hand v.ruling.retired x r.inside))
        (labels_on s w.name w.name (update w.head x l) (update w.head x l) w.history w.history g.life life' (λ c t y st. (stays c t y st, refl)) stayed (λ c t y ch. let p = placed (life' c) t y ch in let q = left c p.0 p.1 p.2 in ap (λ (i : Life). chained i t) (sym (off c q.0)) ∙ ch) (λ _ _. refl) (λ _ _ _ _. refl) (λ c y k u. dite (ℕ_discrete c b) (λ e. let t = rolled_back_one x m y k (sym (update_at g.life b c (RolledBack x m) e) ∙ u) in subst (λ (i : ℕ × ℕ). IsPatch s w.name i.0 i.1) (λ z. (sym e z, t.1 z)) (r.names.patch b x m sh.0)) (λ o. r.named.patch c y k (sym (off c o) ∙ u))) (labels_skip s w.name w.head w.history g.life x b false l (ap (λ (i : Node). i.block) sh.2) (ap (λ (i : Life). chained i false) sh.0) hh r.named)) (once_update v.claims (ended (v.claims 0) x) (once_ended (v.claims 0) x (r.once 0)) r.once)
        (frees_on s.pool w.cursor w.free w.row w.born w.born g.life life' v.ruling.hand v.ruling.low v.ruling.high (λ c e. sym (off c (λ (f : c ≡ b). free_rolled_back x m (sym e ∙ update_at g.life b c (RolledBack x m) f))) ∙ e) (λ c e. (off c (λ (f : c ≡ b). free_not x m (sym e ∙ ap g.life f ∙ sh.0)) ∙ e, λ z. z)) r.frees)
        (known_ends g.life life' g.stage v.ruling.placed ((b, x, m) ∷ v.ruling.placed) x 0 m p is (λ _ h. inr h) (λ c y k u. let t = left c y k u in (t.1, λ e _ _. absurd (t.0 (one_more c b (sym (uses_block p c e) ∙ up)))))
        (λ c y k u. dite (ℕ_discrete c b) (λ f. let t = rolled_back_one x m y k (sym (update_at g.life b c (RolledBack x m) f) ∙ u) in inr (inl (λ i. (f i, sym t.0 i, sym t.1 i)))) (λ o. inl (sym (off c o) ∙ u)))
        (λ c u e. let o : c ≢ b = λ (f : c ≡ b). rolled_back_loose x m u (sym (update_at g.life b c (RolledBack x m) f) ∙ e) in (sym (off c o) ∙ e, λ q. o (one_more c b (sym (uses_block p c q) ∙ up)))) r.known)
        (kept_on w.round w.died w.died g.life life' v.ruling.kept (λ c y k u _ _. ((left c y k u).1, refl)) (λ c y k u p l. (off c (λ (f : c ≡ b). let z = (r.chains.dieds c y k u p).0 in let e : w.born c ≡ w.born b = ap w.born f in let y = sh.1 in omega arith) ∙ u, refl)) r.kept)
        (λ c y k u e. let l = r.names.calm c y k ((λ z. omega arith), λ z. cc) u in absurd (omega arith))
      where
        in_place : g.life b ≡ Placed x m
        in_place = ⊎_elim (λ e. shape_half (subst (Shape w.round w.head w.born g.life x m) e (r.claims.shape x 0 m p (r.claims.held 0 x m p mine)))) (λ e. shape_whole (subst (Shape w.round w.head w.born g.life x m) e.0 (r.claims.shape x 0 m p (r.claims.held 0 x m p mine)))) how
          where
            shape_half : Shape w.round w.head w.born g.life x m (Half b) → g.life b ≡ Placed x m
            shape_half h = h.0

            shape_whole : Shape w.round w.head w.born g.life x m (Whole b) → g.life b ≡ Placed x m
            shape_whole h = h.0

        -- the block stands at the same places
        same_stand : (t : Bool) (c : ℕ) → stands (update g.life b (RolledBack x m) c) t ≡ stands (g.life c) t
        same_stand t c = dite (ℕ_discrete c b) (λ e. ap (λ (l : Life). stands l t) (update_at g.life b c (RolledBack x m) e) ∙ both t ∙ sym (ap (λ (l : Life). stands l t) (ap g.life e ∙ in_place))) (λ o. ap (λ (l : Life). stands l t) (update_other g.life b c (RolledBack x m) o))
          where
            both : (t : Bool) → stands (RolledBack x m) t ≡ stands (Placed x m) t
            both true = refl
            both false = refl

        stays : (c : ℕ) (t : Bool) (y : ℕ) → stands (g.life c) t ≡ y + 1 → stands (update g.life b (RolledBack x m) c) t ≡ y + 1
        stays c t y st = same_stand t c ∙ st

        stayed : (c : ℕ) (t : Bool) (y : ℕ) → stands (update g.life b (RolledBack x m) c) t ≡ y + 1 → stands (g.life c) t ≡ y + 1
        stayed c t y st = sym (same_stand t c) ∙ st

        rolled_back_loose : (x m u : ℕ) → RolledBack x m ≡ Loose u → ⊥
        rolled_back_loose x m u e = cc

        rolled_back_one : (x m y k : ℕ) → RolledBack x m ≡ RolledBack y k → (x ≡ y) × (m ≡ k)
        rolled_back_one x m y k e = (cc, cc)

        shape_half : Shape w.round w.head w.born g.life x m (Half b) → g.life b ≡ Placed x m
        shape_half h = h.0

        shape_whole : Shape w.round w.head w.born g.life x m (Whole b) → g.life b ≡ Placed x m
        shape_whole h = h.0

        same_places : (c y k : ℕ) → c ≡ b → (g.life c ≡ Placed y k) ⊎ (g.life c ≡ RolledBack y k) → RolledBack x m ≡ RolledBack y k
        same_places c y k f h = let at : g.life b ≡ Placed x m = ⊎_elim (λ e. shape_half (subst (Shape w.round w.head w.born g.life x m) e (r.claims.shape x 0 m p (r.claims.held 0 x m p mine)))) (λ e. shape_whole (subst (Shape w.round w.head w.born g.life x m) e.0 (r.claims.shape x 0 m p (r.claims.held 0 x m p mine)))) how in
            ⊎_elim (λ e. let t = placed_one y k x m (sym e ∙ ap g.life f ∙ at) in (λ i. RolledBack (sym t.0 i) (sym t.1 i))) (λ e. absurd (rolled_back_not y k x m (sym e ∙ ap g.life f ∙ at))) h

    buried : (b : ℕ) → HasEntry v.ruling.rolled_back b → Rule s (record w { died = update w.died b d }) n (record v { owned = update v.owned 0 (record (v.owned 0) { died = (b, d) ∷ (v.owned 0).died }) }) g
    buried b known = let at = r.note.rolled_back b known in let x : ℕ = at.0 in let m : ℕ = at.1 in let u : g.life b ≡ RolledBack x m = at.2 in let off : (c : ℕ) → c ≢ b → update w.died b d c ≡ w.died c = λ c o. update_other w.died b c d o in let here : update w.died b d b ≡ d = update_same w.died b d in
        sweeps s w n v g r quiet w.claimed w.head w.history w.born (update w.died b d) g.stage v.claims (update v.owned 0 (record (v.owned 0) { died = (b, d) ∷ (v.owned 0).died })) v.ruling.hand
        record {
          held = r.claims.held;
          holds = r.claims.holds;
          bits = r.claims.bits;
          inside = r.claims.inside;
          mates = r.claims.mates;
          shape = r.claims.shape;
          kept = r.claims.kept;
          half = r.claims.half;
          rows = r.claims.rows;
          apart = r.claims.apart;
          drawn = r.claims.drawn;
          living = r.claims.living;
          none = r.claims.none;
        }
        (resets Can_ A_ s.elements w.round w.head w.history w.born w.died g.life r.chains b (λ t. ap (λ (l : Life). chained l t) u) w.history w.born (update w.died b d) (λ c o. ((λ _. refl), refl, off c o)) (r.chains.borns b)
        (λ y k h. (r.chains.rolled_back b y k h, (λ _. refl), inr here)) (subst (IsUnborn w.round (w.born b) (update w.died b d b)) (sym u) tt))
        (λ c y k h. (off c (λ (e : c ≡ b). rolled_back_not x m y k (sym u ∙ ap g.life (sym e) ∙ h)), λ p. p)) back_own
        record { heads = own.heads; histories = own.histories; dieds = noted_after (v.owned 0).died w.died b d own.dieds; names = own.names; borns = own.borns; rows = own.rows } r.hand r.inside r.named r.once r.frees r.known

    -- DIED of a block that was rolled back becomes the round
    pub buries : (b : ℕ) → HasEntry v.ruling.rolled_back b → Rule s (record w { died = update w.died b (v.ruling.finished + 1) }) n (record v { owned = update v.owned 0 (record (v.owned 0) { died = (b, v.ruling.finished + 1) ∷ (v.owned 0).died }) }) g
    buries b known = subst (λ (q : ℕ). Rule s (record w { died = update w.died b (q + 1) }) n (record v { owned = update v.owned 0 (record (v.owned 0) { died = (b, q + 1) ∷ (v.owned 0).died }) }) g) (sym r.stock.finished) (buried b known)

    -- a claim of a refused round whose block was drawn and not linked ends: the block is free, and the owner knows it
    pub undraws : v.ruling.phase ≡ RollingBack → (x m b : ℕ) → HasEntry (v.claims 0) (claim x m (Drawn b))
        → Rule s (record w { claimed = update w.claimed x 0 }) n (record v { claims = update v.claims 0 (ended (v.claims 0) x); ruling = record v.ruling { hand = b ∷ v.ruling.hand } }) (record g { stage = update g.stage x Open; life = update g.life b Free })
    undraws four x m b mine = let is = r.claims.held 0 x m (Drawn b) mine in let sh = r.claims.shape x 0 m (Drawn b) is in let life' : ℕ → Life = update g.life b Free in let off : (c : ℕ) → c ≢ b → life' c ≡ g.life c = λ c o. update_other g.life b c Free o in
        let back : (c y k : ℕ) → life' c ≡ Placed y k → (c ≢ b) × (g.life c ≡ Placed y k) = λ c y k u. dite (ℕ_discrete c b) (λ e. absurd (free_not y k (sym (update_at g.life b c Free e) ∙ u))) (λ o. (o, sym (off c o) ∙ u)) in
        sweeps_to s w n v g r quiet w.cursor w.free w.row (update w.claimed x 0) w.head w.history w.born w.died life' _ (update v.claims 0 (ended (v.claims 0) x)) v.owned (b ∷ v.ruling.hand) v.ruling.cursor v.ruling.free v.ruling.low v.ruling.high v.ruling.rolled_back v.ruling.kept v.ruling.placed v.ruling.seen v.ruling.quiet
        (held.ends s w.round w.cursor w.free v.ruling.phase w.row w.claimed w.head w.born g.life g.stage v.claims r.claims x 0 m (Drawn b) (Drawn b) is (λ t. absurd (omega (arith, ap order four))) w.head w.born life'
        (λ z i k q h ne t. shape_on w.round w.head w.born g.life z k w.head w.born life' q (λ c u. (off c (λ (e : c ≡ b). ne (one z x 0 m b i k q (Drawn b) h is (u ∙ ap (λ (y : ℕ). y + 1) e) refl)), refl)) refl (λ _ _. refl) t)
        (λ c y k u e o. ((back c y k u).1, e, λ h. drawn_living c h)) (λ c y k u e. let t = back c y k u in (t.1, e, λ (h : b + 1 ≡ c + 1). t.0 (omega arith)))
        (λ c u e. (dite (ℕ_discrete c b) (λ f. update_at g.life b c Free f) (λ o. off c o ∙ u), e)))
        (frees Can_ A_ s.elements w.round w.head w.history w.born w.died g.life r.chains (λ c. c == b)
        (λ c h q k. let e : c ≡ b = eqb-true c b h in ((λ t y u _. not_chained sh.0 e t y u), λ a. unvisited sh.0 e q a))
        (λ y c live h e. let t = named Can_ A_ s.elements w.round w.head w.history w.born w.died g.life r.chains y c (w.head y) (r.chains.heads y live) h in not_chained sh.0 (eqb-true c b e) t.0 y t.1)
        (λ c t y a st _ h e. let k = older_named Can_ A_ s.elements w.round w.head w.history w.born w.died g.life r.chains y a (w.born c) (w.history (member_of c t)) (r.chains.histories c t y st) h in not_chained sh.0 (eqb-true a b e) k.0 y k.1)
        (λ c e. inl (ap w.born (eqb-true c b e) ∙ sh.1)))
        (λ c y k u. ((back c y k u).1, refl, λ p. p)) (λ z j k q h. back_own z j k q (dite (ℕ_discrete z x) (λ e. absurd (not_open j k q (sym h ∙ update_at g.stage x z Open e))) (λ o. sym (update_other g.stage x z Open o) ∙ h))) own
        (λ c h. ⊎_elim (λ e. update_at g.life b c Free e) (λ u. still_free c (r.hand c u)) h)
        (let k = r.stock in record { finished = k.finished; cursor_is = k.cursor_is; free_is = k.free_is; left = k.left })
        record {
          rolled_back = λ c h. let t = r.note.rolled_back c h in (t.0, t.1, off c (λ (f : c ≡ b). loose_rolled_back (x + 1) t.0 t.1 (sym sh.0 ∙ ap g.life (sym f) ∙ t.2)) ∙ t.2);
          all = λ c y k h. dite (ℕ_discrete c b) (λ f. absurd (free_rolled_back y k (sym (update_at g.life b c Free f) ∙ h))) (λ o. r.note.all c y k (sym (off c o) ∙ h));
          placed = λ c y k h. ⊎_elim (λ e. inl (off c (λ (f : c ≡ b). loose_not (x + 1) y k (sym sh.0 ∙ ap g.life (sym f) ∙ e)) ∙ e)) (λ e. inr (off c (λ (f : c ≡ b). loose_rolled_back (x + 1) y k (sym sh.0 ∙ ap g.life (sym f) ∙ e)) ∙ e)) (r.note.placed c y k h);
          seen = r.note.seen;
          quiet = r.note.quiet;
        }
        (let i = inside_life s w.free w.row g.life life' (update g.stage x Open) v.ruling.hand v.ruling.retired (inside_block s g.life b Free in_pool r.inside.blocks) (λ c t y st. r.inside.stand_in c t y (ap (λ (l : Life). stands l t) (sym (off c (λ (e : c ≡ b). not_free (life' c) t y st (update_at g.life b c Free e)))) ∙ st)) (inside_ends s w.free w.row g.life g.stage v.ruling.hand v.ruling.retired x r.inside) in record { few = i.few; rows = i.rows; blocks = i.blocks; stand_in = i.stand_in; seconds = i.seconds; hand_in = λ c h. ⊎_elim (λ e. subst (λ (k : ℕ). k < s.pool) (sym e) in_pool) (r.inside.hand_in c) h; retired_in = i.retired_in })
        (labels_on s w.name w.name w.head w.head w.history w.history g.life life' (λ c t y st. (ap (λ (l : Life). stands l t) (off c (λ (e : c ≡ b). not_loose e t y st)) ∙ st, refl)) (λ c t y st. ap (λ (l : Life). stands l t) (sym (off c (λ (e : c ≡ b). not_free (life' c) t y st (update_at g.life b c Free e)))) ∙ st) (λ c t y ch. let p = placed (life' c) t y ch in ap (λ (l : Life). chained l t) (sym (off c (back c p.0 p.1 p.2).0)) ∙ ch) (λ _ _. refl) (λ _ _ _ _. refl) (λ c y k u. r.named.patch c y k (sym (off c (λ (e : c ≡ b). free_rolled_back y k (sym (update_at g.life b c Free e) ∙ u))) ∙ u)) r.named) (once_update v.claims (ended (v.claims 0) x) (once_ended (v.claims 0) x (r.once 0)) r.once)
        record {
          all = λ c l e. dite (ℕ_discrete c b) (λ f. inl (inl f)) (λ o. ⊎_elim (λ h. inl (inr h)) inr (r.frees.all c l (sym (off c o) ∙ e)));
          hand_rows = λ c h t. ⊎_elim (λ e. not_now e (ap g.life (sym t.3) ∙ (r.claims.rows t.0 t.1 t.2).0)) (λ u. r.frees.hand_rows c u t) h;
          hand_stock = λ c h t. ⊎_elim (λ e. not_now e (ap g.life (sym t.3) ∙ (r.frees.stocked t.0 t.1 t.2).0)) (λ u. r.frees.hand_stock c u t) h;
          stocked = λ i a l. let t = r.frees.stocked i a l in (still_free (w.row i) t.0, t.1, t.2);
          once = r.frees.once;
          shut = r.frees.shut;
        }
        (known_ends g.life life' g.stage v.ruling.placed v.ruling.placed x 0 m (Drawn b) is (λ _ h. h) (λ c y k u. let t = back c y k u in (t.1, λ e _ _. absurd (t.0 (one_more c b (sym e))))) (λ c y k u. inl (sym (off c (λ (f : c ≡ b). free_rolled_back y k (sym (update_at g.life b c Free f) ∙ u))) ∙ u))
        (λ c u e. let o : c ≢ b = λ (f : c ≡ b). free_loose u (sym (update_at g.life b c Free f) ∙ e) in (sym (off c o) ∙ e, λ q. o (one_more c b (sym q)))) r.known)
        (kept_on w.round w.died w.died g.life life' v.ruling.kept (λ c y k u _ _. ((back c y k u).1, refl)) (λ c y k u _ _. (off c (λ (f : c ≡ b). loose_not (x + 1) y k (sym sh.0 ∙ ap g.life (sym f) ∙ u)) ∙ u, refl)) r.kept)
        (λ c y k u e. let l = r.names.calm c y k ((λ z. omega arith), λ z. cc) u in absurd (omega arith))
      where
        still_free : (c : ℕ) → g.life c ≡ Free → update g.life b Free c ≡ Free
        still_free c e = dite (ℕ_discrete c b) (λ f. update_at g.life b c Free f) (λ o. update_other g.life b c Free o ∙ e)

        not_now : {c : ℕ} → c ≡ b → g.life c ≡ Free → ⊥
        not_now e f = free_loose (x + 1) (sym f ∙ ap g.life e ∙ (r.claims.shape x 0 m (Drawn b) (r.claims.held 0 x m (Drawn b) mine)).0)

        in_pool : b < s.pool
        in_pool = below_pool s w.free w.row g.life g.stage v.ruling.hand v.ruling.retired r.inside b (λ e. free_loose (x + 1) (sym e ∙ (r.claims.shape x 0 m (Drawn b) (r.claims.held 0 x m (Drawn b) mine)).0))

        not_loose : {c : ℕ} → c ≡ b → (t : Bool) (y : ℕ) → stands (g.life c) t ≡ y + 1 → ⊥
        not_loose e t y st = let z : 0 ≡ y + 1 = sym (ap (λ (l : Life). stands l t) (ap g.life e ∙ (r.claims.shape x 0 m (Drawn b) (r.claims.held 0 x m (Drawn b) mine)).0)) ∙ st in omega arith

        loose_rolled_back : (i y k : ℕ) → Loose i ≡ RolledBack y k → ⊥
        loose_rolled_back i y k e = cc

        drawn_living : (c : ℕ) → Drawn b ≡ Living c → ⊥
        drawn_living c e = cc

        not_chained : {c : ℕ} → g.life b ≡ Loose (x + 1) → c ≡ b → (t : Bool) (y : ℕ) → chained (g.life c) t ≡ y + 1 → ⊥
        not_chained l e t y h = let p = placed (g.life _) t y h in loose_not (x + 1) p.0 p.1 (sym l ∙ ap g.life (sym e) ∙ p.2)

        unvisited : {c : ℕ} → g.life b ≡ Loose (x + 1) → c ≡ b → (q : ℕ) → A_ q c → ⊥
        unvisited l e q a = let t : (t : Bool) × (y : ℕ) × (stands (g.life _) t ≡ y + 1) = ⊎_elim (λ u. ((r.goes u.0).went q _ u.1 u.2).0) (λ u. ((r.walks u.0).went _ u.3).0) a.0 in let z : 0 ≡ t.1 + 1 = sym (ap (λ (k : Life). stands k t.0) (ap g.life e ∙ l)) ∙ t.2 in absurd (omega arith)
