-- A claim, a draw, and the second link.
use Rattle.std.proofs.Common.{◌≡◌, ◌≢◌, ℕ, ◌+◌, ◌<◌, ◌∷◌, ◌⊎◌, refl, sym, ap, ◌∙◌, subst, inl, inr, ⊎_elim, arith, true}
use mathlib.Core.Logic.{dite}
use native.Mathlib.Decide.{ℕ_discrete}
use Rattle.table_words.specs.Setup.{Setup, places}
use Rattle.table_words.specs.Functions.{update}
use Rattle.table_words.specs.Words.{Words}
use Rattle.table_words.specs.Views.{Plan, Views, owns_nothing, Worker, FirstHalf, order}
use Rattle.table_words.specs.Claims.{Progress, Claimed, Drawn, Half, Whole, Living, Claim, claim}
use Rattle.table_words.specs.Entries.{HasEntry}
use Rattle.table_words.proofs.Functions.{update_at, update_other, update_cases}
use Rattle.table_words.proofs.Sums.{sum_same}
use Rattle.table_state.specs.Ghosts.{Stage, Open, Held, Ghost}
use Rattle.table_state.specs.Claims.{Shape, draws_of, bit_of, draws}
use Rattle.table_state.specs.Bisections.{IsPlaceOf, MayRead}
use Rattle.table_state.specs.Owned.{GuardsBlock, GuardsHead, OwnedRule}
use Rattle.table_state.proofs.Lists.{crew_goes}
use Rattle.table_state.specs.Rule.{Rule}
use Rattle.table_state.specs.Inside.{ListedOnce}
use Rattle.table_state.proofs.Inside.{label_below, label_of, once_more}
use Rattle.table_state.proofs.FoundAgain.{one_more}
use Rattle.table_state.proofs.HeldClaims.{not_open, held_one}
use Rattle.table_state.proofs.Across.{zero_or_more, place_one, name_one}
use Rattle.table_steps.proofs.OwnedWords.{owned_on}
use Rattle.table_steps.proofs.Publishing.{Label}
use Rattle.table_state.proofs.Known.{known_opens}
use Rattle.table_state.proofs.Lawful.{members_together}

module _ (s : Setup) (w : Words) (n : ℕ) (v : Views) (g : Ghost) (r : Rule s w n v g) where
  abbrev d : ℕ
  d = w.round + 1

  nothing_owned : (j workers : ℕ) (stage : ℕ → Stage) → OwnedRule s.elements workers w.head w.history w.born w.died w.name w.row stage j owns_nothing
  nothing_owned j workers stage = record { head_is = λ z l f h. absurd f; history_is = λ b t l f h. absurd f; died_is = λ b k f h. absurd f; name_is = λ b t k f h. absurd f; born_is = λ b k f h i. absurd f; row_is = λ b k f h i. absurd f }

  -- The claim of a patch of the target of which the pass found the members' places, and which the last finished round has not
  module _ (j x m k : ℕ) (kind : v.kind j ≡ Worker) (bit0 : w.claimed x ≡ 0) (lead : s.leads k ≡ true) (room : x < places s) (absent : HasEntry (v.work j).absent k ⊎ ((i : ℕ) × (s.mate k ≡ i + 1) × HasEntry (v.work j).absent (i + 1))) (aimed : HasEntry (v.work j).plan.target k)
      (here : HasEntry (v.work j).found (x, k)) (mate : ((m ≡ 0) × (s.mate k ≡ 0)) ⊎ ((y : ℕ) × (i : ℕ) × (m ≡ y + 1) × (s.mate k ≡ i + 1) × HasEntry (v.work j).found (y, i + 1))) where
    one : v.ruling.phase ≡ FirstHalf
    one = ((r.works j).found x k here).0

    old : g.who w.round k ≡ 0
    old = ⊎_elim ((r.walks j).absent k) (λ a. let z = (r.walks j).absent (a.0 + 1) a.2 in ⊎_elim (λ y. y) (λ t. let y = (members_together s w n v (g, r) w.round (inl (inl refl)) k a.0 t.0 a.1).0 t.1 in absurd (omega arith)) (zero_or_more (g.who w.round k))) absent

    -- nor has it the second member
    mate_old : (i : ℕ) → s.mate k ≡ i + 1 → g.who w.round (i + 1) ≡ 0
    mate_old i e = ⊎_elim (λ z. z) (λ t. let z = (members_together s w n v (g, r) w.round (inl (inl refl)) k i t.0 e).1 t.1 in let y = old in absurd (omega arith)) (zero_or_more (g.who w.round (i + 1)))

    can : MayRead w.round v.ruling.phase v.read d
    can = inr (refl, let e = one in omega (arith, ap order one))

    seen : IsPlaceOf s w.name (g.who d) x k
    seen = ((r.works j).found x k here).1

    open_ : g.stage x ≡ Open
    open_ = by (g.stage x) refl
      where
        by : (t : Stage) → g.stage x ≡ t → g.stage x ≡ Open
        by Open e = e
        by (Held i a p) e = let z = r.claims.bits x in let y : bit_of (g.stage x) ≡ 1 = ap bit_of e in absurd (omega arith)

    abbrev new : Stage
    new = Held j m Claimed

    abbrev stage' : ℕ → Stage
    stage' = update g.stage x new

    back : (z i a : ℕ) (p : Progress) → stage' z ≡ Held i a p → ((z ≡ x) × (i ≡ j) × (a ≡ m) × (p ≡ Claimed)) ⊎ ((z ≢ x) × (g.stage z ≡ Held i a p))
    back z i a p h = dite (ℕ_discrete z x) (λ e. let t = held_one j i m a Claimed p (sym (update_at g.stage x z new e) ∙ h) in inl (e, sym t.0, sym t.1, sym t.2)) (λ o. inr (o, sym (update_other g.stage x z new o) ∙ h))

    -- the second place is no claim's, first or second, and the first is no claim's second: names tell
    no_second : (y i : ℕ) → s.mate k ≡ i + 1 → IsPlaceOf s w.name (g.who d) y (i + 1) → (g.stage y ≡ Open) × ((z a : ℕ) (p : Progress) → g.stage z ≡ Held a (y + 1) p → ⊥)
    no_second y i e h = (by (g.stage y) refl, other)
      where
        by : (t : Stage) → g.stage y ≡ t → g.stage y ≡ Open
        by Open f = f
        by (Held a b p) f = let l = r.labels y a b p f one in absurd (r.names_apart.mate_leads k l.0 i e l.1 (name_one s w n v g r d y l.0 (i + 1) l.2 h))

        other : (z a : ℕ) (p : Progress) → g.stage z ≡ Held a (y + 1) p → ⊥
        other z a p f = let l = r.labels z a (y + 1) p f one in ⊎_elim (λ t. let q = t.0 in omega arith)
            (λ t. let same : t.0 ≡ y = one_more t.0 y (sym t.2) in let nm : t.1 + 1 ≡ i + 1 = name_one s w n v g r d y (t.1 + 1) (i + 1) (subst (λ (u : ℕ). IsPlaceOf s w.name (g.who d) u (t.1 + 1)) same t.4) h in
            let kk : l.0 ≡ k = r.names_apart.mate_one l.0 k i (t.3 ∙ nm) e in let zx : z ≡ x = place_one s w n v g r d can z x k (subst (IsPlaceOf s w.name (g.who d) z) kk l.2) seen in not_open a (y + 1) p (sym f ∙ ap g.stage zx ∙ open_)) l.5

    no_first : (z a : ℕ) (p : Progress) → g.stage z ≡ Held a (x + 1) p → ⊥
    no_first z a p f = let l = r.labels z a (x + 1) p f one in ⊎_elim (λ t. let q = t.0 in omega arith)
        (λ t. let same : t.0 ≡ x = one_more t.0 x (sym t.2) in r.names_apart.mate_leads l.0 k t.1 t.3 lead (name_one s w n v g r d x k (t.1 + 1) seen (subst (λ (u : ℕ). IsPlaceOf s w.name (g.who d) u (t.1 + 1)) same t.4))) l.5

    not_self : (y i : ℕ) → s.mate k ≡ i + 1 → IsPlaceOf s w.name (g.who d) y (i + 1) → y ≢ x
    not_self y i e h f = r.names_apart.mate_leads k k i e lead (name_one s w n v g r d x k (i + 1) seen (subst (λ (u : ℕ). IsPlaceOf s w.name (g.who d) u (i + 1)) f h))

    pub claims : Rule s (record w { claimed = update w.claimed x 1 }) n (record v { claims = update v.claims j (claim x m Claimed ∷ v.claims j); owned = update v.owned j owns_nothing }) (record g { stage = update g.stage x (Held j m Claimed) })
    claims = record {
      names_apart = r.names_apart;
      claims = record {
        held = update_cases (λ i cs. (z a : ℕ) (p : Progress) → HasEntry cs (claim z a p) → stage' z ≡ Held i a p) v.claims j (claim x m Claimed ∷ v.claims j)
            (λ z a p h. ⊎_elim (λ e. let e0 : z ≡ x = ap (λ (c : Claim). c.place) e in let e1 : a ≡ m = ap (λ (c : Claim). c.mate) e in let e2 : p ≡ Claimed = ap (λ (c : Claim). c.progress) e in update_at g.stage x z new e0 ∙ (λ t. Held j (sym e1 t) (sym e2 t)))
            (λ t. let f = r.claims.held j z a p t in update_other g.stage x z new (λ (e : z ≡ x). not_open j a p (sym f ∙ ap g.stage e ∙ open_)) ∙ f) h)
            (λ i _ z a p h. let f = r.claims.held i z a p h in update_other g.stage x z new (λ (e : z ≡ x). not_open i a p (sym f ∙ ap g.stage e ∙ open_)) ∙ f);
        holds = update_cases (λ i cs. (z a : ℕ) (p : Progress) → stage' z ≡ Held i a p → HasEntry cs (claim z a p)) v.claims j (claim x m Claimed ∷ v.claims j)
            (λ z a p h. ⊎_elim (λ t. inl (λ u. claim (t.0 u) (t.2 u) (t.3 u))) (λ t. inr (r.claims.holds j z a p t.1)) (back z j a p h))
            (λ i ne z a p h. ⊎_elim (λ t. absurd (ne t.1)) (λ t. r.claims.holds i z a p t.1) (back z i a p h));
        bits = λ z. dite (ℕ_discrete z x) (λ e. update_at w.claimed x z 1 e ∙ sym (ap bit_of (update_at g.stage x z new e))) (λ o. update_other w.claimed x z 1 o ∙ r.claims.bits z ∙ sym (ap bit_of (update_other g.stage x z new o)));
        inside = λ z l. update_other g.stage x z new (λ (e : z ≡ x). omega arith) ∙ r.claims.inside z l;
        mates = λ z i y p h. ⊎_elim (λ t. new_mate z y t.0 t.2) (λ t. let a = r.claims.mates z i y p t.1 in (
          update_other g.stage x y new (λ (e : y ≡ x). no_first z i p (t.1 ∙ ap (λ (u : ℕ). Held i (u + 1) p) e)) ∙ a.0,
          λ q b c u. ⊎_elim (λ f. absurd (second_clash z i y p t.1 f.2)) (λ f. a.1 q b c f.1) (back q b (y + 1) c u),
        )) (back z i (y + 1) p h);
        shape = λ z i a p h. ⊎_elim (λ t. subst (Shape w.round w.head w.born g.life z a) (sym t.3) tt) (λ t. r.claims.shape z i a p t.1) (back z i a p h);
        kept = λ b y a u e o. let t = r.claims.kept b y a u e o in (t.0, update_other g.stage x y new (λ (f : y ≡ x). not_open t.0 a (Living b) (sym t.1 ∙ ap g.stage f ∙ open_)) ∙ t.1);
        half = λ b y a u e. let t = r.claims.half b y a u e in (t.0, ⊎_elim (λ f. inl (update_other g.stage x y new (λ (q : y ≡ x). not_open t.0 a (Half b) (sym f ∙ ap g.stage q ∙ open_)) ∙ f)) (λ f. inr (update_other g.stage x y new (λ (q : y ≡ x). not_open t.0 a (Whole b) (sym f ∙ ap g.stage q ∙ open_)) ∙ f)) t.1);
        rows = r.claims.rows;
        apart = r.claims.apart;
        drawn = λ e. r.claims.drawn e ∙ sym (sum_same (places s) (λ z. draws_of (g.stage z)) (λ z. draws_of (stage' z)) (λ z _. dite (ℕ_discrete z x) (λ f. ap draws_of (update_at g.stage x z new f) ∙ sym (ap draws_of (ap g.stage f ∙ open_))) (λ o. ap draws_of (update_other g.stage x z new o))));
        living = λ z i a p h e. absurd (let f = one in cc);
        none = λ z e. absurd (let f = one in cc);
      };
      labels = λ z i a p h e. ⊎_elim (λ t. subst (λ (y : ℕ × ℕ × Progress). Label s w n v g r y.0 y.1 y.2) (λ u. (sym t.0 u, sym t.2 u, sym t.3 u)) (k, lead, seen, old, (λ b q. absurd (omega arith)), ⊎_elim inl (λ t. inr (t.0, t.1, t.2, t.3, ((r.works j).found t.0 (t.1 + 1) t.4).1, mate_old t.1 t.3)) mate, subst (λ (p : Plan). HasEntry p.target k) (r.plan.same j kind) aimed)) (λ t. r.labels z i a p t.1 e) (back z i a p h);
      chains = r.chains;
      names = r.names;
      pins = r.pins;
      works = r.works;
      walks = r.walks;
      owned = update_cases (λ i u. OwnedRule s.elements v.ruling.workers w.head w.history w.born w.died w.name w.row stage' i u) v.owned j owns_nothing (nothing_owned j v.ruling.workers stage')
          (λ i ne. owned_on s.elements v.ruling.workers v.ruling.workers w.head w.history w.head w.history w.born w.died w.name w.row w.born w.died w.name w.row g.stage stage' i (v.owned i)
          (λ z h. (head_was i ne z h, refl)) (λ c h. (block_was i ne c h, (λ _. refl), refl, λ _. refl)) (λ z e. (e, (λ _. refl), λ _. refl)) (r.owned i));
      goes = r.goes;
      rules = r.rules;
      stock = r.stock;
      note = r.note;
      retired = r.retired;
      plan = r.plan;
      history = r.history;
      drawn = r.drawn;
      draws = λ z i a p e h f. ⊎_elim (λ t. let y = ap draws t.3 in absurd (omega arith)) (λ t. r.draws z i a p e t.1 f) (back z i a p h);
      crew = crew_goes s w.round v.ruling.phase v.kind v.work v.work g.stage v.ruling.lone x j m Claimed kind (λ _. refl) r.crew;
      inside = record {
        few = r.inside.few;
        rows = r.inside.rows;
        blocks = r.inside.blocks;
        stand_in = r.inside.stand_in;
        seconds = λ z i y p h. ⊎_elim (λ t. second_below y t.2) (λ t. r.inside.seconds z i y p t.1) (back z i (y + 1) p h);
        hand_in = r.inside.hand_in;
        retired_in = r.inside.retired_in;
      };
      named = r.named;
      once = update_cases (λ _ cs. ListedOnce cs) v.claims j (claim x m Claimed ∷ v.claims j) (once_more (v.claims j) x m Claimed (λ a q h. not_open j a q (sym (r.claims.held j x a q h) ∙ open_)) (r.once j)) (λ i _. r.once i);
      holders = λ z i a p h. ⊎_elim (λ t. inr (ap v.kind t.1 ∙ kind)) (λ t. r.holders z i a p t.1) (back z i a p h);
      hand = r.hand;
      grows = r.grows;
      retireds = r.retireds;
      frees = r.frees;
      known = known_opens g.life g.stage v.ruling.placed x new open_ r.known;
      kept = r.kept;
      early = r.early;
    }
      where
        second_below : (y : ℕ) → y + 1 ≡ m → y < places s
        second_below y f = ⊎_elim (λ t. let q = t.0 in absurd (omega arith)) (λ t. let l = label_below s w.name w.free w.row g.life g.stage v.ruling.hand v.ruling.retired r.inside t.0 (t.1 + 1) (label_of s w n v g r d can t.0 (t.1 + 1) ((r.works j).found t.0 (t.1 + 1) t.4).1) in let e = t.2 in omega arith) mate

        new_mate : (z y : ℕ) → z ≡ x → y + 1 ≡ m → (stage' y ≡ Open) × ((q b : ℕ) (c : Progress) → stage' q ≡ Held b (y + 1) c → q ≡ z)
        new_mate z y e f = ⊎_elim (λ t. let q = t.0 in absurd (omega arith))
            (λ t. let same : t.0 ≡ y = one_more t.0 y (sym t.2 ∙ sym f) in let h : IsPlaceOf s w.name (g.who d) y (t.1 + 1) = subst (λ (u : ℕ). IsPlaceOf s w.name (g.who d) u (t.1 + 1)) same ((r.works j).found t.0 (t.1 + 1) t.4).1 in let a = no_second y t.1 t.3 h in
            (update_other g.stage x y new (not_self y t.1 t.3 h) ∙ a.0, λ q b c u. ⊎_elim (λ i. i.0 ∙ sym e) (λ i. absurd (a.1 q b c i.1)) (back q b (y + 1) c u))) mate

        second_clash : (z i y : ℕ) (p : Progress) → g.stage z ≡ Held i (y + 1) p → y + 1 ≡ m → ⊥
        second_clash z i y p h f = ⊎_elim (λ t. let q = t.0 in omega arith)
            (λ t. let same : t.0 ≡ y = one_more t.0 y (sym t.2 ∙ sym f) in (no_second y t.1 t.3 (subst (λ (u : ℕ). IsPlaceOf s w.name (g.who d) u (t.1 + 1)) same ((r.works j).found t.0 (t.1 + 1) t.4).1)).1 z i p h) mate

        not_drawn : (b : ℕ) → Drawn b ≡ Claimed → ⊥
        not_drawn b e = cc

        not_half : (b : ℕ) → Half b ≡ Claimed → ⊥
        not_half b e = cc

        block_was : (i : ℕ) → i ≢ j → (c : ℕ) → GuardsBlock v.ruling.workers stage' i c → GuardsBlock v.ruling.workers g.stage i c
        block_was i ne c (inl t) = inl t
        block_was i ne c (inr t) = inr (t.0, t.1, ⊎_elim (λ h. ⊎_elim (λ q. absurd (not_drawn c q.3)) (λ q. inl q.1) (back t.0 i t.1 (Drawn c) h)) (λ h. ⊎_elim (λ q. absurd (not_half c q.3)) (λ q. inr q.1) (back t.0 i t.1 (Half c) h)) t.2)

        head_was : (i : ℕ) → i ≢ j → (z : ℕ) → GuardsHead s.elements v.ruling.workers stage' i z → GuardsHead s.elements v.ruling.workers g.stage i z
        head_was i ne z (inl t) = inl t
        head_was i ne z (inr t) = inr (t.0, t.1, t.2, ⊎_elim (λ h. ⊎_elim (λ q. absurd (not_drawn t.2 q.3)) (λ q. inl (q.1, h.1)) (back t.0 i t.1 (Drawn t.2) h.0)) (λ h. ⊎_elim (λ q. absurd (not_half t.2 q.3)) (λ q. inr (q.1, h.1)) (back t.0 i t.1 (Half t.2) h.0)) t.3)
