-- The words of a drawn block are filled: no one reads them yet.
use Rattle.std.proofs.Common.{◌≡◌, ◌≢◌, ℕ, ◌+◌, ◌≤◌, Bool, true, false, ◌∷◌, ◌⊎◌, refl, sym, ap, ◌∙◌, subst, inl, inr, ⊎_elim, arith}
use Rattle.table_words.specs.Setup.{Setup}
use Rattle.table_words.specs.Functions.{update}
use Rattle.table_words.specs.Words.{Words, Node}
use Rattle.table_words.specs.Views.{Views, Owned, Worker, FirstHalf, order}
use Rattle.table_words.specs.Claims.{Progress, Claimed, Failed, Drawn, Half, Whole, Living, claim}
use Rattle.table_words.specs.Places.{member_of, child_place}
use Rattle.table_words.specs.Entries.{HasEntry}
use Rattle.table_words.proofs.Functions.{update_at, update_other, update_cases}
use Rattle.table_words.proofs.PlaceNumbers.{member_one, child_one}
use Rattle.table_state.specs.Ghosts.{Held, Life, Loose, Placed, RolledBack, chained, stands, Ghost}
use Rattle.table_state.specs.Chains.{IsPlace, IsUnborn, ChainsRule}
use Rattle.table_state.specs.Claims.{Shape, linked}
use Rattle.table_state.specs.Bisections.{IsPlaceOf, MayRead}
use Rattle.table_state.specs.Owned.{GuardsBlock, GuardsHead, OwnedRule}
use Rattle.table_state.specs.Rule.{Rule}
use Rattle.table_state.proofs.Inside.{labels_on}
use Rattle.table_state.proofs.FoundAgain.{seen_on, seen_live, names_on, goes_on, workers_on, SameNames, Moves}
use Rattle.table_state.proofs.ChainSteps.{moves_same, chains_apart}
use Rattle.table_steps.proofs.BlockSteps.{resets}
use Rattle.table_state.proofs.HeldClaims.{held_one, uses, shape_on, one_user}
use Rattle.table_state.proofs.Across.{Of, Went, some_worker, first_half}
use Rattle.table_steps.proofs.OwnedWords.{not_kid}
use Rattle.table_steps.proofs.Publishing.{member}
use Rattle.table_state.proofs.Known.{kept_on, retireds_on, grows_off}

-- the block of a claim that has linked it
linked_placed : (round : ℕ) (head : ℕ → Node) (born : ℕ → ℕ) (life : ℕ → Life) (z m : ℕ) (p : Progress) (c : ℕ) → Shape round head born life z m p → linked p ≡ c + 1 → life c ≡ Placed z m
linked_placed round head born life z m Claimed c h e = absurd (omega arith)
linked_placed round head born life z m Failed c h e = absurd (omega arith)
linked_placed round head born life z m (Drawn b) c h e = absurd (omega arith)
linked_placed round head born life z m (Half b) c h e = let s : b ≡ c = omega arith in subst (λ (y : ℕ). life y ≡ Placed z m) s h.0
linked_placed round head born life z m (Whole b) c h e = let s : b ≡ c = omega arith in subst (λ (y : ℕ). life y ≡ Placed z m) s h.0
linked_placed round head born life z m (Living b) c h e = let s : b ≡ c = omega arith in subst (λ (y : ℕ). life y ≡ Placed z m) s h.0

module _ (s : Setup) (w : Words) (n : ℕ) (v : Views) (g : Ghost) (r : Rule s w n v g) (j x m b : ℕ) (mine : HasEntry (v.claims j) (claim x m (Drawn b))) (kind : v.kind j ≡ Worker) where
  abbrev d : ℕ
  d = w.round + 1

  abbrev A : ℕ → ℕ → Type 0
  A = Went w.round w.died v.kind v.work v.read

  abbrev Can : ℕ → Type 0
  Can q = MayRead w.round v.ruling.phase v.read q

  is : g.stage x ≡ Held j m (Drawn b)
  is = r.claims.held j x m (Drawn b) mine

  one : v.ruling.phase ≡ FirstHalf
  one = first_half s w n v g r j x m (Drawn b) kind is (λ h. h)

  loose : g.life b ≡ Loose (x + 1)
  loose = (r.claims.shape x j m (Drawn b) is).0

  can : Can d
  can = inr (refl, let e = one in omega (arith, ap order one))

  -- what stands in a chain is another block
  other : (c : ℕ) (t : Bool) (y : ℕ) → chained (g.life c) t ≡ y + 1 → c ≢ b
  other c t y h e = let z : 0 ≡ y + 1 = sym (ap (λ (l : Life). chained l t) (ap g.life e ∙ loose)) ∙ h in omega arith

  stood : (c : ℕ) (t : Bool) (y : ℕ) → stands (g.life c) t ≡ y + 1 → c ≢ b
  stood c t y h e = let z : 0 ≡ y + 1 = sym (ap (λ (l : Life). stands l t) (ap g.life e ∙ loose)) ∙ h in omega arith

  -- no other seat guards the block
  mine_only : (i c : ℕ) → GuardsBlock v.ruling.workers g.stage i c → c ≡ b → i ≡ j
  mine_only i c h e = ⊎_elim (λ o. let z = some_worker s w n v g r j kind in let y = o.1 in absurd (omega arith)) (λ o. ⊎_elim (λ f. holder o.0 i o.1 (Drawn c) f refl) (λ f. holder o.0 i o.1 (Half c) f refl) o.2) h
    where
      holder : (z i k : ℕ) (p : Progress) → g.stage z ≡ Held i k p → uses p ≡ c + 1 → i ≡ j
      holder z i k p h u = let same : x ≡ z = one_user s w.round w.cursor w.free v.ruling.phase w.row w.claimed w.head w.born g.life g.stage v.claims r.claims x z j i m k b (Drawn b) p is h refl (u ∙ ap (λ (a : ℕ). a + 1) e) in
          (held_one i j k m p (Drawn b) (sym h ∙ ap g.stage (sym same) ∙ is)).0

  -- a HISTORY, NAME or DIED word of the block
  module _ (history' : ℕ → Node) (died' name' : ℕ → ℕ) (u : Owned) (off : (c : ℕ) → c ≢ b → ((t : Bool) → history' (member_of c t) ≡ w.history (member_of c t)) × (died' c ≡ w.died c) × ((t : Bool) → name' (member_of c t) ≡ w.name (member_of c t)))
      (owned : OwnedRule s.elements v.ruling.workers w.head history' w.born died' name' w.row g.stage j u) where
    step_chains : ChainsRule s.elements w.round w.head history' w.born died' g.life × Moves Can A s.elements w.round w.head w.history w.head history' w.born w.died w.born died' g.life g.life
    step_chains = resets Can A s.elements w.round w.head w.history w.born w.died g.life r.chains b (λ t. ap (λ (i : Life). chained i t) loose) history' w.born died' (λ c o. ((off c o).0, refl, (off c o).1)) (r.chains.borns b) (λ y k e. absurd (clash (x + 1) y k (sym loose ∙ e))) (subst (IsUnborn w.round (w.born b) (died' b)) (sym loose) (r.claims.shape x j m (Drawn b) is).1)
      where
        clash : (u y k : ℕ) → Loose u ≡ RolledBack y k → ⊥
        clash u y k e = cc

    same : SameNames g.life w.name name'
    same c t i y h = (off c (stood c i y h)).2 t

    place_on : (y k : ℕ) → IsPlaceOf s w.name (g.who d) y k → IsPlaceOf s name' (g.who d) y k
    place_on y k h = seen_on s w.name name' w.head w.history w.head history' w.born w.died w.born died' g.life g.life same (g.who d) d y k (r.names.fits d can) h

    pub fills : Rule s (record w { history = history'; died = died'; name = name' }) n (record v { owned = update v.owned j u }) g
    fills = record {
      names_apart = r.names_apart;
      claims = r.claims;
      labels = λ z i k p h e. let l = r.labels z i k p h e in
          (l.0, l.1, place_on z l.0 l.2, l.3, (λ c f. let at = linked_placed w.round w.head w.born g.life z k p c (r.claims.shape z i k p h) f in same c false false z (ap (λ (y : Life). stands y false) at) ∙ l.4 c f), ⊎_elim inl (λ t. inr (t.0, t.1, t.2, t.3, place_on t.0 (t.1 + 1) t.4, t.5)) l.5, l.6);
      chains = step_chains.0;
      names = names_on s w.name name' w.head w.history w.head history' w.born w.died w.born died' g.life g.life same w.round v.ruling.phase g.who v.read Can A step_chains.1 (λ _ k. k)
          (λ c y k h. let o = off c (other c false y (ap (λ (l : Life). chained l false) h)) in subst (λ (i : ℕ × ℕ). (s.leads i.0 ≡ true) × (i.1 ≡ s.mate i.0) × ((k ≡ 0) × (s.mate i.0 ≡ 0) ⊎ ((a : ℕ) × (e : ℕ) × (k ≡ a + 1) × (s.mate i.0 ≡ e + 1)))) (λ t. (sym (o.2 false) t, sym (o.2 true) t)) (r.names.patch c y k h))
          (λ c p. (p.0, p.1, p.2, p.3, sym (off c (other c false p.0 (ap (λ (l : Life). chained l false) p.2))).1 ∙ p.4))
          (λ c y k l h. subst (λ (i : ℕ). i ≤ w.round) (sym (off c (other c false y (ap (λ (l : Life). chained l false) h))).1) (r.names.calm c y k l h)) r.names;
      pins = r.pins;
      works = λ i. let k = r.works i in record { only = k.only; found = λ y a h. let t = k.found y a h in (t.0, place_on y a t.1); known = k.known; open_ = k.open_; given = λ c y h. let t = (k.given c y h).0 in let e = one in absurd (cc) };
      walks = λ i. workers_on s w.name name' w.head w.history w.head history' w.born w.died w.born died' g.life g.life same w.round v.ruling.phase g.who v.read Can A step_chains.1 (inl (inl refl)) (r.names.fits w.round (inl (inl refl))) (λ e. r.names.fits d can) (v.kind i) i (v.work i) (λ b k h x. (inr (i, k, refl, h), x)) (λ _ _ _ e. e) (r.walks i);
      owned = update_cases (λ i y. OwnedRule s.elements v.ruling.workers w.head history' w.born died' name' w.row g.stage i y) v.owned j u owned
          (λ i ne. let a = r.owned i in record {
            head_is = a.head_is;
            history_is = λ c t k f h. (off c (λ e. ne (mine_only i c h e))).0 t ∙ a.history_is c t k f h;
            died_is = λ c k f h. (off c (λ e. ne (mine_only i c h e))).1 ∙ a.died_is c k f h;
            name_is = λ c t k f h. (off c (λ e. ne (mine_only i c h e))).2 t ∙ a.name_is c t k f h;
            born_is = a.born_is;
            row_is = a.row_is;
          });
      goes = λ i. goes_on s w.name name' w.head w.history w.head history' w.born w.died w.born died' g.life g.life same w.round v.ruling.phase g.who v.read Can A step_chains.1 (λ a p e. (inl (inr (a, e)), r.pins.past a p e)) (λ a p c e h x. (inl (a, e, h), x)) (λ p k. r.names.fits p k) i (r.goes i);
      rules = r.rules;
      stock = r.stock;
      note = r.note;
      retired = λ c y k h e. r.retired c y k h (sym (off c (other c false y (ap (λ (l : Life). chained l false) h))).1 ∙ e);
      plan = r.plan;
      history = r.history;
      drawn = r.drawn;
      draws = r.draws;
      crew = r.crew;
      inside = r.inside;
      named = labels_on s w.name name' w.head w.head w.history history' g.life g.life (λ c t y st. (st, (off c (stood c t y st)).2 t)) (λ _ _ _ st. st) (λ _ _ _ ch. ch) (λ _ _. refl) (λ c t y st. (off c (stood c t y st)).0 t) (λ c y k h. subst (λ (i : ℕ × ℕ). (s.leads i.0 ≡ true) × (i.1 ≡ s.mate i.0) × ((k ≡ 0) × (s.mate i.0 ≡ 0) ⊎ ((a : ℕ) × (e : ℕ) × (k ≡ a + 1) × (s.mate i.0 ≡ e + 1)))) (λ t. let o = off c (stood c false y (ap (λ (l : Life). stands l false) h)) in (sym (o.2 false) t, sym (o.2 true) t)) (r.named.patch c y k h)) r.named;
      once = r.once;
      holders = r.holders;
      hand = r.hand;
      grows = λ i. grows_off s w.round v.ruling.phase w.name w.born name' w.born (g.who d) (g.who d) (v.kind i) i (v.work i) (v.work i) (λ e. let z = one in cc) refl (r.grows i);
      retireds = retireds_on w.round w.died died' g.life g.life v.work v.work v.ruling.retired v.ruling.retired (λ _ h. h) (λ c y k u _. (u, (off c (other c false y (ap (λ (l : Life). chained l false) u))).1)) r.retireds;
      frees = r.frees;
      known = r.known;
      kept = kept_on w.round w.died died' g.life g.life v.ruling.kept (λ c y k u p l. (u, (off c (other c false y (ap (λ (l : Life). chained l false) u))).1)) (λ c y k u p l. (u, (off c (other c false y (ap (λ (l : Life). chained l false) u))).1)) r.kept;
      early = r.early;
    }

  off_member : {B : Type 0} (f : ℕ → B) (t : Bool) (a : B) (c : ℕ) → c ≢ b → (i : Bool) → update f (member_of b t) a (member_of c i) ≡ f (member_of c i)
  off_member f t a c o i = update_other f (member_of b t) (member_of c i) a (λ e. o (member_one c b i t e).0)

  pub fills_history : (t : Bool) (l : Node) → Rule s (record w { history = update w.history (member_of b t) l }) n (record v { owned = update v.owned j (record (v.owned j) { history = (member_of b t, l) ∷ (v.owned j).history }) }) g
  fills_history t l = let i = r.owned j in fills (update w.history (member_of b t) l) w.died w.name (record (v.owned j) { history = (member_of b t, l) ∷ (v.owned j).history }) (λ c o. (off_member w.history t l c o, refl, λ _. refl)) record {
    head_is = i.head_is;
    history_is = λ c a k f h. ⊎_elim (λ z. update_at w.history (member_of b t) (member_of c a) l (sym z.0) ∙ z.1) (λ z. update_other w.history (member_of b t) (member_of c a) l (λ e. z.0 (sym e)) ∙ i.history_is c a k z.1 h) f;
    died_is = i.died_is;
    name_is = i.name_is;
    born_is = i.born_is;
    row_is = i.row_is;
  }

  pub fills_name : (t : Bool) (k : ℕ) → Rule s (record w { name = update w.name (member_of b t) k }) n (record v { owned = update v.owned j (record (v.owned j) { name = (member_of b t, k) ∷ (v.owned j).name }) }) g
  fills_name t k = let i = r.owned j in fills w.history w.died (update w.name (member_of b t) k) (record (v.owned j) { name = (member_of b t, k) ∷ (v.owned j).name }) (λ c o. ((λ _. refl), refl, off_member w.name t k c o)) record {
    head_is = i.head_is;
    history_is = i.history_is;
    died_is = i.died_is;
    name_is = λ c a q f h. ⊎_elim (λ z. update_at w.name (member_of b t) (member_of c a) k (sym z.0) ∙ z.1) (λ z. update_other w.name (member_of b t) (member_of c a) k (λ e. z.0 (sym e)) ∙ i.name_is c a q z.1 h) f;
    born_is = i.born_is;
    row_is = i.row_is;
  }

  pub fills_died : (k : ℕ) → Rule s (record w { died = update w.died b k }) n (record v { owned = update v.owned j (record (v.owned j) { died = (b, k) ∷ (v.owned j).died }) }) g
  fills_died k = let i = r.owned j in fills w.history (update w.died b k) w.name (record (v.owned j) { died = (b, k) ∷ (v.owned j).died }) (λ c o. ((λ _. refl), update_other w.died b c k o, λ _. refl)) record {
    head_is = i.head_is;
    history_is = i.history_is;
    died_is = λ c q f h. ⊎_elim (λ z. update_at w.died b c k (sym z.0) ∙ z.1) (λ z. update_other w.died b c k (λ e. z.0 (sym e)) ∙ i.died_is c q z.1 h) f;
    name_is = i.name_is;
    born_is = i.born_is;
    row_is = i.row_is;
  }

  -- the LINK of a child of the block
  pub fills_child : (t a : Bool) (l : Node) → Rule s (record w { head = update w.head (child_place s.elements b t a) l }) n (record v { owned = update v.owned j (record (v.owned j) { head = (child_place s.elements b t a, l) ∷ (v.owned j).head }) }) g
  fills_child t a l =
      let z0 : ℕ = child_place s.elements b t a in let head' : ℕ → Node = update w.head z0 l in
      let apart : (y : ℕ) → IsPlace s.elements g.life y → y ≢ z0 = λ y live e. not_kid s.elements g.life y b (x + 1) t a live loose e in
      let stays : (y : ℕ) → IsPlace s.elements g.life y → head' y ≡ w.head y = λ y live. update_other w.head z0 y l (apart y live) in
      let mv : Moves Can A s.elements w.round w.head w.history head' w.history w.born w.died w.born w.died g.life g.life = moves_same Can A s.elements w.round w.head w.history w.born w.died g.life head' w.history w.born w.died stays (λ _ _ _ _. refl) (λ _ _ _ _ _ _ h. h) (λ _ _ _ _ _ _ h. h) (λ _ _ _ _ _ _ h. h) in
      let claim_place : (y i k : ℕ) (p : Progress) → g.stage y ≡ Held i k p → (o : ℕ) → Of y k o → IsPlace s.elements g.life o = λ y i k p h o of. let q = member s w n v g r y k p (r.labels y i k p h one) o of in
      seen_live s w.name w.name w.head w.history w.head w.history w.born w.died w.born w.died g.life g.life (λ _ _ _ _ _. refl) (g.who d) d o q.0 (r.names.fits d can) q.1 in
      record {
        names_apart = r.names_apart;
        claims = let c = r.claims in record {
          held = c.held;
          holds = c.holds;
          bits = c.bits;
          inside = c.inside;
          mates = c.mates;
          shape = λ y i k p h. shape_on w.round w.head w.born g.life y k head' w.born g.life p (λ _ _. (refl, refl)) (stays y (claim_place y i k p h y (inl refl))) (λ o e. stays o (claim_place y i k p h o (inr e))) (c.shape y i k p h);
          kept = c.kept;
          half = c.half;
          rows = c.rows;
          apart = c.apart;
          drawn = c.drawn;
          living = c.living;
          none = c.none;
        };
        labels = r.labels;
        chains = chains_apart s.elements w.round w.head w.history w.born w.died g.life r.chains head' stays;
        names = names_on s w.name w.name w.head w.history head' w.history w.born w.died w.born w.died g.life g.life (λ _ _ _ _ _. refl) w.round v.ruling.phase g.who v.read Can A mv (λ _ k. k) r.names.patch (λ _ p. p) r.names.calm r.names;
        pins = r.pins;
        works = r.works;
        walks = λ i. workers_on s w.name w.name w.head w.history head' w.history w.born w.died w.born w.died g.life g.life (λ _ _ _ _ _. refl) w.round v.ruling.phase g.who v.read Can A mv (inl (inl refl)) (r.names.fits w.round (inl (inl refl))) (λ e. r.names.fits d can) (v.kind i) i (v.work i) (λ b k h x. (inr (i, k, refl, h), x)) (λ _ _ _ e. e) (r.walks i);
        owned = update_cases (λ i y. OwnedRule s.elements v.ruling.workers head' w.history w.born w.died w.name w.row g.stage i y) v.owned j (record (v.owned j) { head = (z0, l) ∷ (v.owned j).head })
            (let i = r.owned j in record { head_is = λ y k f h. ⊎_elim (λ q. update_at w.head z0 y l (sym q.0) ∙ q.1) (λ q. update_other w.head z0 y l (λ e. q.0 (sym e)) ∙ i.head_is y k q.1 h) f; history_is = i.history_is; died_is = i.died_is; name_is = i.name_is; born_is = i.born_is; row_is = i.row_is })
            (λ i ne. let q = r.owned i in record { head_is = λ y k f h. update_other w.head z0 y l (λ e. ne (head_only i y h e)) ∙ q.head_is y k f h; history_is = q.history_is; died_is = q.died_is; name_is = q.name_is; born_is = q.born_is; row_is = q.row_is });
        goes = λ i. goes_on s w.name w.name w.head w.history head' w.history w.born w.died w.born w.died g.life g.life (λ _ _ _ _ _. refl) w.round v.ruling.phase g.who v.read Can A mv (λ a p e. (inl (inr (a, e)), r.pins.past a p e)) (λ a p c e h x. (inl (a, e, h), x)) (λ p k. r.names.fits p k) i (r.goes i);
        rules = r.rules;
        stock = r.stock;
        note = r.note;
        retired = r.retired;
        plan = r.plan;
        history = r.history;
        drawn = r.drawn;
        draws = r.draws;
        crew = r.crew;
        inside = r.inside;
        named = labels_on s w.name w.name w.head head' w.history w.history g.life g.life (λ _ _ _ st. (st, refl)) (λ _ _ _ st. st) (λ _ _ _ ch. ch) (λ y live. ap (λ (i : Node). i.block) (stays y live)) (λ _ _ _ _. refl) r.named.patch r.named;
        once = r.once;
        holders = r.holders;
        hand = r.hand;
        grows = r.grows;
        retireds = r.retireds;
        frees = r.frees;
        known = r.known;
        kept = r.kept;
        early = r.early;
      }
    where
      -- a claim's places are no places of the block's children
      no_place : (y i k : ℕ) (p : Progress) → g.stage y ≡ Held i k p → (o : ℕ) → Of y k o → o ≡ child_place s.elements b t a → ⊥
      no_place y i k p h o of e = let q = member s w n v g r y k p (r.labels y i k p h one) o of in
          not_kid s.elements g.life o b (x + 1) t a (seen_live s w.name w.name w.head w.history w.head w.history w.born w.died w.born w.died g.life g.life (λ _ _ _ _ _. refl) (g.who d) d o q.0 (r.names.fits d can) q.1) loose e

      -- no other seat guards the child's place
      head_only : (i y : ℕ) → GuardsHead s.elements v.ruling.workers g.stage i y → y ≡ child_place s.elements b t a → i ≡ j
      head_only i y (inl o) e = let z = some_worker s w n v g r j kind in let q = o.1 in absurd (omega arith)
      head_only i y (inr o) e = ⊎_elim
          (λ h. ⊎_elim (λ f. absurd (no_place o.0 i o.1 (Drawn o.2) h.0 y (inl f) e)) (λ f. ⊎_elim (λ q. absurd (no_place o.0 i o.1 (Drawn o.2) h.0 y (inr q) e)) (λ q. mine_only i o.2 (inr (o.0, o.1, inl h.0)) (child_one s.elements o.2 b q.0 q.1 t a (sym q.2 ∙ e)).0) f) h.1)
          (λ h. absurd (no_place o.0 i o.1 (Half o.2) h.0 y (inr h.1) e)) o.3
