-- A drawn block is put before the chains of its places.
use Rattle.std.proofs.Common.{◌≡◌, ◌≢◌, ℕ, ◌+◌, ◌<◌, ◌≤◌, Bool, true, false, ◌⊎◌, refl, sym, ap, ◌∙◌, subst, inl, inr, ⊎_elim, arith}
use mathlib.Core.Logic.{dite}
use native.Mathlib.Decide.{ℕ_discrete}
use Rattle.table_words.specs.Setup.{Setup, places}
use Rattle.table_words.specs.Functions.{update}
use Rattle.table_words.specs.Words.{Words, Node, node}
use Rattle.table_words.specs.Views.{Views, Worker, FirstHalf, order}
use Rattle.table_words.specs.Claims.{Progress, Drawn, Half, Whole, claim, moved_on}
use Rattle.table_words.specs.Places.{member_of, child_place}
use Rattle.table_words.specs.Entries.{HasEntry, Noted}
use Rattle.table_words.proofs.Functions.{update_same, update_at, update_other, update_cases}
use Rattle.table_state.specs.Ghosts.{chained, Held, Life, Loose, Placed, RolledBack, stands, Ghost}
use Rattle.table_state.specs.Chains.{IsPlace, ChainsRule}
use Rattle.table_state.specs.Claims.{block_of, Shape, linked, draws}
use Rattle.table_state.specs.Bisections.{MayRead, IsPatch}
use Rattle.table_state.specs.Owned.{GuardsBlock, GuardsHead}
use Rattle.table_state.proofs.Lists.{crew_goes}
use Rattle.table_state.proofs.Lists.{draws_goes}
use Rattle.table_state.specs.Rule.{Rule}
use Rattle.table_state.specs.Inside.{IsLabel, ListedOnce}
use Rattle.table_state.proofs.Inside.{below_pool, inside_goes, inside_life, inside_block, label_below, label_of, label_one, label_on, once_moved}
use Rattle.table_state.proofs.FoundAgain.{chained_stands, one_more, placed, seen_live, names_on, goes_on, workers_on, Moves}
use Rattle.table_state.proofs.ChainSteps.{links_first, named, older_named}
use Rattle.table_state.proofs.HeldClaims.{not_open, held_one, loose_not, free_not, free_loose, placed_one, uses, used_life, shape_on, one_user, heads_apart}
use Rattle.table_state.proofs.Across.{Went, Of, some_worker, first_half, name_one, settled}
use Rattle.table_steps.proofs.OwnedWords.{owned_on, block_back, head_back, not_kid}
use Rattle.table_steps.proofs.Publishing.{Label, member, own_place, unmet_member}
use Rattle.table_state.proofs.HeldClaims as held
use Rattle.table_state.specs.Owner.{HasClaim}
use Rattle.table_state.proofs.Known.{claim_other, draw_other, frees_on, kept_on, retireds_on}

module _ (s : Setup) (w : Words) (n : ℕ) (v : Views) (g : Ghost) (r : Rule s w n v g) where
  abbrev d : ℕ
  d = w.round + 1

  abbrev A : ℕ → ℕ → Type 0
  A = Went w.round w.died v.kind v.work v.read

  abbrev Can : ℕ → Type 0
  Can q = MayRead w.round v.ruling.phase v.read q

  -- The condition speaks of the pass's own view: its claim, the words of its block, the heads of its places, and the names that it found there.
  module _ (j x m b k : ℕ) (mine : HasEntry (v.claims j) (claim x m (Drawn b))) (kind : v.kind j ≡ Worker)
      (died : Noted (v.owned j).died b 0) (name0 : Noted (v.owned j).name (member_of b false) k) (name1 : Noted (v.owned j).name (member_of b true) (s.mate k)) (lead : s.leads k ≡ true)
      (kids : (t c : Bool) → Noted (v.owned j).head (child_place s.elements b t c) (node 0 0))
      (histories : (t : Bool) (y : ℕ) → stands (Placed x m) t ≡ y + 1 → (l : Node) × Noted (v.owned j).head y l × Noted (v.owned j).history (member_of b t) l)
      (place : HasEntry (v.work j).found (x, k)) (mate : ((m ≡ 0) × (s.mate k ≡ 0)) ⊎ ((y : ℕ) × (i : ℕ) × (m ≡ y + 1) × (s.mate k ≡ i + 1) × HasEntry (v.work j).found (y, i + 1))) where
    is : g.stage x ≡ Held j m (Drawn b)
    is = r.claims.held j x m (Drawn b) mine

    one : v.ruling.phase ≡ FirstHalf
    one = first_half s w n v g r j x m (Drawn b) kind is (λ h. h)

    shape : (g.life b ≡ Loose (x + 1)) × (w.born b ≡ 0)
    shape = r.claims.shape x j m (Drawn b) is

    guard : GuardsBlock v.ruling.workers g.stage j b
    guard = inr (x, m, inl is)

    apart : m ≡ x + 1 → ⊥
    apart e = not_open j m (Drawn b) (sym is ∙ (r.claims.mates x j x (Drawn b) (is ∙ ap (λ (i : ℕ). Held j i (Drawn b)) e)).0)

    of : (t : Bool) (y : ℕ) → stands (Placed x m) t ≡ y + 1 → Of x m y
    of true y e = inr e
    of false y e = inl (sym (one_more x y e))

    guard_head : (y : ℕ) → Of x m y → GuardsHead s.elements v.ruling.workers g.stage j y
    guard_head y (inl e) = inr (x, m, b, inl (is, inl e))
    guard_head y (inr e) = inr (x, m, b, inl (is, inr (inl e)))

    label : Label s w n v g r x m (Drawn b)
    label = r.labels x j m (Drawn b) is one

    can : Can d
    can = inr (refl, let e = one in omega (arith, ap order one))

    live : (y : ℕ) → Of x m y → IsPlace s.elements g.life y
    live y o = let t = member s w n v g r x m (Drawn b) label y o in seen_live s w.name w.name w.head w.history w.head w.history w.born w.died w.born w.died g.life g.life (λ _ _ _ _ _. refl) (g.who d) d y t.0 (r.names.fits d can) t.1

    calm : (y : ℕ) → Of x m y → (w.head y ≡ node 0 0) ⊎ (0 < (w.head y).died) × ((w.head y).died ≤ w.round)
    calm y o = let t = member s w n v g r x m (Drawn b) label y o in settled s w n v g r one y t.0 t.1 (unmet_member s w n v g r x j m (Drawn b) is (λ h. h) one y t.0 o t.1 t.2)
        (λ z i c p h q a e. let f = own_place s w n v g r x j m (Drawn b) is y o z i c p h q in let u = (held_one j i m c (Drawn b) p (sym is ∙ ap g.stage (sym f) ∙ h)).2 in let y : 0 ≡ a + 1 = ap linked u ∙ e in omega arith) (live y o)

    old : (t : Bool) (z : ℕ) → stands (Placed x m) t ≡ z + 1 → (w.history (member_of b t) ≡ w.head z) × IsPlace s.elements g.life z × ((w.head z ≡ node 0 0) ⊎ (0 < (w.head z).died) × ((w.head z).died ≤ w.round))
    old t z e = let h = histories t z e in let o = of t z e in ((r.owned j).history_is b t h.0 h.2 guard ∙ sym ((r.owned j).head_is z h.0 h.1 (guard_head z o)), live z o, calm z o)

    abbrev head' : ℕ → Node
    head' = update w.head x (node (b + 1) 0)

    abbrev life' : ℕ → Life
    life' = update g.life b (Placed x m)

    step_chains : ChainsRule s.elements w.round head' w.history w.born w.died life' × Moves Can A s.elements w.round w.head w.history head' w.history w.born w.died w.born w.died g.life life'
    step_chains = links_first Can A s.elements w.round w.head w.history w.born w.died g.life r.chains b x m shape.0 shape.1 ((r.owned j).died_is b 0 died guard) apart (λ t c. (r.owned j).head_is (child_place s.elements b t c) (node 0 0) (kids t c) (inr (x, m, b, inl (is, inr (inr (t, c, refl)))))) old

    off : (c : ℕ) → c ≢ b → life' c ≡ g.life c
    off c o = update_other g.life b c (Placed x m) o

    back : (c y i : ℕ) → life' c ≡ Placed y i → ((c ≡ b) × (y ≡ x) × (i ≡ m)) ⊎ ((c ≢ b) × (g.life c ≡ Placed y i))
    back c y i u = dite (ℕ_discrete c b) (λ e. let t = placed_one y i x m (sym u ∙ update_at g.life b c (Placed x m) e) in inl (e, t.0, t.1)) (λ o. inr (o, sym (off c o) ∙ u))

    first_name : w.name (member_of b false) ≡ k
    first_name = (r.owned j).name_is b false k name0 guard

    patch : IsPatch s w.name b m
    patch = (ap s.leads first_name ∙ lead, (r.owned j).name_is b true (s.mate k) name1 guard ∙ ap s.mate (sym first_name), ⊎_elim (λ t. inl (t.0, ap s.mate first_name ∙ t.1)) (λ t. inr (t.0, t.1, t.2, ap s.mate first_name ∙ t.3)) mate)

    not_x : (z : ℕ) → Of x m z → (y : ℕ) → (y ≡ x) → (y ≢ z) ⊎ (y ≡ z)
    not_x z o y e = dite (ℕ_discrete y z) inr inl

    placed_rolled_back : (x m y k : ℕ) → Placed x m ≡ RolledBack y k → ⊥
    placed_rolled_back x m y k e = cc

    loose_rolled_back : (i y k : ℕ) → Loose i ≡ RolledBack y k → ⊥
    loose_rolled_back i y k e = cc

    -- how far the claim comes: a patch of one member is linked whole
    pub links : (q : Progress) → ((q ≡ Half b) ⊎ ((q ≡ Whole b) × (m ≡ 0)))
        → Rule s (record w { head = head' }) n (record v { claims = update v.claims j (moved_on (v.claims j) x q) }) (record g { stage = update g.stage x (Held j m q); life = life' })
    links q how = record {
      names_apart = r.names_apart;
      claims = held.goes s w.round w.cursor w.free v.ruling.phase w.row w.claimed w.head w.born g.life g.stage v.claims r.claims x j m (Drawn b) q is (⊎_elim (λ e. ap draws e) (λ e. ap draws e.0) how) (λ e. let t = one in absurd (cc)) head' w.born life'
          (⊎_elim (λ e. subst (Shape w.round head' w.born life' x m) (sym e) new_half) (λ e. subst (Shape w.round head' w.born life' x m) (sym e.0) (new_half.0, new_half.1, new_half.2, λ y f. let z = e.1 in absurd (omega arith))) how)
          (λ z i c p h ne t. let a = heads_apart s w.round w.cursor w.free v.ruling.phase w.row w.claimed w.head w.born g.life g.stage v.claims r.claims x z j i m c (Drawn b) p is h ne x (inl refl) in
          shape_on w.round w.head w.born g.life z c head' w.born life' p (λ a u. (off a (λ (e : a ≡ b). ne (one_user s w.round w.cursor w.free v.ruling.phase w.row w.claimed w.head w.born g.life g.stage v.claims r.claims z x i j c m b p (Drawn b) h is (u ∙ ap (λ (t : ℕ). t + 1) e) refl)), refl)) (update_other w.head x z (node (b + 1) 0) ne) (λ f e. update_other w.head x f (node (b + 1) 0) (a.1 f e)) t)
          (λ c y i u e l. ⊎_elim (λ t. let f : w.born c ≡ w.born b = ap w.born t.0 in let z = shape.1 in absurd (omega arith)) (λ t. inr (t.1, e, λ (h : b + 1 ≡ c + 1). t.0 (omega arith))) (back c y i u))
          (λ c y i u e. ⊎_elim (λ t. inl (t.1, t.2, ⊎_elim (λ f. inl (f ∙ ap Half (sym t.0))) (λ f. inr (f.0 ∙ ap Whole (sym t.0))) how)) (λ t. inr (t.1, e, λ (h : b + 1 ≡ c + 1). t.0 (omega arith))) (back c y i u))
          (λ c u e. (off c (λ (f : c ≡ b). free_loose (x + 1) (sym u ∙ ap g.life f ∙ shape.0)) ∙ u, e));
      labels = λ z i c p h e. dite (ℕ_discrete z x)
          (λ f. let t = held_one j i m c q p (sym (update_at g.stage x z (Held j m q) f) ∙ h) in subst (λ (y : ℕ × ℕ × Progress). Label s w n v g r y.0 y.1 y.2) (λ i. (sym f i, t.1 i, t.2 i)) new_label)
          (λ o. r.labels z i c p (sym (update_other g.stage x z (Held j m q) o) ∙ h) e);
      chains = step_chains.0;
      names = names_on s w.name w.name w.head w.history head' w.history w.born w.died w.born w.died g.life life' (λ _ _ _ _ _. refl) w.round v.ruling.phase g.who v.read Can A step_chains.1 (λ _ t. t)
          (λ c y i u. ⊎_elim (λ t. subst (λ (y : ℕ × ℕ). IsPatch s w.name y.0 y.1) (λ z. (sym t.0 z, sym t.2 z)) patch) (λ t. r.names.patch c y i t.1) (back c y i u))
          (λ c p. ⊎_elim (λ t. let f : w.born c ≡ w.born b = ap w.born t.0 in let z = shape.1 in let l = p.3 in absurd (omega arith)) (λ t. (p.0, p.1, t.1, p.3, p.4)) (back c p.0 p.1 p.2))
          (λ c y i l u. ⊎_elim (λ t. let f : w.died c ≡ w.died b = ap w.died t.0 in let z = (r.owned j).died_is b 0 died guard in omega arith) (λ t. r.names.calm c y i l t.1) (back c y i u)) r.names;
      pins = r.pins;
      works = λ i. let k = r.works i in record {
        only = k.only;
        found = k.found;
        known = k.known;
        open_ = k.open_;
        given = λ c y h. let t = (k.given c y h).0 in let e = one in absurd (cc);
      };
      owned = λ i. owned_on s.elements v.ruling.workers v.ruling.workers w.head w.history head' w.history w.born w.died w.name w.row w.born w.died w.name w.row g.stage (update g.stage x (Held j m q)) i (v.owned i)
          (λ z h. (head_back s.elements v.ruling.workers g.stage x j m (Drawn b) q is not_drawn half_is i z h, update_other w.head x z (node (b + 1) 0) (λ (e : z ≡ x). elsewhere i z h e)))
          (λ c h. (block_back s.elements v.ruling.workers g.stage x j m (Drawn b) q is not_drawn half_is i c h, (λ _. refl), refl, λ _. refl))
          (λ z e. let t = some_worker s w n v g r j kind in absurd (omega arith))
          (r.owned i);
      walks = λ i. workers_on s w.name w.name w.head w.history head' w.history w.born w.died w.born w.died g.life life' (λ _ _ _ _ _. refl) w.round v.ruling.phase g.who v.read Can A step_chains.1 (inl (inl refl)) (r.names.fits w.round (inl (inl refl))) (λ e. r.names.fits d (inr (refl, omega (arith, ap order e)))) (v.kind i) i (v.work i) (λ b k h x. (inr (i, k, refl, h), x)) (λ c t y e. ap (λ (l : Life). chained l t) (off c (λ (f : c ≡ b). let z : 0 ≡ y + 1 = sym (ap (λ (l : Life). chained l t) (ap g.life f ∙ shape.0)) ∙ e in omega arith)) ∙ e) (r.walks i);
      goes = λ i. goes_on s w.name w.name w.head w.history head' w.history w.born w.died w.born w.died g.life life' (λ _ _ _ _ _. refl) w.round v.ruling.phase g.who v.read Can A step_chains.1 (λ a p e. (inl (inr (a, e)), r.pins.past a p e)) (λ a p c e h x. (inl (a, e, h), x)) (λ p t. r.names.fits p t) i (r.goes i);
      rules = r.rules;
      stock = let k = r.stock in record { finished = k.finished; cursor_is = k.cursor_is; free_is = k.free_is; left = k.left };
      note = record { rolled_back = λ c h. let t = r.note.rolled_back c h in (t.0, t.1, off c (λ (f : c ≡ b). loose_rolled_back (x + 1) t.0 t.1 (sym shape.0 ∙ ap g.life (sym f) ∙ t.2)) ∙ t.2); all = λ c y k h. dite (ℕ_discrete c b) (λ e. absurd (placed_rolled_back x m y k (sym (update_at g.life b c (Placed x m) e) ∙ h))) (λ o. r.note.all c y k (sym (off c o) ∙ h)); placed = λ c y k h. ⊎_elim (λ e. inl (off c (λ (f : c ≡ b). loose_not (x + 1) y k (sym shape.0 ∙ ap g.life (sym f) ∙ e)) ∙ e)) (λ e. inr (off c (λ (f : c ≡ b). loose_rolled_back (x + 1) y k (sym shape.0 ∙ ap g.life (sym f) ∙ e)) ∙ e)) (r.note.placed c y k h); seen = r.note.seen; quiet = r.note.quiet };
      retired = λ c y i u e. ⊎_elim (λ t. let f : w.died c ≡ w.died b = ap w.died t.0 in let z = (r.owned j).died_is b 0 died guard in absurd (omega arith)) (λ t. r.retired c y i t.1 e) (back c y i u);
      plan = r.plan;
      history = r.history;
      drawn = r.drawn;
      draws = draws_goes v.ruling.phase v.work g.stage x j m (Drawn b) q is (λ _. (refl, ⊎_elim (λ f. ap block_of f) (λ f. ap block_of f.0) how)) r.draws;
      crew = crew_goes s w.round v.ruling.phase v.kind v.work v.work g.stage v.ruling.lone x j m q kind (λ _. refl) r.crew;
      inside = inside_goes s w.free w.row life' g.stage v.ruling.hand v.ruling.retired x j m (Drawn b) j q is (inside_life s w.free w.row g.life life' g.stage v.ruling.hand v.ruling.retired (inside_block s g.life b (Placed x m) in_pool r.inside.blocks) stand_in r.inside);
      named = record {
        heads = λ y c t l e ch. ⊎_elim
            (λ a. dite (ℕ_discrete y x)
            (λ f. let same : c ≡ b = one_more c b (sym e ∙ ap (λ (i : Node). i.block) (update_at w.head x y (node (b + 1) 0) f)) in
            subst (λ (i : ℕ). IsLabel s w.name life' y (w.name (member_of i t))) (sym same) (new_label_on y (w.name (member_of b t)) (own_label t y (sym (ap (λ (l : Life). stands l t) (update_at g.life b c (Placed x m) same)) ∙ chained_stands (life' c) t y ch))))
            (λ o. let e0 = sym (ap (λ (i : Node). i.block) (update_other w.head x y (node (b + 1) 0) o)) ∙ e in new_label_on y (w.name (member_of c t)) (r.named.heads y c t a e0 (old_chain c t y (unnamed y c a e0) ch))))
            (λ k. let z : 0 ≡ c + 1 = sym (ap (λ (i : Node). i.block) k) ∙ e in absurd (omega arith)) (old_place y l);
        histories = λ a c z t u st e ch. dite (ℕ_discrete a b)
            (λ f. let sb : stands (Placed x m) t ≡ z + 1 = sym (ap (λ (l : Life). stands l t) (update_at g.life b a (Placed x m) f)) ∙ st in let o = old t z sb in
            let e0 : (w.head z).block ≡ c + 1 = sym (ap (λ (i : Node). i.block) (ap (λ (i : ℕ). w.history (member_of i t)) f ∙ o.0)) ∙ e in
            label_one s w.name g.life z (w.name (member_of c u)) (w.name (member_of a t)) (r.named.heads z c u o.1 e0 (old_chain c u z (unnamed z c o.1 e0) ch)) (subst (λ (i : ℕ). IsLabel s w.name g.life z (w.name (member_of i t))) (sym f) (own_label t z sb)))
            (λ o. let st0 = sym (ap (λ (l : Life). stands l t) (off a o)) ∙ st in r.named.histories a c z t u st0 e (old_chain c u z (λ f. let k = older_named Can A s.elements w.round w.head w.history w.born w.died g.life r.chains z c (w.born a) (w.history (member_of a t)) (r.chains.histories a t z st0) e in not_chained k.0 z (subst (λ (i : ℕ). chained (g.life i) k.0 ≡ z + 1) f k.1)) ch));
        patch = λ c y k u. dite (ℕ_discrete c b) (λ e. absurd (placed_rolled_back x m y k (sym (update_at g.life b c (Placed x m) e) ∙ u))) (λ o. r.named.patch c y k (sym (off c o) ∙ u));
      };
      once = update_cases (λ _ cs. ListedOnce cs) v.claims j (moved_on (v.claims j) x q) (once_moved (v.claims j) x q (r.once j)) (λ i _. r.once i);
      holders = λ z i c p h. dite (ℕ_discrete z x) (λ f. let t = (held_one j i m c q p (sym (update_at g.stage x z (Held j m q) f) ∙ h)).0 in inr (ap v.kind (sym t) ∙ kind)) (λ o. r.holders z i c p (sym (update_other g.stage x z (Held j m q) o) ∙ h));
      hand = λ c h. let e = r.hand c h in off c (λ (f : c ≡ b). free_loose (x + 1) (sym e ∙ ap g.life f ∙ shape.0)) ∙ e;
      grows = r.grows;
      retireds = retireds_on w.round w.died w.died g.life life' v.work v.work v.ruling.retired v.ruling.retired (λ _ h. h) (λ c y k u _. (off c (λ (f : c ≡ b). loose_not (x + 1) y k (sym shape.0 ∙ ap g.life (sym f) ∙ u)) ∙ u, refl)) r.retireds;
      frees = frees_on s.pool w.cursor w.free w.row w.born w.born g.life life' v.ruling.hand v.ruling.low v.ruling.high (λ c e. sym (off c (λ (f : c ≡ b). free_not x m (sym e ∙ update_at g.life b c (Placed x m) f))) ∙ e) (λ c e. (off c (λ (f : c ≡ b). free_loose (x + 1) (sym e ∙ ap g.life f ∙ shape.0)) ∙ e, λ z. z)) r.frees;
      known = record {
        noted = λ c y k u. ⊎_elim (λ t. inr (subst (λ (i : ℕ × ℕ × ℕ). HasClaim (update g.stage x (Held j m q)) i.0 i.1 i.2) (λ z. (sym t.0 z, sym t.1 z, sym t.2 z)) (j, q, update_same g.stage x (Held j m q), ⊎_elim (λ e. ap block_of e) (λ e. ap block_of e.0) how)))
            (λ t. ⊎_elim inl (λ h. inr (claim_other g.stage x (Held j m q) c y k (λ a p f e. let z : Drawn b ≡ p = (held_one j a m k (Drawn b) p (sym is ∙ f)).2 in t.0 (one_more c b (sym e ∙ sym (ap block_of z)))) h)) (r.known.noted c y k t.1)) (back c y k u);
        rolled_back = λ c y k u. r.known.rolled_back c y k (sym (off c (λ (e : c ≡ b). placed_rolled_back x m y k (sym (update_at g.life b c (Placed x m) e) ∙ u))) ∙ u);
        loose = λ c u e. let o : c ≢ b = λ (f : c ≡ b). loose_not u x m (sym e ∙ update_at g.life b c (Placed x m) f) in draw_other g.stage x (Held j m q) c u (λ a k h. let z : Drawn b ≡ Drawn c = (held_one j a m k (Drawn b) (Drawn c) (sym is ∙ h)).2 in o (one_more c b (sym (ap block_of z)))) (r.known.loose c u (sym (off c o) ∙ e));
      };
      kept = kept_on w.round w.died w.died g.life life' v.ruling.kept (λ c y k u p l. ⊎_elim (λ t. let f : w.died c ≡ w.died b = ap w.died t.0 in let z = (r.owned j).died_is b 0 died guard in absurd (omega arith)) (λ t. (t.1, refl)) (back c y k u)) (λ c y k u p l. (off c (λ (f : c ≡ b). loose_not (x + 1) y k (sym shape.0 ∙ ap g.life (sym f) ∙ u)) ∙ u, refl)) r.kept;
      early = r.early;
    }
      where
        in_pool : b < s.pool
        in_pool = below_pool s w.free w.row g.life g.stage v.ruling.hand v.ruling.retired r.inside b (λ e. free_loose (x + 1) (sym e ∙ shape.0))

        stay : (a : ℕ) (u : Bool) (z : ℕ) → stands (g.life a) u ≡ z + 1 → stands (life' a) u ≡ z + 1
        stay a u z h = ap (λ (l : Life). stands l u) (off a (λ (e : a ≡ b). let y : 0 ≡ z + 1 = sym (ap (λ (l : Life). stands l u) (ap g.life e ∙ shape.0)) ∙ h in omega arith)) ∙ h

        -- the NAME words are the names of the elements at the claim's places
        own_label : (t : Bool) (y : ℕ) → stands (Placed x m) t ≡ y + 1 → IsLabel s w.name g.life y (w.name (member_of b t))
        own_label false y st = subst (λ (i : ℕ × ℕ). IsLabel s w.name g.life i.0 i.1) (λ u. (one_more x y st u, sym first_name u)) (label_of s w n v g r d can x k ((r.works j).found x k place).1)
        own_label true y st = ⊎_elim (λ z. let q : 0 ≡ y + 1 = sym z.0 ∙ st in absurd (omega arith))
            (λ z. subst (λ (i : ℕ × ℕ). IsLabel s w.name g.life i.0 i.1) (λ u. (one_more z.0 y (sym z.2 ∙ st) u, sym ((r.owned j).name_is b true (s.mate k) name1 guard ∙ z.3) u)) (label_of s w n v g r d can z.0 (z.1 + 1) ((r.works j).found z.0 (z.1 + 1) z.4).1)) mate

        stand_in : (c : ℕ) (t : Bool) (y : ℕ) → stands (life' c) t ≡ y + 1 → y < places s
        stand_in c t y st = dite (ℕ_discrete c b)
            (λ e. label_below s w.name w.free w.row g.life g.stage v.ruling.hand v.ruling.retired r.inside y (w.name (member_of b t)) (own_label t y (sym (ap (λ (l : Life). stands l t) (update_at g.life b c (Placed x m) e)) ∙ st)))
            (λ o. r.inside.stand_in c t y (sym (ap (λ (l : Life). stands l t) (off c o)) ∙ st))

        not_chained : (t : Bool) (y : ℕ) → chained (g.life b) t ≡ y + 1 → ⊥
        not_chained t y h = let p = placed (g.life b) t y h in loose_not (x + 1) p.0 p.1 (sym shape.0 ∙ p.2)

        -- no LINK of a place at work named the block
        unnamed : (y c : ℕ) → IsPlace s.elements g.life y → (w.head y).block ≡ c + 1 → c ≡ b → ⊥
        unnamed y c a e f = let k = named Can A s.elements w.round w.head w.history w.born w.died g.life r.chains y c (w.head y) (r.chains.heads y a) e in not_chained k.0 y (subst (λ (i : ℕ). chained (g.life i) k.0 ≡ y + 1) f k.1)

        old_chain : (c : ℕ) (t : Bool) (y : ℕ) → (c ≡ b → ⊥) → chained (life' c) t ≡ y + 1 → chained (g.life c) t ≡ y + 1
        old_chain c t y o ch = ap (λ (l : Life). chained l t) (sym (off c o)) ∙ ch

        -- a place at work now was one before, or is of a child of the block, whose LINK names nothing
        old_place : (y : ℕ) → IsPlace s.elements life' y → IsPlace s.elements g.life y ⊎ (head' y ≡ node 0 0)
        old_place y (inl l) = inl (inl l)
        old_place y (inr k) = dite (ℕ_discrete k.0 b)
            (λ e. inr (update_other w.head x y (node (b + 1) 0) (λ f. not_kid s.elements g.life x b (x + 1) k.1 k.2 (live x (inl refl)) shape.0 (sym f ∙ k.4 ∙ ap (λ (i : ℕ). child_place s.elements i k.1 k.2) e)) ∙ ap w.head (k.4 ∙ ap (λ (i : ℕ). child_place s.elements i k.1 k.2) e) ∙ (r.owned j).head_is (child_place s.elements b k.1 k.2) (node 0 0) (kids k.1 k.2) (inr (x, m, b, inl (is, inr (inr (k.1, k.2, refl)))))))
            (λ o. inl (inr (k.0, k.1, k.2, k.3, k.4, ap (λ (l : Life). stands l false) (sym (off k.0 o)) ∙ k.5)))

        new_label_on : (y k : ℕ) → IsLabel s w.name g.life y k → IsLabel s w.name life' y k
        new_label_on = label_on s w.name w.name g.life life' (λ a u z h. (stay a u z h, refl))

        new_half : Shape w.round (update w.head x (node (b + 1) 0)) w.born (update g.life b (Placed x m)) x m (Half b)
        new_half = (update_same g.life b (Placed x m), shape.1, update_same w.head x (node (b + 1) 0), λ y f h. no_second y f (sym (ap (λ (l : Node). l.block) (update_other w.head x y (node (b + 1) 0) (λ (e : y ≡ x). apart (f ∙ ap (λ (t : ℕ). t + 1) e)))) ∙ h))
          where
            no_second : (y : ℕ) → m ≡ y + 1 → (w.head y).block ≡ b + 1 → ⊥
            no_second y f e = let t = named Can A s.elements w.round w.head w.history w.born w.died g.life r.chains y b (w.head y) (r.chains.heads y (live y (inr f))) e in let p = placed (g.life b) t.0 y t.1 in loose_not (x + 1) p.0 p.1 (sym shape.0 ∙ p.2)

        new_label : Label s w n v g r x m q
        new_label = let same = name_one s w n v g r d x k label.0 ((r.works j).found x k place).1 label.2 in
            (label.0, label.1, label.2, label.3, (λ c h. let e : c ≡ b = one_more c b (sym h ∙ ⊎_elim (λ f. ap linked f) (λ f. ap linked f.0) how) in ap (λ (i : ℕ). w.name (member_of i false)) e ∙ first_name ∙ same), label.5, label.6)

        not_drawn : (c : ℕ) → q ≡ Drawn c → ⊥
        not_drawn c e = ⊎_elim (λ f. clash1 (sym f ∙ e)) (λ f. clash2 (sym f.0 ∙ e)) how
          where
            clash1 : Half b ≡ Drawn c → ⊥
            clash1 e = cc

            clash2 : Whole b ≡ Drawn c → ⊥
            clash2 e = cc

        half_is : (c : ℕ) → q ≡ Half c → Drawn b ≡ Drawn c
        half_is c e = ⊎_elim (λ f. ap Drawn (inside (sym f ∙ e))) (λ f. absurd (clash (sym f.0 ∙ e))) how
          where
            inside : Half b ≡ Half c → b ≡ c
            inside e = cc

            clash : Whole b ≡ Half c → ⊥
            clash e = cc

        -- nobody guards the first member's head any more
        elsewhere : (i z : ℕ) → GuardsHead s.elements v.ruling.workers (update g.stage x (Held j m q)) i z → z ≡ x → ⊥
        elsewhere i z (inl o) e = let t = some_worker s w n v g r j kind in let u = o.1 in omega arith
        elsewhere i z (inr t) e = ⊎_elim (λ h. dite (ℕ_discrete t.0 x)
            (λ f. not_drawn t.2 (held_one j i m t.1 q (Drawn t.2) (sym (update_at g.stage x t.0 (Held j m q) f) ∙ h.0)).2)
            (λ o. let st = sym (update_other g.stage x t.0 (Held j m q) o) ∙ h.0 in ⊎_elim (λ u. o (own_place s w n v g r x j m (Drawn b) is x (inl refl) t.0 i t.1 (Drawn t.2) st (inl (sym e ∙ u)))) (λ u. ⊎_elim
            (λ u. o (own_place s w n v g r x j m (Drawn b) is x (inl refl) t.0 i t.1 (Drawn t.2) st (inr (u ∙ ap (λ (y : ℕ). y + 1) e)))) (λ u. not_kid s.elements g.life x t.2 (t.0 + 1) u.0 u.1 (live x (inl refl)) (r.claims.shape t.0 i t.1 (Drawn t.2) st).0 (sym e ∙ u.2)) u) h.1))
            (λ h. dite (ℕ_discrete t.0 x)
            (λ f. let u = held_one j i m t.1 q (Half t.2) (sym (update_at g.stage x t.0 (Held j m q) f) ∙ h.0) in apart (u.1 ∙ h.1 ∙ ap (λ (y : ℕ). y + 1) e))
            (λ o. o (own_place s w n v g r x j m (Drawn b) is x (inl refl) t.0 i t.1 (Half t.2) (sym (update_other g.stage x t.0 (Held j m q) o) ∙ h.0) (inr (h.1 ∙ ap (λ (y : ℕ). y + 1) e)))))
            t.3
