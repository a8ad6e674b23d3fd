-- The second member is linked.
use Rattle.std.proofs.Common.{◌≡◌, ◌≢◌, ℕ, ◌+◌, true, ◌∷◌, refl, sym, ap, ◌∙◌, subst, inl, inr, ⊎_elim, arith}
use mathlib.Core.Logic.{dite}
use native.Mathlib.Decide.{ℕ_discrete}
use Rattle.table_words.specs.Setup.{Setup}
use Rattle.table_words.specs.Functions.{update}
use Rattle.table_words.specs.Words.{Words, Node, node}
use Rattle.table_words.specs.Views.{Views, Worker, FirstHalf, order}
use Rattle.table_words.specs.Claims.{Progress, Drawn, Half, Whole, claim, moved_on}
use Rattle.table_words.specs.Places.{member_of}
use Rattle.table_words.specs.Entries.{HasEntry, Noted}
use Rattle.table_words.proofs.Functions.{update_at, update_other, update_cases}
use Rattle.table_state.specs.Ghosts.{Held, Life, Placed, chained, Ghost}
use Rattle.table_state.specs.Chains.{Finds, IsPlace}
use Rattle.table_state.specs.Bisections.{IsPlaceOf, MayRead}
use Rattle.table_state.specs.Owned.{GuardsHead}
use Rattle.table_state.proofs.Lists.{crew_goes}
use Rattle.table_state.proofs.Lists.{draws_goes}
use Rattle.table_state.specs.Rule.{Rule}
use Rattle.table_state.specs.Inside.{IsLabel, ListedOnce}
use Rattle.table_state.proofs.Inside.{inside_goes, label_of, once_moved}
use Rattle.table_state.proofs.FoundAgain.{one_more, chained_stands, seen_live, names_on, goes_on, workers_on, Moves}
use Rattle.table_state.proofs.ChainSteps.{moves_head, chains_head}
use Rattle.table_steps.proofs.BlockSteps.{undead}
use Rattle.table_state.proofs.HeldClaims.{not_open, held_one, placed_one, free_not, loose_not, uses, used_life, shape_on, one_user, heads_apart}
use Rattle.table_state.proofs.Across.{Went, some_worker, first_half}
use Rattle.table_steps.proofs.OwnedWords.{owned_on, block_back, head_back, not_kid}
use Rattle.table_steps.proofs.Publishing.{Label, member, linked_member, own_place}
use Rattle.table_state.proofs.HeldClaims as held
use Rattle.table_state.proofs.Known.{known_goes}

module _ (s : Setup) (w : Words) (n : ℕ) (v : Views) (g : Ghost) (r : Rule s w n v g) where
  abbrev d : ℕ
  d = w.round + 1

  abbrev A : ℕ → ℕ → Type 0
  A = Went w.round w.died v.kind v.work v.read

  abbrev Can : ℕ → Type 0
  Can q = MayRead w.round v.ruling.phase v.read q

  -- the second member's head names the block too: its history word has what the head had
  module _ (j x y b : ℕ) (l : Node) (mine : HasEntry (v.claims j) (claim x (y + 1) (Half b))) (kind : v.kind j ≡ Worker) (f1 : Noted (v.owned j).head y l) (f2 : Noted (v.owned j).history (member_of b true) l) where
    is : g.stage x ≡ Held j (y + 1) (Half b)
    is = r.claims.held j x (y + 1) (Half b) mine

    one : v.ruling.phase ≡ FirstHalf
    one = first_half s w n v g r j x (y + 1) (Half b) kind is (λ h. h)

    shape : (g.life b ≡ Placed x (y + 1)) × (w.born b ≡ 0) × (w.head x ≡ node (b + 1) 0) × ((z : ℕ) → y + 1 ≡ z + 1 → (w.head z).block ≡ b + 1 → ⊥)
    shape = r.claims.shape x j (y + 1) (Half b) is

    apart : x ≢ y
    apart e = not_open j (y + 1) (Half b) (sym is ∙ ap g.stage e ∙ (r.claims.mates x j y (Half b) is).0)

    same : w.history (member_of b true) ≡ w.head y
    same = (r.owned j).history_is b true l f2 (inr (x, y + 1, inr is)) ∙ sym ((r.owned j).head_is y l f1 (inr (x, y + 1, b, inr (is, refl))))

    at : chained (g.life b) true ≡ y + 1
    at = ap (λ (i : Life). chained i true) shape.0

    abbrev head' : ℕ → Node
    head' = update w.head y (node (b + 1) 0)

    live : IsPlace s.elements g.life y
    live = let e = one in let lab = r.labels x j (y + 1) (Half b) is one in let t = member s w n v g r x (y + 1) (Half b) lab y (inr refl) in
        live_at t.0 t.1
      where
        live_at : (k : ℕ) → IsPlaceOf s w.name (g.who d) y k → IsPlace s.elements g.life y
        live_at k h = seen_live s w.name w.name w.head w.history w.head w.history w.born w.died w.born w.died g.life g.life (λ _ _ _ _ _. refl) (g.who d) d y k (r.names.fits d (inr (refl, let e = one in omega (arith, ap order one)))) h

    moves : Moves Can A s.elements w.round w.head w.history head' w.history w.born w.died w.born w.died g.life g.life
    moves = moves_head Can A s.elements w.round w.head w.history w.born w.died g.life y (node (b + 1) 0)
        (λ q c k h. ((b, true) ∷ h.0, (refl, chained_stands (g.life b) true y at, inr (subst (λ (i : Node). Finds w.history w.born w.died g.life q y c i h.0) (sym same) h.1))))

    pub links_second : Rule s (record w { head = head' }) n (record v { claims = update v.claims j (moved_on (v.claims j) x (Whole b)) }) (record g { stage = update g.stage x (Held j (y + 1) (Whole b)) })
    links_second = record {
      names_apart = r.names_apart;
      claims = held.goes s w.round w.cursor w.free v.ruling.phase w.row w.claimed w.head w.born g.life g.stage v.claims r.claims x j (y + 1) (Half b) (Whole b) is refl (λ e. let t = one in absurd (cc)) head' w.born g.life
          (shape.0, shape.1, update_other w.head y x (node (b + 1) 0) apart ∙ shape.2, λ z e. update_at w.head y z (node (b + 1) 0) (one_more z y (sym e)))
          (λ z i k p h ne t. let a = heads_apart s w.round w.cursor w.free v.ruling.phase w.row w.claimed w.head w.born g.life g.stage v.claims r.claims x z j i (y + 1) k (Half b) p is h ne y (inr refl) in
          shape_on w.round w.head w.born g.life z k head' w.born g.life p (λ _ _. (refl, refl)) (update_other w.head y z (node (b + 1) 0) (λ e. a.0 (sym e))) (λ c e. update_other w.head y c (node (b + 1) 0) (a.1 c e)) t)
          (λ c z k u e o. inr (u, e, λ (h : b + 1 ≡ c + 1). let f : w.born c ≡ w.born b = ap w.born (one_more c b (sym h)) in let q = shape.1 in omega arith))
          (λ c z k u e. dite (ℕ_discrete c b) (λ f. let t = placed_one z k x (y + 1) (sym u ∙ ap g.life f ∙ shape.0) in inl (t.0, t.1, inr (ap Whole (sym f)))) (λ o. inr (u, e, λ (h : b + 1 ≡ c + 1). o (omega arith))))
          (λ c u e. (u, e));
      labels = λ z i c p h e. dite (ℕ_discrete z x)
          (λ f. let t = held_one j i (y + 1) c (Whole b) p (sym (update_at g.stage x z (Held j (y + 1) (Whole b)) f) ∙ h) in subst (λ (y : ℕ × ℕ × Progress). Label s w n v g r y.0 y.1 y.2) (λ i. (sym f i, t.1 i, t.2 i)) (r.labels x j (y + 1) (Half b) is one))
          (λ o. r.labels z i c p (sym (update_other g.stage x z (Held j (y + 1) (Whole b)) o) ∙ h) e);
      chains = chains_head Can A s.elements w.round w.head w.history w.born w.died g.life r.chains y (node (b + 1) 0) (inr (b, true, refl, at, (λ e. absurd (omega arith)), λ _. inl (undead Can A s.elements w.round w.head w.history w.born w.died g.life r.chains b x (y + 1) shape.0 shape.1)));
      names = names_on s w.name w.name w.head w.history head' w.history w.born w.died w.born w.died g.life g.life (λ _ _ _ _ _. refl) w.round v.ruling.phase g.who v.read Can A moves (λ _ t. t) r.names.patch (λ _ p. p) r.names.calm r.names;
      pins = r.pins;
      works = r.works;
      owned = λ i. owned_on s.elements v.ruling.workers v.ruling.workers w.head w.history head' w.history w.born w.died w.name w.row w.born w.died w.name w.row g.stage (update g.stage x (Held j (y + 1) (Whole b))) i (v.owned i)
          (λ z h. (head_back s.elements v.ruling.workers g.stage x j (y + 1) (Half b) (Whole b) is (λ c e. absurd (not_drawn c e)) (λ c e. absurd (not_half c e)) i z h, update_other w.head y z (node (b + 1) 0) (λ e. elsewhere i z h e)))
          (λ c h. (block_back s.elements v.ruling.workers g.stage x j (y + 1) (Half b) (Whole b) is (λ c e. absurd (not_drawn c e)) (λ c e. absurd (not_half c e)) i c h, (λ _. refl), refl, λ _. refl))
          (λ z e. let t = some_worker s w n v g r j kind in absurd (omega arith))
          (r.owned i);
      walks = λ i. workers_on s w.name w.name w.head w.history head' w.history w.born w.died w.born w.died g.life g.life (λ _ _ _ _ _. refl) w.round v.ruling.phase g.who v.read Can A moves (inl (inl refl)) (r.names.fits w.round (inl (inl refl))) (λ e. r.names.fits d (inr (refl, omega (arith, ap order e)))) (v.kind i) i (v.work i) (λ b k h x. (inr (i, k, refl, h), x)) (λ _ _ _ e. e) (r.walks i);
      goes = λ i. goes_on s w.name w.name w.head w.history head' w.history w.born w.died w.born w.died g.life g.life (λ _ _ _ _ _. refl) w.round v.ruling.phase g.who v.read Can A moves (λ a p e. (inl (inr (a, e)), r.pins.past a p e)) (λ a p c e h x. (inl (a, e, h), x)) (λ p t. r.names.fits p t) i (r.goes i);
      rules = r.rules;
      stock = r.stock;
      note = r.note;
      retired = r.retired;
      plan = r.plan;
      history = r.history;
      drawn = r.drawn;
      draws = draws_goes v.ruling.phase v.work g.stage x j (y + 1) (Half b) (Whole b) is (λ _. (refl, refl)) r.draws;
      crew = crew_goes s w.round v.ruling.phase v.kind v.work v.work g.stage v.ruling.lone x j (y + 1) (Whole b) kind (λ _. refl) r.crew;
      inside = inside_goes s w.free w.row g.life g.stage v.ruling.hand v.ruling.retired x j (y + 1) (Half b) j (Whole b) is r.inside;
      named = record {
        heads = λ z c t l e ch. dite (ℕ_discrete z y)
            (λ f. let same : c ≡ b = one_more c b (sym e ∙ ap (λ (i : Node). i.block) (update_at w.head y z (node (b + 1) 0) f)) in
            let cb : chained (Placed x (y + 1)) t ≡ y + 1 = sym (ap (λ (i : Life). chained i t) (ap g.life same ∙ shape.0)) ∙ ch ∙ ap (λ (i : ℕ). i + 1) f in
            let at_y = label_of s w n v g r d (inr (refl, let z = one in omega (arith, ap order z))) y (w.name (member_of b t)) (linked_member s w n v g r x (y + 1) b (Half b) (r.labels x j (y + 1) (Half b) is one) refl (r.names.patch b x (y + 1) shape.0) t y cb).0 in
            subst (λ (i : ℕ × ℕ). IsLabel s w.name g.life i.0 (w.name (member_of i.1 t))) (λ i. (sym f i, sym same i)) at_y)
            (λ o. r.named.heads z c t l (sym (ap (λ (i : Node). i.block) (update_other w.head y z (node (b + 1) 0) o)) ∙ e) ch);
        histories = r.named.histories;
        patch = r.named.patch;
      };
      once = update_cases (λ _ cs. ListedOnce cs) v.claims j (moved_on (v.claims j) x (Whole b)) (once_moved (v.claims j) x (Whole b) (r.once j)) (λ i _. r.once i);
      holders = λ z i c p h. dite (ℕ_discrete z x) (λ f. let t = (held_one j i (y + 1) c (Whole b) p (sym (update_at g.stage x z (Held j (y + 1) (Whole b)) f) ∙ h)).0 in inr (ap v.kind (sym t) ∙ kind)) (λ o. r.holders z i c p (sym (update_other g.stage x z (Held j (y + 1) (Whole b)) o) ∙ h));
      hand = r.hand;
      grows = r.grows;
      retireds = r.retireds;
      frees = r.frees;
      known = known_goes g.life g.stage v.ruling.placed x j (y + 1) j (Half b) (Whole b) is refl (λ c e. half_not c e) r.known;
      kept = r.kept;
      early = r.early;
    }
      where
        half_not : (c : ℕ) → Half b ≡ Drawn c → ⊥
        half_not c e = cc

        not_drawn : (c : ℕ) → Whole b ≡ Drawn c → ⊥
        not_drawn c e = cc

        not_half : (c : ℕ) → Whole b ≡ Half c → ⊥
        not_half c e = cc

        elsewhere : (i z : ℕ) → GuardsHead s.elements v.ruling.workers (update g.stage x (Held j (y + 1) (Whole b))) i z → z ≡ y → ⊥
        elsewhere i z (inl o) e = let t = some_worker s w n v g r j kind in let u = o.1 in omega arith
        elsewhere i z (inr t) e = ⊎_elim (λ h. dite (ℕ_discrete t.0 x)
            (λ f. not_drawn t.2 (held_one j i (y + 1) t.1 (Whole b) (Drawn t.2) (sym (update_at g.stage x t.0 (Held j (y + 1) (Whole b)) f) ∙ h.0)).2)
            (λ o. let st = sym (update_other g.stage x t.0 (Held j (y + 1) (Whole b)) o) ∙ h.0 in ⊎_elim (λ u. o (own_place s w n v g r x j (y + 1) (Half b) is y (inr refl) t.0 i t.1 (Drawn t.2) st (inl (sym e ∙ u)))) (λ u. ⊎_elim
            (λ u. o (own_place s w n v g r x j (y + 1) (Half b) is y (inr refl) t.0 i t.1 (Drawn t.2) st (inr (u ∙ ap (λ (c : ℕ). c + 1) e)))) (λ u. not_kid s.elements g.life y t.2 (t.0 + 1) u.0 u.1 live (r.claims.shape t.0 i t.1 (Drawn t.2) st).0 (sym e ∙ u.2)) u) h.1))
            (λ h. dite (ℕ_discrete t.0 x)
            (λ f. not_half t.2 (held_one j i (y + 1) t.1 (Whole b) (Half t.2) (sym (update_at g.stage x t.0 (Held j (y + 1) (Whole b)) f) ∙ h.0)).2)
            (λ o. o (own_place s w n v g r x j (y + 1) (Half b) is y (inr refl) t.0 i t.1 (Half t.2) (sym (update_other g.stage x t.0 (Held j (y + 1) (Whole b)) o) ∙ h.0) (inr (h.1 ∙ ap (λ (c : ℕ). c + 1) e)))))
            t.3
