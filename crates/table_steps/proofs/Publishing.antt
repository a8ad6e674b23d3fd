-- Linking and publishing keep the rule.
use Rattle.std.proofs.Common.{◌≡◌, ◌≢◌, ℕ, ◌+◌, Bool, true, false, List, ◌⊎◌, refl, sym, ap, ◌∙◌, subst, inl, inr, ⊎_elim, arith}
use mathlib.Core.Logic.{dite}
use native.Mathlib.Decide.{ℕ_discrete}
use Rattle.table_words.specs.Setup.{Setup}
use Rattle.table_words.specs.Functions.{update}
use Rattle.table_words.specs.Words.{Words, Node}
use Rattle.table_words.specs.Views.{Views, Worker, FirstHalf, order}
use Rattle.table_words.specs.Claims.{Progress, Drawn, Half, Whole, Living, claim, moved_on}
use Rattle.table_words.specs.Places.{member_of}
use Rattle.table_words.specs.Entries.{HasEntry}
use Rattle.table_words.proofs.Functions.{update_same, update_at, update_other, update_cases}
use Rattle.table_state.specs.Ghosts.{Stage, Held, Life, Placed, chained, Ghost}
use Rattle.table_state.specs.Chains.{ChainsRule}
use Rattle.table_state.specs.Claims.{Shape, linked}
use Rattle.table_state.specs.Bisections.{IsPlaceOf, IsKept, IsPatch}
use Rattle.table_state.specs.Work.{WorkRule, WalkRule}
use Rattle.table_state.specs.Lists.{Holds}
use Rattle.table_state.proofs.Lists.{crew_goes, number_kept, plan_update, target_on, history_who, drawn_update}
use Rattle.table_state.proofs.Lists.{draws_goes, draws_update}
use Rattle.table_state.specs.Rule.{Rule}
use Rattle.table_state.specs.Inside.{ListedOnce}
use Rattle.table_state.proofs.Inside.{inside_goes, once_moved}
use Rattle.table_state.proofs.FoundAgain.{one_more, goes_on, goes_who, workers_on, workers_who, Moves}
use Rattle.table_steps.proofs.BlockSteps.{undead, bears}
use Rattle.table_state.proofs.HeldClaims.{not_open, held_one, free_not, placed_one, shape_on, one_user, goes}
use Rattle.table_state.proofs.Across.{Went, is_living, Of, name_one, chained_of, low, some_worker, first_half, unmet}
use Rattle.table_steps.proofs.OwnedWords.{retired_on, owned_on, block_back, head_back}
use Rattle.table_state.proofs.Bisections as rounds
use Rattle.table_state.proofs.Known.{frees_on, known_goes, retireds_work, grows_off}
use Rattle.table_state.specs.Work.{GrownRule}

module _ (s : Setup) (w : Words) (n : ℕ) (v : Views) (g : Ghost) (r : Rule s w n v g) where
  abbrev d : ℕ
  d = w.round + 1

  abbrev pub A : ℕ → ℕ → Type 0
  A = Went w.round w.died v.kind v.work v.read

  -- the label of a claim, in the first half
  abbrev pub Label : ℕ → ℕ → Progress → Type 0
  Label x m p = (k : ℕ) × (s.leads k ≡ true) × IsPlaceOf s w.name (g.who d) x k × (g.who w.round k ≡ 0) × ((b : ℕ) → linked p ≡ b + 1 → w.name (member_of b false) ≡ k)
      × ((m ≡ 0) × (s.mate k ≡ 0) ⊎ (y : ℕ) × (i : ℕ) × (m ≡ y + 1) × (s.mate k ≡ i + 1) × IsPlaceOf s w.name (g.who d) y (i + 1) × (g.who w.round (i + 1) ≡ 0)) × HasEntry v.ruling.plan.target k

  -- a member's place of a claim, and its name
  pub member : (x m : ℕ) (p : Progress) → Label x m p → (y : ℕ) → Of x m y → (k : ℕ) × IsPlaceOf s w.name (g.who d) y k × (g.who w.round k ≡ 0)
  member x m p l y (inl e) = (l.0, subst (λ (z : ℕ). IsPlaceOf s w.name (g.who d) z l.0) (sym e) l.2, l.3)
  member x m p l y (inr e) = ⊎_elim
      (λ z. let q : 0 ≡ y + 1 = sym z.0 ∙ e in absurd (omega arith))
      (λ z. let same : z.0 ≡ y = one_more z.0 y (sym z.2 ∙ e) in (z.1 + 1, subst (λ (i : ℕ). IsPlaceOf s w.name (g.who d) i (z.1 + 1)) same z.4, z.5))
      l.5

  -- of a block that is linked the names are the members'
  pub linked_member : (x m b : ℕ) (p : Progress) → Label x m p → linked p ≡ b + 1 → IsPatch s w.name b m → (t : Bool) (y : ℕ) → chained (Placed x m) t ≡ y + 1 → IsPlaceOf s w.name (g.who d) y (w.name (member_of b t)) × (g.who w.round (w.name (member_of b t)) ≡ 0)
  linked_member x m b p l h a false y c = let e : x ≡ y = one_more x y c in let f = l.4 b h in (subst (λ (i : ℕ × ℕ). IsPlaceOf s w.name (g.who d) i.0 i.1) (λ t. (e t, sym f t)) l.2, ap (g.who w.round) f ∙ l.3)
  linked_member x m b p l h a true y c = ⊎_elim
      (λ z. let q : 0 ≡ y + 1 = sym z.0 ∙ c in absurd (omega arith))
      (λ z. let e : z.0 ≡ y = one_more z.0 y (sym z.2 ∙ c) in let f : w.name (member_of b true) ≡ z.1 + 1 = a.1 ∙ ap s.mate (l.4 b h) ∙ z.3 in (subst (λ (i : ℕ × ℕ). IsPlaceOf s w.name (g.who d) i.0 i.1) (λ t. (e t, sym f t)) z.4, ap (g.who w.round) f ∙ z.5))
      l.5

  -- no other claim has a place of this one's
  pub own_place : (x j m : ℕ) (p : Progress) → g.stage x ≡ Held j m p → (y : ℕ) → Of x m y → (z i k : ℕ) (q : Progress) → g.stage z ≡ Held i k q → Of z k y → z ≡ x
  own_place x j m p is y (inl e) z i k q h (inl f) = sym f ∙ e
  own_place x j m p is y (inl e) z i k q h (inr f) = absurd (not_open j m p (sym is ∙ ap g.stage (sym e) ∙ (r.claims.mates z i y q (h ∙ ap (λ (t : ℕ). Held i t q) f)).0))
  own_place x j m p is y (inr e) z i k q h (inl f) = absurd (not_open i k q (sym h ∙ ap g.stage (sym f) ∙ (r.claims.mates x j y p (is ∙ ap (λ (t : ℕ). Held j t p) e)).0))
  own_place x j m p is y (inr e) z i k q h (inr f) = (r.claims.mates x j y p (is ∙ ap (λ (t : ℕ). Held j t p) e)).1 z i q (h ∙ ap (λ (t : ℕ). Held i t q) f)

  -- a member of a claim that has no living block is not bisected
  pub unmet_member : (x j m : ℕ) (p : Progress) → g.stage x ≡ Held j m p → (is_living p → ⊥) → v.ruling.phase ≡ FirstHalf → (y k : ℕ) → Of x m y → IsPlaceOf s w.name (g.who d) y k → g.who w.round k ≡ 0 → g.who d k ≡ 0
  unmet_member x j m p is not one y k of seen old = unmet s w n v g r one y k seen old (λ z i c a h o. let e = own_place x j m p is y of z i c (Living a) h o in
      not (subst is_living (sym (held_one j i m c p (Living a) (sym is ∙ ap g.stage (sym e) ∙ h)).2) tt))

  -- publish: the block of the claim is born in the round
  module _ (j x m b : ℕ) (mine : HasEntry (v.claims j) (claim x m (Whole b))) (kind : v.kind j ≡ Worker) where
    is : g.stage x ≡ Held j m (Whole b)
    is = r.claims.held j x m (Whole b) mine

    one : v.ruling.phase ≡ FirstHalf
    one = first_half s w n v g r j x m (Whole b) kind is (λ h. h)

    shape : Shape w.round w.head w.born g.life x m (Whole b)
    shape = r.claims.shape x j m (Whole b) is

    at : g.life b ≡ Placed x m
    at = shape.0

    live : w.died b ≡ 0
    live = undead (IsKept w.round v.read) A s.elements w.round w.head w.history w.born w.died g.life r.chains b x m at shape.1

    label : Label x m (Whole b)
    label = r.labels x j m (Whole b) is one

    abbrev born' : ℕ → ℕ
    born' = update w.born b d

    other_born : (c : ℕ) → c ≢ b → born' c ≡ w.born c
    other_born c o = update_other w.born b c d o

    chain_of : (t : Bool) (y : ℕ) → chained (g.life b) t ≡ y + 1 → chained (Placed x m) t ≡ y + 1
    chain_of t y c = sym (ap (λ (l : Life). chained l t) at) ∙ c

    seen : (t : Bool) (y : ℕ) → chained (g.life b) t ≡ y + 1 → IsPlaceOf s w.name (g.who d) y (w.name (member_of b t))
    seen t y c = (linked_member x m b (Whole b) label refl (r.names.patch b x m at) t y (chain_of t y c)).0

    un : (t : Bool) (y : ℕ) → chained (g.life b) t ≡ y + 1 → g.who d (w.name (member_of b t)) ≡ 0
    un t y c = let l = linked_member x m b (Whole b) label refl (r.names.patch b x m at) t y (chain_of t y c) in unmet_member x j m (Whole b) is (λ h. h) one y (w.name (member_of b t)) (chained_of (g.life b) t x m y at c) l.0 l.1

    linked_ : (t : Bool) (y : ℕ) → chained (g.life b) t ≡ y + 1 → (w.head y).block ≡ b + 1
    linked_ t y c = ⊎_elim (λ e. ap (λ (z : ℕ). (w.head z).block) e ∙ ap (λ (l : Node). l.block) shape.2) (λ e. ap (λ (l : Node). l.block) (shape.3 y e)) (chained_of (g.life b) t x m y at c)

    step_chains : ChainsRule s.elements w.round w.head w.history born' w.died g.life × Moves (IsKept w.round v.read) A s.elements w.round w.head w.history w.head w.history w.born w.died born' w.died g.life g.life
    step_chains = bears (IsKept w.round v.read) A s.elements w.round w.head w.history w.born w.died g.life r.chains b x m at shape.1 (low s w n v g r)

    abbrev now : ℕ → ℕ
    now = rounds.marks m (w.name (member_of b false)) (w.name (member_of b true)) (b + 1) (g.who d)

    abbrev who' : ℕ → ℕ → ℕ
    who' = update g.who d now

    stays : (k a : ℕ) → g.who d k ≡ a + 1 → now k ≡ a + 1
    stays = rounds.stays s r.names_apart w.round v.ruling.phase w.name w.head w.history w.born w.died g.life g.who v.read r.names (low s w n v g r) b x m at shape.1 one un seen linked_ live

    seen_stays : (y k : ℕ) → IsPlaceOf s w.name (g.who d) y k → IsPlaceOf s w.name now y k
    seen_stays = rounds.seen_stays s r.names_apart w.round v.ruling.phase w.name w.head w.history w.born w.died g.life g.who v.read r.names (low s w n v g r) b x m at shape.1 one un seen linked_ live

    here : (y k : ℕ) → IsPlaceOf s w.name now y k → IsPlaceOf s w.name (who' d) y k
    here y k h = subst (λ (f : ℕ → ℕ). IsPlaceOf s w.name f y k) (sym (update_same g.who d now)) h

    old_round : (k : ℕ) → who' w.round k ≡ g.who w.round k
    old_round k = ap (λ (f : ℕ → ℕ). f k) (update_other g.who d w.round now (λ (e : w.round ≡ w.round + 1). omega arith))

    abbrev stage' : ℕ → Stage
    stage' = update g.stage x (Held j m (Living b))

    published : (known : List ℕ) → ((k : ℕ) → HasEntry known k → HasEntry (v.work j).known k ⊎ ((t : Bool) × (y : ℕ) × (chained (Placed x m) t ≡ y + 1) × (k ≡ w.name (member_of b t))))
        → Rule s (record w { born = born' }) n (record v { claims = update v.claims j (moved_on (v.claims j) x (Living b)); work = update v.work j (record (v.work j) { known = known }) }) (record g { stage = stage'; who = who' })
    published known right = record {
      names_apart = r.names_apart;
      claims = goes s w.round w.cursor w.free v.ruling.phase w.row w.claimed w.head w.born g.life g.stage v.claims r.claims x j m (Whole b) (Living b) is refl (λ _. (b, refl)) w.head born' g.life
          (at, update_same w.born b d, shape.2, shape.3)
          (λ z i k q h ne sh. shape_on w.round w.head w.born g.life z k w.head born' g.life q (λ c u. (refl, other_born c (λ (e : c ≡ b). ne (one_user s w.round w.cursor w.free v.ruling.phase w.row w.claimed w.head w.born g.life g.stage v.claims r.claims z x i j k m b q (Whole b) h is (u ∙ ap (λ (t : ℕ). t + 1) e) refl)))) refl (λ _ _. refl) sh)
          (λ c y k u e l. dite (ℕ_discrete c b) (λ f. let t = placed_one y k x m (sym u ∙ ap g.life f ∙ at) in inl (t.0, t.1, ap Living (sym f))) (λ o. inr (u, sym (other_born c o) ∙ e, λ (h : b + 1 ≡ c + 1). o (omega arith))))
          (λ c y k u e. dite (ℕ_discrete c b) (λ f. let t : born' c ≡ d = update_at w.born b c d f in absurd (omega arith)) (λ o. inr (u, sym (other_born c o) ∙ e, λ (h : b + 1 ≡ c + 1). o (omega arith))))
          (λ c u e. dite (ℕ_discrete c b) (λ f. absurd (free_not x m (sym u ∙ ap g.life f ∙ at))) (λ o. (u, other_born c o ∙ e)));
      labels = λ z i k q h e. dite (ℕ_discrete z x)
          (λ f. let t = held_one j i m k (Living b) q (sym (update_at g.stage x z (Held j m (Living b)) f) ∙ h) in relabel z k q (subst (λ (y : ℕ × ℕ × Progress). Label y.0 y.1 y.2) (λ i. (sym f i, t.1 i, t.2 i)) label))
          (λ o. relabel z k q (r.labels z i k q (sym (update_other g.stage x z (Held j m (Living b)) o) ∙ h) e));
      chains = step_chains.0;
      names = rounds.names_publish s r.names_apart w.round v.ruling.phase w.name w.head w.history w.born w.died g.life g.who v.read r.names (low s w n v g r) b x m at shape.1 one un seen linked_ live A step_chains.1 r.chains.borns;
      pins = r.pins;
      works = update_cases (λ i u. WorkRule s w.round v.ruling.phase w.name born' w.died g.life (who' d) (v.kind i) i u) v.work j (record (v.work j) { known = known })
          record {
            only = λ a. absurd (a kind);
            found = λ y k h. let t = (r.works j).found y k h in (t.0, here y k (seen_stays y k t.1));
            known = λ k h. (one, ⊎_elim (λ t. let u = ((r.works j).known k t).1 in (u.0, now_is k u.0 (stays k u.0 u.1))) (λ t. (b, now_is k b (ap now t.3 ∙ at_member t.0 t.1 t.2))) (right k h));
            open_ = λ k h. let t = ((r.works j).open_ k h).0 in let e = one in absurd (cc);
            given = λ c i h. let t = ((r.works j).given c i h).0 in let e = one in absurd (cc);
          }
          (λ i _. record {
            only = (r.works i).only;
            found = λ y k h. let t = (r.works i).found y k h in (t.0, here y k (seen_stays y k t.1));
            known = λ k h. let t = (r.works i).known k h in (t.0, (t.1.0, now_is k t.1.0 (stays k t.1.0 t.1.1)));
            open_ = λ k h. let t = ((r.works i).open_ k h).0 in let e = one in absurd (cc);
            given = λ c k h. let t = ((r.works i).given c k h).0 in let e = one in absurd (cc);
          });
      walks = update_cases (λ i u. WalkRule s w.round v.ruling.phase w.name w.history born' w.died g.life who' (v.kind i) i u) v.work j (record (v.work j) { known = known }) (let u = walker j in record { still = u.still; only = u.only; half = u.half; at_work = u.at_work; retired_in = u.retired_in; absent = u.absent; stood = u.stood; had = u.had; went = u.went; walk = u.walk; sided = u.sided }) (λ i _. walker i);
      owned = λ i. owned_on s.elements v.ruling.workers v.ruling.workers w.head w.history w.head w.history w.born w.died w.name w.row born' w.died w.name w.row g.stage stage' i (v.owned i)
          (λ z h. (head_back s.elements v.ruling.workers g.stage x j m (Whole b) (Living b) is (λ c e. absurd (not_drawn c e)) (λ c e. absurd (not_half c e)) i z h, refl))
          (λ c h. (block_back s.elements v.ruling.workers g.stage x j m (Whole b) (Living b) is (λ c e. absurd (not_drawn c e)) (λ c e. absurd (not_half c e)) i c h, (λ _. refl), refl, λ _. refl))
          (λ z e. let t = some_worker s w n v g r j kind in absurd (omega arith))
          (r.owned i);
      goes = λ i. let t = goes_on s w.name w.name w.head w.history w.head w.history w.born w.died born' w.died g.life g.life (λ _ _ _ _ _. refl) w.round v.ruling.phase g.who v.read (IsKept w.round v.read) A step_chains.1 (λ i q p. (inr (i, p), r.pins.past i q p)) (λ i q c p h a. (inl (i, p, h), a)) (λ q k. r.names.fits q (inl k)) i (r.goes i) in
          goes_who s w.round w.name w.history born' w.died g.life g.who who' (λ q l. update_other g.who d q now (λ (e : q ≡ w.round + 1). omega arith)) (v.read i) (λ q p. r.pins.past i q p) t;
      rules = r.rules;
      stock = r.stock;
      note = r.note;
      retired = retired_on w.round w.died g.life v.work (update v.work j (record (v.work j) { known = known })) v.ruling.retired (update_cases (λ i u. u.retired ≡ (v.work i).retired) v.work j (record (v.work j) { known = known }) refl (λ _ _. refl)) r.retired;
      plan = let p = plan_update s w.round v.ruling.phase g.who v.kind v.work v.ruling.plan j (record (v.work j) { known = known }) refl r.plan in record {
        same = p.same;
        aim = λ a c. target_on s (Holds (g.who w.round)) (Holds (who' w.round)) v.ruling.plan (λ k. subst (λ (f : ℕ → ℕ). (Holds (g.who w.round) k → Holds f k) × (Holds f k → Holds (g.who w.round) k)) (sym (update_other g.who d w.round now (λ (e : w.round ≡ w.round + 1). omega arith))) ((λ h. h), λ h. h)) (r.plan.aim a c);
        within = λ k a c h. within k h.0 (sym (ap (λ (f : ℕ → ℕ). f k) (update_same g.who d now)) ∙ h.1);
        whole = λ k a c h. let e = one in absurd (omega (arith, ap order e));
        done = λ k e h. let z = one in absurd (cc);
      };
      history = history_who w.round g.who who' v.read v.ruling.history (λ q l. update_other g.who d q now (λ (e : q ≡ w.round + 1). omega arith)) r.history;
      drawn = drawn_update v.ruling.phase w.cursor w.free w.row v.kind v.work j (record (v.work j) { known = known }) refl r.drawn;
      draws = draws_update v.ruling.phase v.work stage' j (record (v.work j) { known = known }) refl (draws_goes v.ruling.phase v.work g.stage x j m (Whole b) (Living b) is (λ _. (refl, refl)) r.draws);
      crew = crew_goes s w.round v.ruling.phase v.kind v.work (update v.work j (record (v.work j) { known = known })) g.stage v.ruling.lone x j m (Living b) kind (number_kept v.work j (record (v.work j) { known = known }) refl) r.crew;
      inside = inside_goes s w.free w.row g.life g.stage v.ruling.hand v.ruling.retired x j m (Whole b) j (Living b) is r.inside;
      named = r.named;
      once = update_cases (λ _ cs. ListedOnce cs) v.claims j (moved_on (v.claims j) x (Living b)) (once_moved (v.claims j) x (Living b) (r.once j)) (λ i _. r.once i);
      holders = λ z i k q h. dite (ℕ_discrete z x) (λ f. ⊎_elim (λ e. inl (sym (held_one j i m k (Living b) q (sym (update_at g.stage x z (Held j m (Living b)) f) ∙ h)).0 ∙ e)) (λ e. inr (ap v.kind (sym (held_one j i m k (Living b) q (sym (update_at g.stage x z (Held j m (Living b)) f) ∙ h)).0) ∙ e)) (r.holders x j m (Whole b) is)) (λ o. r.holders z i k q (sym (update_other g.stage x z (Held j m (Living b)) o) ∙ h));
      hand = r.hand;
      grows = update_cases (λ i u. GrownRule s w.round v.ruling.phase w.name born' (who' d) (v.kind i) i u) v.work j (record (v.work j) { known = known }) (grows_off s w.round v.ruling.phase w.name w.born w.name born' (g.who d) (who' d) (v.kind j) j (v.work j) (record (v.work j) { known = known }) (λ e. let z = one in cc) refl (r.grows j)) (λ i _. grows_off s w.round v.ruling.phase w.name w.born w.name born' (g.who d) (who' d) (v.kind i) i (v.work i) (v.work i) (λ e. let z = one in cc) refl (r.grows i));
      retireds = retireds_work w.round w.died g.life v.work v.ruling.retired j (record (v.work j) { known = known }) refl r.retireds;
      frees = frees_on s.pool w.cursor w.free w.row w.born born' g.life g.life v.ruling.hand v.ruling.low v.ruling.high (λ _ e. e) (λ c e. (e, λ z. other_born c (λ (f : c ≡ b). free_not x m (sym e ∙ ap g.life f ∙ at)) ∙ z)) r.frees;
      known = known_goes g.life g.stage v.ruling.placed x j m j (Whole b) (Living b) is refl (λ c e. whole_not c e) r.known;
      kept = r.kept;
      early = r.early;
    }
      where
        whole_not : (c : ℕ) → Whole b ≡ Drawn c → ⊥
        whole_not c e = cc

        not_drawn : (c : ℕ) → Living b ≡ Drawn c → ⊥
        not_drawn c e = cc

        not_half : (c : ℕ) → Living b ≡ Half c → ⊥
        not_half c e = cc

        -- the members' names are of the target
        aimed : (t : Bool) (y : ℕ) → chained (Placed x m) t ≡ y + 1 → HasEntry v.ruling.plan.target (w.name (member_of b t))
        aimed false y c = subst (HasEntry v.ruling.plan.target) (sym (label.4 b refl)) label.6
        aimed true y c = let p = r.names.patch b x m at in ⊎_elim
            (λ z. let q : 0 ≡ y + 1 = sym z.0 ∙ c in absurd (omega arith))
            (λ z. let e : s.mate label.0 ≡ z.1 + 1 = ap s.mate (sym (label.4 b refl)) ∙ z.3 in subst (HasEntry v.ruling.plan.target) (sym (p.1 ∙ z.3)) ((r.plan.aim (let e = one in omega (arith, ap order one)) (let e = one in omega (arith, ap order one))).closed.seconds label.0 z.1 e label.6)) p.2

        within : (k a : ℕ) → now k ≡ a + 1 → HasEntry v.ruling.plan.target k
        within k a e = ⊎_elim (λ t. subst (HasEntry v.ruling.plan.target) (sym (t.3 ∙ rounds.name_side w.name b t.0)) (aimed t.0 t.1 t.2)) (λ t. r.plan.within k (let e = one in omega (arith, ap order e)) (let e = one in omega (arith, ap order e)) (a, sym t.0 ∙ e))
            (rounds.marks_cases m x (w.name (member_of b false)) (w.name (member_of b true)) (b + 1) (g.who d) k)

        walker : (i : ℕ) → WalkRule s w.round v.ruling.phase w.name w.history born' w.died g.life who' (v.kind i) i (v.work i)
        walker i = workers_who s w.round v.ruling.phase w.name w.history born' w.died g.life g.who who' (update_other g.who d w.round now (λ (e : w.round ≡ w.round + 1). omega arith)) (λ _ y k h. here y k (seen_stays y k h)) (v.kind i) i (v.work i)
            (workers_on s w.name w.name w.head w.history w.head w.history w.born w.died born' w.died g.life g.life (λ _ _ _ _ _. refl) w.round v.ruling.phase g.who v.read (IsKept w.round v.read) A step_chains.1 (inl refl) (r.names.fits w.round (inl (inl refl))) (λ e. r.names.fits d (inr (refl, omega (arith, ap order e)))) (v.kind i) i (v.work i) (λ c k h x. (inr (i, k, refl, h), x)) (λ _ _ _ e. e) (r.walks i))

        now_is : (k a : ℕ) → now k ≡ a + 1 → who' d k ≡ a + 1
        now_is k a e = ap (λ (f : ℕ → ℕ). f k) (update_same g.who d now) ∙ e

        at_member : (t : Bool) (y : ℕ) → chained (Placed x m) t ≡ y + 1 → now (w.name (member_of b t)) ≡ b + 1
        at_member t y c = rounds.marked s r.names_apart w.round v.ruling.phase w.name w.head w.history w.born w.died g.life g.who v.read r.names (low s w n v g r) b x m at (b + 1) t y (ap (λ (l : Life). chained l t) at ∙ c)

        relabel : (z k : ℕ) (q : Progress) → Label z k q → (a : ℕ) × (s.leads a ≡ true) × IsPlaceOf s w.name (who' d) z a × (who' w.round a ≡ 0) × ((c : ℕ) → linked q ≡ c + 1 → w.name (member_of c false) ≡ a)
            × ((k ≡ 0) × (s.mate a ≡ 0) ⊎ (y : ℕ) × (i : ℕ) × (k ≡ y + 1) × (s.mate a ≡ i + 1) × IsPlaceOf s w.name (who' d) y (i + 1) × (who' w.round (i + 1) ≡ 0)) × HasEntry v.ruling.plan.target a
        relabel z k q l = (l.0, l.1, here z l.0 (seen_stays z l.0 l.2), old_round l.0 ∙ l.3, l.4, ⊎_elim inl (λ t. inr (t.0, t.1, t.2, t.3, here t.0 (t.1 + 1) (seen_stays t.0 (t.1 + 1) t.4), old_round (t.1 + 1) ∙ t.5)) l.5, l.6)

    -- the pass knows the names that it found at the members' places as bisected from now on
    pub publishes : (known : List ℕ) → ((k : ℕ) → HasEntry known k → HasEntry (v.work j).known k ⊎ ((y : ℕ) × Of x m y × HasEntry (v.work j).found (y, k)))
        → Rule s (record w { born = update w.born b (v.work j).round }) n (record v { claims = update v.claims j (moved_on (v.claims j) x (Living b)); work = update v.work j (record (v.work j) { known = known }) }) (record g { stage = stage'; who = who' })
    publishes known right = subst (λ (e : ℕ). Rule s (record w { born = update w.born b e }) n (record v { claims = update v.claims j (moved_on (v.claims j) x (Living b)); work = update v.work j (record (v.work j) { known = known }) }) (record g { stage = stage'; who = who' })) (sym ((r.walks j).at_work kind))
        (published known (λ k h. ⊎_elim inl (λ t. let c = side t.0 t.1 in inr (c.0, t.0, c.1, name_one s w n v g r d t.0 k (w.name (member_of b c.0)) ((r.works j).found t.0 k t.2).1 (seen c.0 t.0 (ap (λ (l : Life). chained l c.0) at ∙ c.1)))) (right k h)))
      where
        side : (y : ℕ) → Of x m y → (t : Bool) × (chained (Placed x m) t ≡ y + 1)
        side y (inl e) = (false, ap (λ (i : ℕ). i + 1) (sym e))
        side y (inr e) = (true, e)
