-- A patch is retired in the second half.
use Rattle.std.proofs.Common.{◌≡◌, ◌≢◌, ℕ, ◌+◌, ◌<◌, ◌≤◌, Bool, true, false, List, ◌⊎◌, refl, sym, ap, ◌∙◌, subst, inl, inr, ⊎_elim, arith, ◌∷◌}
use mathlib.Core.Logic.{dite}
use native.Mathlib.Decide.{ℕ_discrete}
use Rattle.table_words.specs.Setup.{Setup}
use Rattle.table_words.specs.Functions.{update}
use Rattle.table_words.specs.Words.{Words}
use Rattle.table_words.specs.Views.{Plan, Views, Work, Worker, SecondHalf, order}
use Rattle.table_words.specs.Claims.{Drawn, Half, Living}
use Rattle.table_words.specs.Places.{member_of}
use Rattle.table_words.specs.Entries.{HasEntry}
use Rattle.table_words.proofs.Functions.{update_same, update_at, update_other, update_cases}
use Rattle.table_state.specs.Ghosts.{Life, Placed, chained, Ghost}
use Rattle.table_state.specs.Chains.{Covers, ChainsRule}
use Rattle.table_state.specs.Bisections.{IsKept}
use Rattle.table_state.specs.Work.{WorkRule, WalkRule}
use Rattle.table_state.specs.Owned.{GuardsBlock}
use Rattle.table_state.specs.Lists.{Holds, IsMember, IsListed}
use Rattle.table_state.proofs.Lists.{member_side, crew_free, plan_update, target_on, history_who, drawn_update}
use Rattle.table_state.proofs.Lists.{draws_update}
use Rattle.table_state.specs.Rule.{Rule}
use Rattle.table_state.proofs.Inside.{below_pool}
use Rattle.table_state.proofs.HeldClaims.{free_not}
use Rattle.table_state.proofs.FoundAgain.{goes_on, goes_who, workers_on, workers_who, Moves, one_more}
use Rattle.table_steps.proofs.BlockSteps.{kills}
use Rattle.table_state.proofs.Across.{Went, low, some_worker}
use Rattle.table_steps.proofs.OwnedWords.{owned_on}
use Rattle.table_state.proofs.Bisections as rounds
use Rattle.table_state.proofs.Known.{kept_on}
use Rattle.table_state.specs.Work.{GrownRule, IsGrown}

module _ (s : Setup) (w : Words) (n : ℕ) (v : Views) (g : Ghost) (r : Rule s w n v g) where
  abbrev d : ℕ
  d = w.round + 1

  abbrev A : ℕ → ℕ → Type 0
  A = Went w.round w.died v.kind v.work v.read

  module _ (j b k : ℕ) (given : HasEntry (v.work j).given (b, k)) (kind : v.kind j ≡ Worker) (listed : HasEntry (v.work j).plan.retire k) (zero_ : w.died b ≡ 0)
      (leaves : (c : Bool) → HasEntry (v.work j).open_ (s.child k c)) (mates : (i : ℕ) → s.mate k ≡ i + 1 → (c : Bool) → HasEntry (v.work j).open_ (s.child (i + 1) c)) where
    entry : (v.ruling.phase ≡ SecondHalf) × (w.name (member_of b false) ≡ k) × ((x : ℕ) × (m : ℕ) × (g.life b ≡ Placed x m) × (0 < w.born b) × (w.born b ≤ w.round) × ((w.died b ≡ 0) ⊎ (w.died b ≡ w.round + 1)))
    entry = (r.works j).given b k given

    two : v.ruling.phase ≡ SecondHalf
    two = entry.0

    abbrev X : ℕ
    X = entry.2.0

    abbrev M : ℕ
    M = entry.2.1

    at : g.life b ≡ Placed X M
    at = entry.2.2

    covered : Covers w.born w.died d b
    covered = let l = entry.2.4 in (entry.2.3, omega arith, inl zero_)

    was : (t : Bool) (y : ℕ) → chained (g.life b) t ≡ y + 1 → g.who d (w.name (member_of b t)) ≡ b + 1
    was t y c = (r.names.sound d (inr (refl, let e = two in omega (arith, ap order two))) b t y c covered).0

    leaf : (t c : Bool) (y : ℕ) → chained (g.life b) t ≡ y + 1 → g.who d (s.child (w.name (member_of b t)) c) ≡ 0
    leaf false c y h = ap (λ (i : ℕ). g.who d (s.child i c)) entry.1 ∙ ((r.works j).open_ (s.child k c) (leaves c)).1
    leaf true c y h = let p = r.names.patch b X M at in ⊎_elim
        (λ z. let q : 0 ≡ y + 1 = sym z.0 ∙ sym (ap (λ (l : Life). chained l true) at) ∙ h in absurd (omega arith))
        (λ z. let e : s.mate k ≡ z.1 + 1 = ap s.mate (sym entry.1) ∙ z.3 in ap (λ (i : ℕ). g.who d (s.child i c)) (p.1 ∙ z.3) ∙ ((r.works j).open_ (s.child (z.1 + 1) c) (mates z.1 e c)).1)
        p.2

    step_chains : ChainsRule s.elements w.round w.head w.history w.born (update w.died b d) g.life × Moves (IsKept w.round v.read) A s.elements w.round w.head w.history w.head w.history w.born w.died w.born (update w.died b d) g.life g.life
    step_chains = kills (IsKept w.round v.read) A s.elements w.round w.head w.history w.born w.died g.life r.chains b X M at entry.2.3 entry.2.4 zero_ (low s w n v g r)

    abbrev now : ℕ → ℕ
    now = rounds.marks M (w.name (member_of b false)) (w.name (member_of b true)) 0 (g.who d)

    abbrev who' : ℕ → ℕ → ℕ
    who' = update g.who d now

    still_open : (i : ℕ) → g.who d i ≡ 0 → now i ≡ 0
    still_open i z = ⊎_elim (λ c. c.4) (λ c. c.0 ∙ z) (rounds.marks_cases M X (w.name (member_of b false)) (w.name (member_of b true)) 0 (g.who d) i)

    retired_now : (names : List ℕ) → ((i : ℕ) → HasEntry names i → HasEntry (v.work j).open_ i ⊎ ((t : Bool) × (y : ℕ) × (chained (g.life b) t ≡ y + 1) × (i ≡ w.name (member_of b t))))
        → (wh : ℕ → ℕ → ℕ) × Rule s (record w { died = update w.died b d }) n (record v { work = update v.work j (record (v.work j) { open_ = names; retired = b ∷ (v.work j).retired }) }) (record g { who = wh })
    retired_now names right = (
      who',
      record {
        names_apart = r.names_apart;
        claims = r.claims;
        labels = λ z i m q h e. let t = two in absurd (cc);
        chains = step_chains.0;
        names = rounds.names_retire s r.names_apart w.round v.ruling.phase w.name w.head w.history w.born w.died g.life g.who v.read r.names (low s w n v g r) b X M at two was leaf A step_chains.1;
        pins = r.pins;
        works = update_cases (λ i u. WorkRule s w.round v.ruling.phase w.name w.born (update w.died b d) g.life (who' d) (v.kind i) i u) v.work j (record (v.work j) { open_ = names; retired = b ∷ (v.work j).retired })
            record {
              only = λ a. absurd (a kind);
              found = λ y i h. let t = ((r.works j).found y i h).0 in let e = two in absurd (cc);
              known = λ i h. let t = ((r.works j).known i h).0 in let e = two in absurd (cc);
              open_ = λ i h. (two, now_is i (⊎_elim (λ t. still_open i ((r.works j).open_ i t).1) (λ t. ap now t.3 ∙ marked t.0 t.1 t.2) (right i h)));
              given = λ c i h. on_given c i ((r.works j).given c i h);
            }
            (λ a _. record {
              only = (r.works a).only;
              found = λ y i h. let t = ((r.works a).found y i h).0 in let e = two in absurd (cc);
              known = λ i h. let t = ((r.works a).known i h).0 in let e = two in absurd (cc);
              open_ = λ i h. let t = (r.works a).open_ i h in (t.0, now_is i (still_open i t.1));
              given = λ c i h. on_given c i ((r.works a).given c i h);
            });
        walks = update_cases (λ i u. WalkRule s w.round v.ruling.phase w.name w.history w.born (update w.died b d) g.life who' (v.kind i) i u) v.work j (record (v.work j) { open_ = names; retired = b ∷ (v.work j).retired }) (let u = walker j in record { still = u.still; only = λ o. absurd (o kind); half = u.half; at_work = u.at_work; retired_in = λ c h. ⊎_elim (λ e. subst (λ (i : ℕ). i < s.pool) (sym e) (below_pool s w.free w.row g.life g.stage v.ruling.hand v.ruling.retired r.inside b (λ f. free_not X M (sym f ∙ at)))) (u.retired_in c) h; absent = u.absent; stood = u.stood; had = u.had; went = u.went; walk = u.walk; sided = u.sided }) (λ i _. walker i);
        owned = λ i. owned_on s.elements v.ruling.workers v.ruling.workers w.head w.history w.head w.history w.born w.died w.name w.row w.born (update w.died b d) w.name w.row g.stage g.stage i (v.owned i)
            (λ z h. (h, refl))
            (λ c h. absurd (no_block i c h))
            (λ z e. let t = some_worker s w n v g r j kind in absurd (omega arith))
            (r.owned i);
        goes = λ i. goes_who s w.round w.name w.history w.born (update w.died b d) g.life g.who who' (λ q l. update_other g.who d q now (λ (e : q ≡ w.round + 1). omega arith)) (v.read i) (λ q p. r.pins.past i q p)
            (goes_on s w.name w.name w.head w.history w.head w.history w.born w.died w.born (update w.died b d) g.life g.life (λ _ _ _ _ _. refl) w.round v.ruling.phase g.who v.read (IsKept w.round v.read) A step_chains.1 (λ a q p. (inr (a, p), r.pins.past a q p)) (λ a q c p h x. (inl (a, p, h), x)) (λ q x. r.names.fits q (inl x)) i (r.goes i));
        rules = r.rules;
        stock = r.stock;
        note = r.note;
        retired = λ c y k h e. dite (ℕ_discrete c b) (λ f. inl (j, subst (λ (u : Work). HasEntry u.retired c) (sym (update_same v.work j (record (v.work j) { open_ = names; retired = b ∷ (v.work j).retired }))) (inl f)))
            (λ f. ⊎_elim (λ t. inl (t.0, keeps t.0 c t.1)) inr (r.retired c y k h (sym (update_other w.died b c d f) ∙ e)));
        plan = let p = plan_update s w.round v.ruling.phase g.who v.kind v.work v.ruling.plan j (record (v.work j) { open_ = names; retired = b ∷ (v.work j).retired }) refl r.plan in record {
          same = p.same;
          aim = λ a c. target_on s (Holds (g.who w.round)) (Holds (who' w.round)) v.ruling.plan (λ i. subst (λ (f : ℕ → ℕ). (Holds (g.who w.round) i → Holds f i) × (Holds f i → Holds (g.who w.round) i)) (sym (update_other g.who d w.round now (λ (e : w.round ≡ w.round + 1). omega arith))) ((λ h. h), λ h. h)) (r.plan.aim a c);
          within = λ i a c h. within i h.0 (sym (ap (λ (f : ℕ → ℕ). f i) (update_same g.who d now)) ∙ h.1);
          whole = λ i a c h. whole i h;
          done = λ i e h. let z = two in absurd (cc);
        };
        history = history_who w.round g.who who' v.read v.ruling.history (λ q l. update_other g.who d q now (λ (e : q ≡ w.round + 1). omega arith)) r.history;
        drawn = drawn_update v.ruling.phase w.cursor w.free w.row v.kind v.work j (record (v.work j) { open_ = names; retired = b ∷ (v.work j).retired }) refl r.drawn;
        draws = draws_update v.ruling.phase v.work g.stage j (record (v.work j) { open_ = names; retired = b ∷ (v.work j).retired }) refl r.draws;
        crew = crew_free s w.round v.ruling.phase v.kind (update v.work j (record (v.work j) { open_ = names; retired = b ∷ (v.work j).retired })) g.stage v.ruling.lone r.crew.rounds (λ e. let z = two in absurd (cc));
        inside = r.inside;
        named = r.named;
        once = r.once;
        holders = r.holders;
        hand = r.hand;
        grows = update_cases (λ i u. GrownRule s w.round v.ruling.phase w.name w.born (who' d) (v.kind i) i u) v.work j (record (v.work j) { open_ = names; retired = b ∷ (v.work j).retired }) record { only = λ o. absurd (o kind); grown = λ y i h. let t = (r.grows j).grown y i h in (t.0, still_grown y i t.1) } (λ a _. record { only = (r.grows a).only; grown = λ y i h. let t = (r.grows a).grown y i h in (t.0, still_grown y i t.1) });
        retireds = λ c h. dite (ℕ_discrete c b) (λ f. (X, M, ap g.life f ∙ at, update_at w.died b c d f)) (λ f. let t = r.retireds c (was_retired c f h) in (t.0, t.1, t.2, update_other w.died b c d f ∙ t.3));
        frees = r.frees;
        known = r.known;
        kept = kept_on w.round w.died (update w.died b d) g.life g.life v.ruling.kept (λ c y k u p l. (u, update_other w.died b c d (λ (f : c ≡ b). let z = update_at w.died b c d f in omega arith))) (λ c y k u p l. (u, update_other w.died b c d (λ (f : c ≡ b). let z : w.died c ≡ w.died b = ap w.died f in omega arith))) r.kept;
        early = r.early;
      },
    )
      where
        still_grown : (y i : ℕ) → IsGrown s w.round w.name w.born (g.who d) y i → IsGrown s w.round w.name w.born (who' d) y i
        still_grown y i h = let c : ℕ = h.0 in let k : ℕ = w.name (member_of h.0 h.1) in (
          h.0,
          h.1,
          h.2,
          h.3,
          h.4,
          ap (λ (f : ℕ → ℕ). f k) (update_same g.who d now) ∙ ⊎_elim
              (λ e. let z : k ≡ w.name (member_of b e.0) = e.3 ∙ rounds.name_side w.name b e.0 in let o = was e.0 e.1 (ap (λ (l : Life). chained l e.0) at ∙ e.2) in let q : h.0 + 1 ≡ b + 1 = sym h.5 ∙ ap (g.who d) z ∙ o in let f : w.born h.0 ≡ w.born b = ap w.born (one_more h.0 b q) in let l = entry.2.4 in let h4 = h.4 in absurd (omega arith))
              (λ e. e.0 ∙ h.5) (rounds.marks_cases M X (w.name (member_of b false)) (w.name (member_of b true)) 0 (g.who d) k),
          h.6,
        )

        was_retired : (c : ℕ) → c ≢ b → ((i : ℕ) × HasEntry (update v.work j (record (v.work j) { open_ = names; retired = b ∷ (v.work j).retired }) i).retired c) ⊎ HasEntry v.ruling.retired c → ((i : ℕ) × HasEntry (v.work i).retired c) ⊎ HasEntry v.ruling.retired c
        was_retired c o (inl t) = inl (t.0, update_cases (λ i x. HasEntry x.retired c → HasEntry (v.work i).retired c) v.work j (record (v.work j) { open_ = names; retired = b ∷ (v.work j).retired }) (λ h. ⊎_elim (λ e. absurd (o e)) (λ h. h) h) (λ _ _ h. h) t.0 t.1)
        was_retired c o (inr h) = inr h

        within : (i a : ℕ) → now i ≡ a + 1 → HasEntry v.ruling.plan.target i
        within i a e = ⊎_elim (λ c. let z : 0 ≡ a + 1 = sym c.4 ∙ e in absurd (omega arith)) (λ c. r.plan.within i (let z = two in omega (arith, ap order z)) (let z = two in omega (arith, ap order z)) (a, sym c.0 ∙ e))
            (rounds.marks_cases M X (w.name (member_of b false)) (w.name (member_of b true)) 0 (g.who d) i)

        on_list : HasEntry v.ruling.plan.retire k
        on_list = subst (λ (p : Plan). HasEntry p.retire k) (r.plan.same j kind) listed

        -- the members of the block are of a listed patch
        of_list : (t : Bool) (y : ℕ) → chained (Placed X M) t ≡ y + 1 → IsListed s v.ruling.plan.retire (w.name (member_of b t))
        of_list false y c = (k, on_list, inl entry.1)
        of_list true y c = let p = r.names.patch b X M at in ⊎_elim
            (λ z. let q : 0 ≡ y + 1 = sym z.0 ∙ c in absurd (omega arith))
            (λ z. (k, on_list, inr (z.1, ap s.mate (sym entry.1) ∙ z.3, p.1 ∙ z.3))) p.2

        whole : (i : ℕ) → HasEntry v.ruling.plan.target i → Holds (who' d) i ⊎ IsListed s v.ruling.plan.retire i
        whole i h = ⊎_elim (λ c. inr (subst (IsListed s v.ruling.plan.retire) (sym (c.3 ∙ rounds.name_side w.name b c.0)) (of_list c.0 c.1 c.2)))
            (λ c. ⊎_elim (λ t. inl (t.0, ap (λ (f : ℕ → ℕ). f i) (update_same g.who d now) ∙ c.0 ∙ t.1)) inr (r.plan.whole i (let z = two in omega (arith, ap order z)) (let z = two in omega (arith, ap order z)) h))
            (rounds.marks_cases M X (w.name (member_of b false)) (w.name (member_of b true)) 0 (g.who d) i)

        walker : (i : ℕ) → WalkRule s w.round v.ruling.phase w.name w.history w.born (update w.died b d) g.life who' (v.kind i) i (v.work i)
        walker i = workers_who s w.round v.ruling.phase w.name w.history w.born (update w.died b d) g.life g.who who' (update_other g.who d w.round now (λ (e : w.round ≡ w.round + 1). omega arith)) (λ e _ _ _. let t = two in absurd (cc)) (v.kind i) i (v.work i)
            (workers_on s w.name w.name w.head w.history w.head w.history w.born w.died w.born (update w.died b d) g.life g.life (λ _ _ _ _ _. refl) w.round v.ruling.phase g.who v.read (IsKept w.round v.read) A step_chains.1 (inl refl) (r.names.fits w.round (inl (inl refl))) (λ e. let t = two in absurd (cc)) (v.kind i) i (v.work i) (λ c k h x. (inr (i, k, refl, h), x)) (λ _ _ _ e. e) (r.walks i))

        keeps : (i c : ℕ) → HasEntry (v.work i).retired c → HasEntry (update v.work j (record (v.work j) { open_ = names; retired = b ∷ (v.work j).retired }) i).retired c
        keeps i c h = update_cases (λ a u. a ≡ i → HasEntry u.retired c) v.work j (record (v.work j) { open_ = names; retired = b ∷ (v.work j).retired }) (λ e. inr (subst (λ (a : ℕ). HasEntry (v.work a).retired c) (sym e) h)) (λ a _ e. subst (λ (a : ℕ). HasEntry (v.work a).retired c) (sym e) h) i refl

        now_is : (i : ℕ) → now i ≡ 0 → who' d i ≡ 0
        now_is i e = ap (λ (f : ℕ → ℕ). f i) (update_same g.who d now) ∙ e

        marked : (t : Bool) (y : ℕ) → chained (g.life b) t ≡ y + 1 → now (w.name (member_of b t)) ≡ 0
        marked t y c = rounds.marked s r.names_apart w.round v.ruling.phase w.name w.head w.history w.born w.died g.life g.who v.read r.names (low s w n v g r) b X M at 0 t y c

        on_given : (c i : ℕ) → (v.ruling.phase ≡ SecondHalf) × (w.name (member_of c false) ≡ i) × ((x : ℕ) × (m : ℕ) × (g.life c ≡ Placed x m) × (0 < w.born c) × (w.born c ≤ w.round) × ((w.died c ≡ 0) ⊎ (w.died c ≡ w.round + 1)))
            → (v.ruling.phase ≡ SecondHalf) × (w.name (member_of c false) ≡ i) × ((x : ℕ) × (m : ℕ) × (g.life c ≡ Placed x m) × (0 < w.born c) × (w.born c ≤ w.round) × ((update w.died b d c ≡ 0) ⊎ (update w.died b d c ≡ w.round + 1)))
        on_given c i t = (t.0, t.1, (t.2.0, t.2.1, t.2.2, t.2.3, t.2.4, dite (ℕ_discrete c b) (λ e. inr (update_at w.died b c d e)) (λ o. subst (λ (y : ℕ). (y ≡ 0) ⊎ (y ≡ w.round + 1)) (sym (update_other w.died b c d o)) t.2.5)))

        not_drawn : (c a : ℕ) → Drawn c ≡ Living a → ⊥
        not_drawn c a e = cc

        not_half : (c a : ℕ) → Half c ≡ Living a → ⊥
        not_half c a e = cc

        no_block : (i c : ℕ) → GuardsBlock v.ruling.workers g.stage i c → ⊥
        no_block i c (inl t) = let a = some_worker s w n v g r j kind in let e = t.1 in omega arith
        no_block i c (inr t) = ⊎_elim (λ h. let q = r.claims.living t.0 i t.1 (Drawn c) h two in not_drawn c q.0 q.1) (λ h. let q = r.claims.living t.0 i t.1 (Half c) h two in not_half c q.0 q.1) t.2

    -- and its members are known as not bisected from now on
    pub retires : (names : List ℕ) → ((i : ℕ) → HasEntry names i → HasEntry (v.work j).open_ i ⊎ IsMember s k i)
        → (wh : ℕ → ℕ → ℕ) × Rule s (record w { died = update w.died b (v.work j).round }) n (record v { work = update v.work j (record (v.work j) { open_ = names; retired = b ∷ (v.work j).retired }) }) (record g { who = wh })
    retires names right = subst (λ (e : ℕ). (wh : ℕ → ℕ → ℕ) × Rule s (record w { died = update w.died b e }) n (record v { work = update v.work j (record (v.work j) { open_ = names; retired = b ∷ (v.work j).retired }) }) (record g { who = wh })) (sym ((r.walks j).at_work kind))
        (retired_now names (λ i h. ⊎_elim inl (λ t. let c = member_side s w.name k b X M i entry.1 (r.names.patch b X M at) t in inr (c.0, c.1, ap (λ (l : Life). chained l c.0) at ∙ c.2, c.3)) (right i h)))
