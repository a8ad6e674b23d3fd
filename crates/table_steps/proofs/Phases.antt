-- The phases of a round, and its end.
use Rattle.std.proofs.lemmas.List.{append_assoc}
use mathlib.Core.Logic.{dite}
use Rattle.std.proofs.Common.{◌≡◌, ℕ, zero, suc, ◌+◌, ◌<◌, ◌≤◌, Bool, true, false, List, [], ◌∷◌, ◌++◌, length, ◌⊎◌, refl, sym, ap, ◌∙◌, subst, inl, inr, ⊎_elim, arith}
use native.Mathlib.Decide.{dec_lt, ℕ_discrete}
use Rattle.table_words.specs.Setup.{Setup, places}
use Rattle.table_words.specs.Functions.{update}
use Rattle.table_words.specs.Sums.{one_where, sum_below}
use Rattle.table_words.specs.Words.{Words, Node}
use Rattle.table_words.specs.Views.{Plan, no_plan, Walk, Views, Worker, Reader, is_reader, Resting, FirstHalf, SecondHalf, Closing, RollingBack, Precedes, Phase, Vacant, order}
use Rattle.table_words.specs.Claims.{Progress, Living, Claim, claim}
use Rattle.table_words.specs.Places.{member_of}
use Rattle.table_words.specs.Entries.{HasEntry, EntryAt, Noted}
use Rattle.table_words.proofs.Functions.{update_same, update_other, update_cases}
use Rattle.table_state.specs.Ghosts.{Stage, Open, Held, Life, Placed, RolledBack, chained, Ghost}
use Rattle.table_state.specs.Chains.{Covers, Finds, Reaches, IsPlace, IsHead}
use Rattle.table_state.specs.Claims.{ClaimsRule, draws_of}
use Rattle.table_state.specs.Bisections.{Fits, IsSound, IsKept, MayRead, NamesRule}
use Rattle.table_state.specs.Work.{WorkRule, WorkWalks, WalkRule, RetiredKnown}
use Rattle.table_state.specs.Fresh.{idle}
use Rattle.table_state.specs.Lists.{Holds, IsTarget, IsListed, PlanRule, DrawnRule}
use Rattle.table_state.proofs.Lists.{crew_free, plan_on, history_who, none_drawn, target_on, bisected_closed, entry_more, length_more}
use Rattle.table_state.specs.Rule.{Labels, Rule}
use Rattle.table_state.specs.Inside.{InsideRule}
use Rattle.table_state.proofs.FoundAgain.{still_not, one_more, placed, goes_who, walks_idle}
use Rattle.table_words.proofs.Entries.{entry_left, entry_right, entry_of_both}
use Rattle.table_state.proofs.ChainSteps.{named}
use Rattle.table_steps.proofs.BlockSteps.{ends_round}
use Rattle.table_state.proofs.HeldClaims.{not_open}
use Rattle.table_state.proofs.Across.{Went, low, some_worker}
use Rattle.table_words.proofs.Sums.{sum_same, one_if, none_if}
use Rattle.table_state.specs.Owner.{is_early}
use Rattle.table_state.proofs.Known.{early_one, early_none, retireds_on}
use Rattle.table_state.specs.Work.{GrownRule}
use Rattle.table_words.proofs.SeatKinds.{kind_discrete, reader_is, reader_not}
use Rattle.mesh_names.specs.Names.{digit}

module _ (s : Setup) (w : Words) (n : ℕ) (v : Views) (g : Ghost) (r : Rule s w n v g) where
  abbrev d : ℕ
  d = w.round + 1

  -- no pass is at work
  abbrev pub Home : Type 0
  Home = v.ruling.workers ≡ 0

  not_work : Home → (j : ℕ) → v.kind j ≡ Worker → ⊥
  not_work h j k = let a = some_worker s w n v g r j k in omega arith

  pub home_claims : Home → (x j m : ℕ) (p : Progress) → g.stage x ≡ Held j m p → j ≡ 0
  home_claims h x j m p e = ⊎_elim (λ z. z) (λ k. absurd (not_work h j k)) (r.holders x j m p e)

  -- what the owner's view alone tells of all stages
  pub all_open : Home → v.claims 0 ≡ [] → (x : ℕ) → g.stage x ≡ Open
  all_open h none x = by (g.stage x) refl
    where
      by : (t : Stage) → g.stage x ≡ t → g.stage x ≡ Open
      by Open e = e
      by (Held j m p) e = let z = home_claims h x j m p e in absurd (subst (λ (cs : List Claim). HasEntry cs (claim x m p)) none (subst (λ (i : ℕ). HasEntry (v.claims i) (claim x m p)) z (r.claims.holds j x m p e)))

  idle_works : Home → (round : ℕ) (p : Phase) (name born died : ℕ → ℕ) (life : ℕ → Life) (who : ℕ → ℕ) (j : ℕ) → WorkRule s round p name born died life who (v.kind j) j (update v.work 0 idle j)
  idle_works h round p name born died life who = update_cases (λ j u. WorkRule s round p name born died life who (v.kind j) j u) v.work 0 idle
      record { only = λ _ _. (refl, refl, refl, refl); found = λ x i f. absurd f; known = λ i f. absurd f; open_ = λ i f. absurd f; given = λ b i f. absurd f }
      (λ j ne. let e = (r.works j).only (not_work h j) ne in record {
        only = (r.works j).only;
        found = λ x i f. absurd (subst (λ l. HasEntry l (x, i)) e.0 f);
        known = λ i f. absurd (subst (λ l. HasEntry l i) e.1 f);
        open_ = λ i f. absurd (subst (λ l. HasEntry l i) e.2 f);
        given = λ b i f. absurd (subst (λ l. HasEntry l (b, i)) e.3 f);
      })

  idle_walks : Home → (round : ℕ) (p : Phase) (name : ℕ → ℕ) (history : ℕ → Node) (born died : ℕ → ℕ) (life : ℕ → Life) (who : ℕ → ℕ → ℕ) (j : ℕ) → WalkRule s round p name history born died life who (v.kind j) j (update v.work 0 idle j)
  idle_walks h round p name history born died life who = update_cases (λ j u. WalkRule s round p name history born died life who (v.kind j) j u) v.work 0 idle
      (walks_idle s round p name history born died life who (v.kind 0) 0 Resting 0 0 no_plan (λ e. absurd (not_work h 0 e)) (λ e. absurd (not_work h 0 e)))
      (λ j ne. let k = r.walks j in let e = k.still (not_work h j) in let f = k.only (not_work h j) ne in record {
        still = k.still;
        only = k.only;
        half = λ e. absurd (not_work h j e);
        at_work = λ e. absurd (not_work h j e);
        retired_in = k.retired_in;
        absent = λ i a. absurd (subst (λ (l : List ℕ). HasEntry l i) f.0 a);
        stood = λ x i a. absurd (subst (λ (l : List (ℕ × ℕ)). HasEntry l (x, i)) f.1 a);
        had = λ b i a. absurd (subst (λ (l : List (ℕ × ℕ)). HasEntry l (b, i)) f.2 a);
        went = λ b a. absurd (subst (λ (l : List ℕ). HasEntry l b) e.0 a);
        walk = subst (λ (u : Walk). WorkWalks s round p name history born died life who (v.work j).went u) (sym e.1) tt;
        sided = λ x n b t h. absurd (still_not x n b t (⊎_elim (λ z. inl (sym e.1 ∙ z)) (λ z. inr (sym e.1 ∙ z)) h));
      })

  idle_grows : Home → (round : ℕ) (p : Phase) (name born : ℕ → ℕ) (who : ℕ → ℕ) (j : ℕ) → GrownRule s round p name born who (v.kind j) j (update v.work 0 idle j)
  idle_grows h round p name born who = update_cases (λ j u. GrownRule s round p name born who (v.kind j) j u) v.work 0 idle record { only = λ _ _. refl; grown = λ x i f. absurd f }
      (λ j ne. let e = (r.grows j).only (not_work h j) ne in record { only = (r.grows j).only; grown = λ x i f. absurd (subst (λ (l : List (ℕ × ℕ)). HasEntry l (x, i)) e f) })

  -- no pass at work, and the owner's draws forgotten: there is none
  idle_drawn : Home → (p : Phase) (cursor free : ℕ) (row : ℕ → ℕ) → DrawnRule p cursor free row v.kind (update v.work 0 idle)
  idle_drawn h p cursor free row = none_drawn p cursor free row v.kind (update v.work 0 idle) (update_cases (λ _ u. u.drawn ≡ []) v.work 0 idle refl (λ j ne. r.drawn.only j (not_work h j) ne))

  -- the owner goes on to another phase of the same round, and forgets what held in this one
  pub rephases : Home → (p : Phase) (who : ℕ → ℕ → ℕ) (cursor : ℕ) (retired : List ℕ) (plan : Plan) → (Precedes Resting p → w.round < s.rounds) → (p ≡ FirstHalf → v.ruling.phase ≡ Resting) → PlanRule s w.round p who (λ _. Vacant) v.work plan → RetiredKnown w.round w.died g.life (update v.work 0 idle) retired → ((b : ℕ) → HasEntry retired b → ((j : ℕ) × HasEntry (v.work j).retired b) ⊎ HasEntry v.ruling.retired b) → ((k : ℕ) → cursor ≡ k + 1 → (p ≡ FirstHalf → ⊥) × (w.cursor ≡ k)) → ((q : ℕ) → q ≤ w.round → who q ≡ g.who q)
      → ClaimsRule s w.round w.cursor w.free p w.row w.claimed w.head w.born g.life g.stage v.claims → Labels s w.round p w.name g.stage who plan.target → NamesRule s w.round p w.name w.head w.history w.born w.died g.life who v.read → InsideRule s w.free w.row g.life g.stage v.ruling.hand retired
      → Rule s w n (record v { work = update v.work 0 idle; ruling = record v.ruling { phase = p; cursor = cursor; retired = retired; plan = plan } }) (record g { who = who })
  rephases h p who cursor retired plan room early lists known from owned old claims labels names inside = record {
    names_apart = r.names_apart;
    claims = claims;
    labels = labels;
    chains = r.chains;
    names = names;
    pins = r.pins;
    works = idle_works h w.round p w.name w.born w.died g.life (who d);
    walks = idle_walks h w.round p w.name w.history w.born w.died g.life who;
    owned = r.owned;
    goes = λ i. goes_who s w.round w.name w.history w.born w.died g.life g.who who old (v.read i) (λ q e. r.pins.past i q e) (r.goes i);
    rules = record { owner = r.rules.owner; one = r.rules.one; workers = r.rules.workers; readers = r.rules.readers; few_readers = r.rules.few_readers; halves = λ _ _. h; drained = r.rules.drained };
    stock = record { finished = r.stock.finished; cursor_is = owned; free_is = r.stock.free_is; left = r.stock.left };
    note = record { rolled_back = r.note.rolled_back; all = r.note.all; placed = r.note.placed; seen = r.note.seen; quiet = r.note.quiet };
    retired = known;
    plan = plan_on s w.round p who (λ _. Vacant) v.kind v.work (update v.work 0 idle) plan (λ j k. absurd (not_work h j k)) lists;
    history = history_who w.round g.who who v.read v.ruling.history old r.history;
    drawn = idle_drawn h p w.cursor w.free w.row;
    draws = λ x j m q e h. absurd (not_open j m q (sym h ∙ r.claims.none x (early e)));
    crew = crew_free s w.round p v.kind (update v.work 0 idle) g.stage v.ruling.lone (r.crew.rounds.0, room) (λ _ j k. not_work h j k);
    inside = inside;
    named = r.named;
    once = r.once;
    holders = r.holders;
    hand = r.hand;
    grows = idle_grows h w.round p w.name w.born (who d);
    retireds = retireds_on w.round w.died w.died g.life g.life v.work (update v.work 0 idle) v.ruling.retired retired (λ b k. ⊎_elim (λ t. inl (t.0, update_cases (λ i x. HasEntry x.retired b → HasEntry (v.work i).retired b) v.work 0 idle (λ f. absurd f) (λ _ _ f. f) t.0 t.1)) (from b) k) (λ _ _ _ u _. (u, refl)) r.retireds;
    frees = r.frees;
    known = r.known;
    kept = r.kept;
    early = r.early;
  }

  zero_total : (k : ℕ) (f : ℕ → ℕ) → ((i : ℕ) → f i ≡ 0) → sum_below k f ≡ 0
  zero_total zero f z = refl
  zero_total (suc k) f z = let a = zero_total k f z in let b = z k in omega arith

  -- claims do not read the phase but where they say so
  claims_phase : (p : Phase) → ((p ≡ Closing → ⊥) → v.ruling.phase ≡ Closing → ⊥) → (p ≡ FirstHalf → w.cursor ≡ sum_below (places s) (λ x. draws_of (g.stage x))) → ((x j m : ℕ) (q : Progress) → g.stage x ≡ Held j m q → p ≡ SecondHalf → (b : ℕ) × (q ≡ Living b)) → ((x : ℕ) → p ≡ Resting → g.stage x ≡ Open)
      → ClaimsRule s w.round w.cursor w.free p w.row w.claimed w.head w.born g.life g.stage v.claims
  claims_phase p three one two zero_ = record {
    held = r.claims.held;
    holds = r.claims.holds;
    bits = r.claims.bits;
    inside = r.claims.inside;
    mates = r.claims.mates;
    shape = r.claims.shape;
    kept = λ b x m u e o. r.claims.kept b x m u e (three o);
    half = r.claims.half;
    rows = r.claims.rows;
    apart = r.claims.apart;
    drawn = one;
    living = two;
    none = zero_;
  }

  names_phase : (p : Phase) → (Precedes p RollingBack → Precedes v.ruling.phase RollingBack) → (((p ≡ SecondHalf → ⊥) × (p ≡ Closing → ⊥)) → (v.ruling.phase ≡ SecondHalf → ⊥) × (v.ruling.phase ≡ Closing → ⊥)) → (Precedes p SecondHalf → Precedes v.ruling.phase SecondHalf) → (p ≡ Resting → v.ruling.phase ≡ Resting) → NamesRule s w.round p w.name w.head w.history w.born w.died g.life g.who v.read
  names_phase p said calm grows fresh = record {
    fits = λ q k. r.names.fits q (back q k);
    sound = λ q k. r.names.sound q (back q k);
    patch = r.names.patch;
    one = r.names.one;
    calm = λ b x m l. r.names.calm b x m (calm l);
    grows = λ i b l. r.names.grows i b (grows l);
    either = λ i b l. r.names.either i b (said l);
    fresh = λ i z. r.names.fresh i (fresh z);
  }
    where
      back : (q : ℕ) → MayRead w.round p v.read q → MayRead w.round v.ruling.phase v.read q
      back q (inl k) = inl k
      back q (inr k) = inr (k.0, said k.1)

  -- but in the second half and while the round is closed nothing is retired in the round
  calm_retired : (v.ruling.phase ≡ SecondHalf → ⊥) × (v.ruling.phase ≡ Closing → ⊥) → RetiredKnown w.round w.died g.life (update v.work 0 idle) v.ruling.retired
  calm_retired l b x m u e = let c = r.names.calm b x m l u in absurd (omega arith)

  -- with no pass at work the owner knows each block that was retired
  owner_retired : Home → RetiredKnown w.round w.died g.life (update v.work 0 idle) ((v.work 0).retired ++ v.ruling.retired)
  owner_retired h b x m u e = inr (⊎_elim
      (λ t. dite (ℕ_discrete t.0 0) (λ z. entry_left (v.work 0).retired v.ruling.retired b (subst (λ (a : ℕ). HasEntry (v.work a).retired b) z t.1)) (λ z. absurd (subst (λ (l : List ℕ). HasEntry l b) ((r.walks t.0).only (not_work h t.0) z).3 t.1)))
      (λ t. entry_right (v.work 0).retired v.ruling.retired b t) (r.retired b x m u e))

  -- no lists hold before the round and while it is rolled back
  no_lists : (p : Phase) (who : ℕ → ℕ → ℕ) → (p ≡ Resting) ⊎ (p ≡ RollingBack) → PlanRule s w.round p who (λ _. Vacant) v.work v.ruling.plan
  no_lists p who o = record { same = λ j e. absurd (cc); aim = λ l m. ⊎_elim (λ e. absurd (omega (arith, ap order e))) (λ e. absurd (omega (arith, ap order e))) o; within = λ i l m. ⊎_elim (λ e. absurd (omega (arith, ap order e))) (λ e. absurd (omega (arith, ap order e))) o; whole = λ i l m. ⊎_elim (λ e. absurd (omega (arith, ap order e))) (λ e. absurd (omega (arith, ap order e))) o; done = λ i e. ⊎_elim (λ f. absurd (cc)) (λ f. absurd (cc)) o }

  -- the history tells the last finished round's forest
  last_forest : (names : List ℕ) → EntryAt v.ruling.history v.ruling.finished names → (i : ℕ) → (HasEntry names i → Holds (g.who w.round) i) × (Holds (g.who w.round) i → HasEntry names i)
  last_forest names e i = subst (λ (q : ℕ). (HasEntry names i → Holds (g.who q) i) × (Holds (g.who q) i → HasEntry names i)) r.stock.finished (r.history.forests v.ruling.finished names e i)

  -- the first half begins: the lists of the round stand over the last forest of the history
  pub begins : (plan : Plan) (names : List ℕ) → EntryAt v.ruling.history v.ruling.finished names → IsTarget s (HasEntry names) plan → v.ruling.finished < s.rounds → v.ruling.phase ≡ Resting → v.ruling.cursor ≡ 1 → Rule s w n (record v { work = update v.work 0 idle; ruling = record v.ruling { phase = FirstHalf; cursor = 0; plan = plan } }) (record g { who = g.who })
  begins plan names last aim room z c = rephases (r.rules.halves (λ e. cc) (λ e. cc)) FirstHalf g.who 0 v.ruling.retired plan (λ _. let f = r.stock.finished in omega arith) (λ _. z)
      record { same = λ j e. absurd (cc); aim = λ _ _. target_on s (HasEntry names) (Holds (g.who w.round)) plan (last_forest names last) aim; within = λ i _ _ h. aim.olds i ((last_forest names last i).1 (h.0, sym (r.names.fresh i z) ∙ h.1)); whole = λ i l. absurd (omega arith); done = λ i e. absurd (cc) }
      (calm_retired ((λ e. cc), λ e. cc)) (λ _ h. inr h) (λ k e. absurd (omega arith)) (λ _ _. refl)
      (claims_phase FirstHalf (λ o e. cc) (λ _. (r.stock.cursor_is 0 c).1 ∙ sym (zero_total (places s) (λ x. draws_of (g.stage x)) (λ x. ap draws_of (r.claims.none x z)))) (λ x j m q h e. absurd (not_open j m q (sym h ∙ r.claims.none x z))) (λ x e. absurd (cc)))
      (λ x j m q h e. absurd (not_open j m q (sym h ∙ r.claims.none x z)))
      (names_phase FirstHalf (λ _. omega (arith, ap order z)) (λ _. ((λ e. cc), λ e. cc)) (λ _. omega (arith, ap order z)) (λ e. absurd (cc)))
      record { few = r.inside.few; rows = r.inside.rows; blocks = r.inside.blocks; stand_in = r.inside.stand_in; seconds = r.inside.seconds; hand_in = r.inside.hand_in; retired_in = r.inside.retired_in }

  -- the second half is planned: by the owner's view each claim has a living block, and each name that the round needs is bisected; so the current round is the target
  pub plans : (retire : List ℕ) → ((i : ℕ) → HasEntry v.ruling.plan.needs i → HasEntry (v.work 0).known i) → v.ruling.phase ≡ FirstHalf → Home → ((x m : ℕ) (p : Progress) → HasEntry (v.claims 0) (claim x m p) → (b : ℕ) × (p ≡ Living b)) → Rule s w n (record v { work = update v.work 0 idle; ruling = record v.ruling { phase = SecondHalf; plan = record v.ruling.plan { retire = retire } } }) (record g { who = g.who })
  plans retire known one h lives = rephases h SecondHalf g.who v.ruling.cursor v.ruling.retired (record v.ruling.plan { retire = retire }) (λ _. r.crew.rounds.1 (omega (arith, ap order one))) (λ e. absurd (cc))
      (let t = r.plan.aim (omega (arith, ap order one)) (omega (arith, ap order one)) in record {
        same = λ j e. absurd (cc);
        aim = λ _ _. record { closed = t.closed; olds = t.olds; needs = t.needs; least = t.least };
        within = λ i _ _. r.plan.within i (omega (arith, ap order one)) (omega (arith, ap order one));
        whole = λ i _ _ k. inl (t.least (g.who d) (bisected_closed s w n v g r d (inr (refl, omega (arith, ap order one)))) (λ a o. (o.0, r.names.grows a o.0 (omega (arith, ap order one)) o.1)) (λ a o. ((r.works 0).known a (known a o)).1) i k);
        done = λ i e. absurd (cc);
      })
      (calm_retired ((λ e. cc), λ e. cc)) (λ _ h. inr h) (λ k e. ((λ f. absurd (cc)), (r.stock.cursor_is k e).1)) (λ _ _. refl)
      (claims_phase SecondHalf (λ o e. cc) (λ e. absurd (cc)) (λ x j m q e _. lives x m q (subst (λ (i : ℕ). HasEntry (v.claims i) (claim x m q)) (home_claims h x j m q e) (r.claims.holds j x m q e))) (λ x e. absurd (cc)))
      (λ x j m q e f. absurd (cc)) (names_phase SecondHalf (λ _. omega (arith, ap order one)) (λ l. absurd (l.0 refl)) (λ l. absurd (omega arith)) (λ e. absurd (cc))) r.inside

  -- the round is closed: by the owner's view no listed patch is left
  pub closes : ((i : ℕ) → IsListed s v.ruling.plan.retire i → HasEntry (v.work 0).open_ i) → v.ruling.phase ≡ SecondHalf → Home → Rule s w n (record v { work = update v.work 0 idle; ruling = record v.ruling { phase = Closing; retired = (v.work 0).retired ++ v.ruling.retired } }) (record g { who = g.who })
  closes gone two h = rephases h Closing g.who v.ruling.cursor ((v.work 0).retired ++ v.ruling.retired) v.ruling.plan (λ _. r.crew.rounds.1 (omega (arith, ap order two))) (λ e. absurd (cc))
      record { same = λ j e. absurd (cc); aim = λ _ _. r.plan.aim (omega (arith, ap order two)) (omega (arith, ap order two)); within = λ i _ _. r.plan.within i (omega (arith, ap order two)) (omega (arith, ap order two)); whole = λ i _ _. r.plan.whole i (omega (arith, ap order two)) (omega (arith, ap order two)); done = λ i _ k. ((r.works 0).open_ i (gone i k)).1 }
      (owner_retired h) (λ b k. ⊎_elim (λ t. inl (0, t)) inr (entry_of_both (v.work 0).retired v.ruling.retired b k)) (λ k e. ((λ f. absurd (cc)), (r.stock.cursor_is k e).1)) (λ _ _. refl) (claims_phase Closing (λ o e. o refl) (λ e. absurd (cc)) (λ x j m q e f. absurd (cc)) (λ x e. absurd (cc)))
      (λ x j m q e f. absurd (cc)) (names_phase Closing (λ _. omega (arith, ap order two)) (λ l. absurd (l.1 refl)) (λ l. absurd (omega arith)) (λ e. absurd (cc)))
      record { few = r.inside.few; rows = r.inside.rows; blocks = r.inside.blocks; stand_in = r.inside.stand_in; seconds = r.inside.seconds; hand_in = r.inside.hand_in; retired_in = λ b t. ⊎_elim ((r.walks 0).retired_in b) (r.inside.retired_in b) (entry_of_both (v.work 0).retired v.ruling.retired b t) }

  -- the round is refused
  pub refuses : v.ruling.phase ≡ FirstHalf → Home → Rule s w n (record v { work = update v.work 0 idle; ruling = record v.ruling { phase = RollingBack } }) (record g { who = g.who })
  refuses one h = rephases h RollingBack g.who v.ruling.cursor v.ruling.retired v.ruling.plan (λ _. r.crew.rounds.1 (omega (arith, ap order one))) (λ e. absurd (cc)) (no_lists RollingBack g.who (inr refl)) (calm_retired ((λ e. cc), λ e. cc)) (λ _ h. inr h) (λ k e. ((λ f. absurd (cc)), (r.stock.cursor_is k e).1)) (λ _ _. refl) (claims_phase RollingBack (λ o e. cc) (λ e. absurd (cc)) (λ x j m q e f. absurd (cc)) (λ x e. absurd (cc)))
      (λ x j m q e f. absurd (cc)) (names_phase RollingBack (λ l. absurd (omega arith)) (λ _. ((λ e. cc), λ e. cc)) (λ l. absurd (omega arith)) (λ e. absurd (cc))) r.inside

  -- the next round reads as this one, while nothing is born or retired in it
  module _ (q : ℕ) (same_ : (b : ℕ) (t : Bool) (x : ℕ) → chained (g.life b) t ≡ x + 1 → (Covers w.born w.died q b → Covers w.born w.died (q + 1) b) × (Covers w.born w.died (q + 1) b → Covers w.born w.died q b)) (who : ℕ → ℕ) where
    refits : Fits s w.name w.head w.history w.born w.died g.life who q → Fits s w.name w.head w.history w.born w.died g.life who (q + 1)
    refits f = record {
      found = λ i b e. let h = f.found i b e in (h.0, h.1, h.2, h.3, h.4, later q h.1 b (λ k. (same_ b h.0 h.1 h.3).0 k) h.5.0 (w.head h.1) h.5.1);
      both = f.both;
    }
      where
        later : (q x c : ℕ) → (Covers w.born w.died q c → Covers w.born w.died (q + 1) c) → (ts : List (ℕ × Bool)) (l : Node) → Finds w.history w.born w.died g.life q x c l ts → Reaches w.history w.born w.died g.life (q + 1) x c l
        later q x c k [] l h = absurd h
        later q x c k (t ∷ ts) l h = ⊎_elim (λ z. (t ∷ [], (h.0, h.1, inl (z.0, k z.1)))) (λ z. let u = later q x c k ts (w.history (member_of t.0 t.1)) z in (t ∷ u.0, (h.0, h.1, inr u.1))) h.2

    resounds : IsSound s w.name w.born w.died g.life who q → IsSound s w.name w.born w.died g.life who (q + 1)
    resounds h b t x c k = h b t x c ((same_ b t x c).1 k)

  no_unborn : Home → v.claims 0 ≡ [] → (b x m : ℕ) → g.life b ≡ Placed x m → w.born b ≡ 0 → ⊥
  no_unborn h none b x m u z = let t = r.claims.half b x m u z in let o = all_open h none x in ⊎_elim (λ e. not_open _ _ _ (sym e ∙ o)) (λ e. not_open _ _ _ (sym e ∙ o)) t.1

  -- the round is rolled back: its claims have ended, and the current round is again as the last
  pub restores : v.ruling.phase ≡ RollingBack → v.claims 0 ≡ [] → Rule s w n (record v { work = update v.work 0 idle; ruling = record v.ruling { phase = Resting } }) (record g { who = update g.who d (g.who w.round) })
  restores four none = rephases home Resting who' v.ruling.cursor v.ruling.retired v.ruling.plan (λ l. absurd (omega arith)) (λ e. absurd (cc)) (no_lists Resting who' (inl refl)) (calm_retired ((λ e. cc), λ e. cc)) (λ _ h. inr h) (λ k e. ((λ f. absurd (cc)), (r.stock.cursor_is k e).1)) old
      (claims_phase Resting (λ o e. cc) (λ e. absurd (cc)) (λ x j m q e f. absurd (cc)) (λ x _. all_open home none x)) (λ x j m q e f. absurd (cc))
      record {
        fits = λ q k. ⊎_elim (λ e. subst (λ (f : ℕ → ℕ). Fits s w.name w.head w.history w.born w.died g.life f q) (sym (old q (low s w n v g r q e))) (r.names.fits q (inl e)))
            (λ e. subst (λ (i : ℕ). Fits s w.name w.head w.history w.born w.died g.life (who' i) i) (sym e.0) (subst (λ (f : ℕ → ℕ). Fits s w.name w.head w.history w.born w.died g.life f d) (sym (update_same g.who d (g.who w.round))) (refits w.round same_ (g.who w.round) (r.names.fits w.round (inl (inl refl)))))) k;
        sound = λ q k. ⊎_elim (λ e. subst (λ (f : ℕ → ℕ). IsSound s w.name w.born w.died g.life f q) (sym (old q (low s w n v g r q e))) (r.names.sound q (inl e)))
            (λ e. subst (λ (i : ℕ). IsSound s w.name w.born w.died g.life (who' i) i) (sym e.0) (subst (λ (f : ℕ → ℕ). IsSound s w.name w.born w.died g.life f d) (sym (update_same g.who d (g.who w.round))) (resounds w.round same_ (g.who w.round) (r.names.sound w.round (inl (inl refl)))))) k;
        patch = r.names.patch;
        one = r.names.one;
        calm = λ b x m l u. r.names.calm b x m ((λ e. cc), λ e. cc) u;
        grows = λ i b l e. ap (λ (f : ℕ → ℕ). f i) (update_same g.who d (g.who w.round)) ∙ (sym (ap (λ (f : ℕ → ℕ). f i) (old w.round (omega arith))) ∙ e);
        either = λ i b l e. inl (ap (λ (f : ℕ → ℕ). f i) (update_same g.who d (g.who w.round)) ∙ (sym (ap (λ (f : ℕ → ℕ). f i) (old w.round (omega arith))) ∙ e));
        fresh = λ i z. ap (λ (f : ℕ → ℕ). f i) (update_same g.who d (g.who w.round)) ∙ sym (ap (λ (f : ℕ → ℕ). f i) (old w.round (omega arith)));
      } r.inside
    where
      home : Home
      home = r.rules.halves (λ e. cc) (λ e. cc)

      who' : ℕ → ℕ → ℕ
      who' = update g.who d (g.who w.round)

      old : (q : ℕ) → q ≤ w.round → update g.who d (g.who w.round) q ≡ g.who q
      old q l = update_other g.who d q (g.who w.round) (λ (e : q ≡ w.round + 1). omega arith)

      same_ : (b : ℕ) (t : Bool) (x : ℕ) → chained (g.life b) t ≡ x + 1 → (Covers w.born w.died w.round b → Covers w.born w.died d b) × (Covers w.born w.died d b → Covers w.born w.died w.round b)
      same_ b t x c = let p = placed (g.life b) t x c in let calm = r.names.calm b p.0 p.1 ((λ e. cc), λ e. cc) p.2 in (
        (λ k. let k1 = k.1 in (k.0, omega arith, ⊎_elim inl (λ l. absurd (omega arith)) k.2)),
        λ k. let k1 = k.1 in (k.0, elim (dec_lt w.round (w.born b)) [ yes l ↦ absurd (let a = r.claims.kept b p.0 p.1 p.2 (omega arith) (λ e. cc) in not_open a.0 p.1 (Living b) (sym a.1 ∙ all_open home none p.0)) | no o ↦ omega arith ], ⊎_elim inl (λ l. inr (omega arith)) k.2),
      )

  -- the owner owns the place's LINK, which names another block or has a retired round
  abbrev pub IsStamped : ℕ → ℕ → Type 0
  IsStamped x b = (l : Node) × Noted (v.owned 0).head x l × ((l.block ≡ b + 1 → ⊥) ⊎ (0 < l.died))

  -- the round is finished: the history has its forest, the target less the listed patches
  pub advances : (forest : List ℕ) → ((i : ℕ) → HasEntry forest i → HasEntry v.ruling.plan.target i × (IsListed s v.ruling.plan.retire i → ⊥)) → ((i : ℕ) → HasEntry v.ruling.plan.target i → (IsListed s v.ruling.plan.retire i → ⊥) → HasEntry forest i) → v.ruling.phase ≡ Closing → v.claims 0 ≡ [] → ((b : ℕ) → HasEntry ((v.work 0).retired ++ v.ruling.retired) b → (x : ℕ) × (m : ℕ) × HasEntry v.ruling.placed (b, x, m) × IsStamped x b × ((y : ℕ) → m ≡ y + 1 → IsStamped y b))
      → Rule s (record w { round = d; taken = 0 }) n (record v { work = update v.work 0 idle; ruling = record v.ruling { phase = Resting; finished = v.ruling.finished + 1; early = v.ruling.readers; history = v.ruling.history ++ forest ∷ []; left = (w.round, w.taken) ∷ v.ruling.left; retired = []; kept = ((v.work 0).retired ++ v.ruling.retired) ++ v.ruling.kept; seen = 0; quiet = false } }) (record g { who = update g.who (d + 1) (g.who d) })
  advances forest of all three none shown = record {
    names_apart = r.names_apart;
    claims = record {
      held = r.claims.held;
      holds = r.claims.holds;
      bits = r.claims.bits;
      inside = r.claims.inside;
      mates = r.claims.mates;
      shape = λ x j m p e. absurd (not_open j m p (sym e ∙ open_ x));
      kept = λ b x m u e o. let l = r.chains.borns b in absurd (omega arith);
      half = r.claims.half;
      rows = r.claims.rows;
      apart = r.claims.apart;
      drawn = λ e. absurd (cc);
      living = λ x j m q e f. absurd (cc);
      none = λ x _. open_ x;
    };
    labels = λ x j m q e f. absurd (cc);
    chains = ends_round (λ _. Unit {0}) (Went w.round w.died v.kind v.work v.read) s.elements w.round w.head w.history w.born w.died g.life r.chains stamped;
    names = record {
      fits = λ q k. ⊎_elim (λ e. kept_fits q e)
          (λ e. subst (λ (i : ℕ). Fits s w.name w.head w.history w.born w.died g.life (who' i) i) (sym e.0) (subst (λ (f : ℕ → ℕ). Fits s w.name w.head w.history w.born w.died g.life f (d + 1)) (sym (update_same g.who (d + 1) (g.who d))) (refits d same_ (g.who d) (r.names.fits d said)))) k;
      sound = λ q k. ⊎_elim (λ e. kept_sound q e)
          (λ e. subst (λ (i : ℕ). IsSound s w.name w.born w.died g.life (who' i) i) (sym e.0) (subst (λ (f : ℕ → ℕ). IsSound s w.name w.born w.died g.life f (d + 1)) (sym (update_same g.who (d + 1) (g.who d))) (resounds d same_ (g.who d) (r.names.sound d said)))) k;
      patch = r.names.patch;
      one = r.names.one;
      calm = λ b x m l u. elim (dec_lt 0 (w.died b)) [ yes p ↦ (r.chains.dieds b x m u p).2 | no o ↦ omega arith ];
      grows = λ i b l e. ap (λ (f : ℕ → ℕ). f i) (update_same g.who (d + 1) (g.who d)) ∙ (sym (ap (λ (f : ℕ → ℕ). f i) (old d (omega arith))) ∙ e);
      either = λ i b l e. inl (ap (λ (f : ℕ → ℕ). f i) (update_same g.who (d + 1) (g.who d)) ∙ (sym (ap (λ (f : ℕ → ℕ). f i) (old d (omega arith))) ∙ e));
      fresh = λ i z. ap (λ (f : ℕ → ℕ). f i) (update_same g.who (d + 1) (g.who d)) ∙ sym (ap (λ (f : ℕ → ℕ). f i) (old d (omega arith)));
    };
    pins = record {
      now = (r.pins.later d (omega arith)).0;
      later = λ q l. r.pins.later q (omega arith);
      count = r.pins.count;
      past = λ j q e. let l = r.pins.past j q e in omega arith;
      few = r.pins.few;
      readers = r.pins.readers;
      spent = r.pins.spent;
      most = r.pins.most;
      bound = let b = r.pins.bound in omega arith;
    };
    works = idle_works home d Resting w.name w.born w.died g.life (who' (d + 1));
    walks = idle_walks home d Resting w.name w.history w.born w.died g.life who';
    owned = r.owned;
    goes = λ i. let t = goes_who s w.round w.name w.history w.born w.died g.life g.who who' (λ q l. old q (omega arith)) (v.read i) (λ q e. r.pins.past i q e) (r.goes i) in
        record { went = t.went; walk = t.walk; sided = t.sided; dated = t.dated; places = t.places; yes_notes = λ k q h. let a = t.yes_notes k q h in let a0 = a.0 in (omega arith, a.1); no_notes = λ k q h. let a = t.no_notes k q h in let a0 = a.0 in (omega arith, a.1) };
    rules = record { owner = r.rules.owner; one = r.rules.one; workers = r.rules.workers; readers = r.rules.readers; few_readers = r.rules.few_readers; halves = λ _ _. home; drained = λ q h. let t = r.rules.drained q h in let t0 = t.0 in (omega arith, t.1) };
    stock = record { finished = ap (λ (i : ℕ). i + 1) r.stock.finished; cursor_is = λ k e. ((λ f. absurd (cc)), (r.stock.cursor_is k e).1); free_is = r.stock.free_is; left = λ q k h. ⊎_elim (λ e. let a : q ≡ w.round = ap (λ (t : ℕ × ℕ). t.0) e in let b : k ≡ w.taken = ap (λ (t : ℕ × ℕ). t.1) e in (omega arith, ap g.pins a ∙ r.pins.now ∙ sym b)) (λ t. let u = r.stock.left q k t in let u0 = u.0 in (omega arith, u.1)) h };
    note = record { rolled_back = r.note.rolled_back; all = r.note.all; placed = r.note.placed; seen = λ x e. absurd (omega arith); quiet = λ e. absurd (cc) };
    retired = λ b x m u e. elim (dec_lt 0 (w.died b)) [ yes p ↦ let t = (r.chains.dieds b x m u p).2 in absurd (omega arith) | no o ↦ absurd (omega arith) ];
    plan = record { same = λ j k. absurd (not_work home j k); aim = λ l. absurd (omega arith); within = λ i l. absurd (omega arith); whole = λ i l. absurd (omega arith); done = λ i e. absurd (cc) };
    history = record {
      rounds = let l = r.history.rounds in let e : length (v.ruling.history ++ forest ∷ []) ≡ length v.ruling.history + 1 = length_more v.ruling.history forest in omega arith;
      forests = λ q names e i. ⊎_elim (λ t. (history_who w.round g.who who' v.read v.ruling.history (λ q l. old q (omega arith)) r.history).forests q names t i)
          (λ t. let l = r.history.rounds in let z : q ≡ d = t.0 ∙ l in let f : who' q ≡ g.who d = ap who' z ∙ old d (omega arith) in
          ((λ h. subst (λ (x : ℕ → ℕ). Holds x i) (sym f) (held i (subst (λ (x : List ℕ). HasEntry x i) t.1 h))), λ h. subst (λ (x : List ℕ). HasEntry x i) (sym t.1) (holds_ i (subst (λ (x : ℕ → ℕ). Holds x i) f h))))
          (entry_more v.ruling.history forest q names e);
      told = λ j. let t = r.history.told j in (t.0 ++ forest ∷ [], ap (λ (x : List (List ℕ)). x ++ forest ∷ []) t.1 ∙ append_assoc (v.read j).told t.0 (forest ∷ []));
      seen = λ j. let t = r.history.seen j in let t0 = t.0 in (omega arith, t.1);
      made = r.history.made;
    };
    drawn = idle_drawn home Resting w.cursor w.free w.row;
    draws = λ x j m q e. absurd (cc);
    crew = crew_free s d Resting v.kind (update v.work 0 idle) g.stage v.ruling.lone ((let l = r.crew.rounds.1 (omega (arith, ap order three)) in omega arith), λ l. absurd (omega arith)) (λ _ j k. absurd (not_work home j k));
    inside = record { few = r.inside.few; rows = r.inside.rows; blocks = r.inside.blocks; stand_in = r.inside.stand_in; seconds = r.inside.seconds; hand_in = r.inside.hand_in; retired_in = λ b h. absurd h };
    named = r.named;
    once = r.once;
    holders = r.holders;
    hand = r.hand;
    grows = idle_grows home d Resting w.name w.born (who' (d + 1));
    retireds = λ b k. absurd (⊎_elim (λ t. idle_retired b t.0 t.1) (λ f. f) k);
    frees = r.frees;
    known = r.known;
    kept = record {
      all = λ b x m u p l. elim (dec_lt w.round (w.died b)) [
        | yes k ↦ entry_left ((v.work 0).retired ++ v.ruling.retired) v.ruling.kept b (all_retired b x m u (omega arith))
        | no k ↦ entry_right ((v.work 0).retired ++ v.ruling.retired) v.ruling.kept b (r.kept.all b x m u p (omega arith))
      ];
      right = λ b h. ⊎_elim
          (λ h. let t = r.retireds b (⊎_elim (λ a. inl (0, a)) inr (entry_of_both (v.work 0).retired v.ruling.retired b h)) in let e = t.3 in (t.0, t.1, t.2, omega arith, omega arith))
          (λ h. let t = r.kept.right b h in let l = t.4 in (t.0, t.1, t.2, t.3, omega arith)) (entry_of_both ((v.work 0).retired ++ v.ruling.retired) v.ruling.kept b h);
    };
    early = r.rules.readers ∙ sym (sum_same n (λ j. digit (is_reader (v.kind j))) (λ j. is_early d (v.kind j) (v.read j)) (λ j _. early_now j));
  }
    where
      home : Home
      home = r.rules.halves (λ e. cc) (λ e. cc)

      -- each reader's pass was made before
      early_now : (j : ℕ) → is_early d (v.kind j) (v.read j) ≡ digit (is_reader (v.kind j))
      early_now j = dite (kind_discrete (v.kind j) Reader) (λ e. early_one d (v.kind j) (v.read j) e (let a = (r.history.made j).0 in let b = (r.history.seen j).0 in omega arith) ∙ sym (reader_is (v.kind j) e)) (λ o. early_none d (v.kind j) (v.read j) o ∙ sym (reader_not (v.kind j) o))

      idle_retired : (b j : ℕ) → HasEntry (update v.work 0 idle j).retired b → ⊥
      idle_retired b = update_cases (λ j u. HasEntry u.retired b → ⊥) v.work 0 idle (λ h. h) (λ j ne h. subst (λ (l : List ℕ). HasEntry l b) ((r.walks j).only (not_work home j) ne).3 h)

      -- the owner knows each block that was retired in the round
      all_retired : (b x m : ℕ) → g.life b ≡ Placed x m → w.died b ≡ d → HasEntry ((v.work 0).retired ++ v.ruling.retired) b
      all_retired b x m u e = ⊎_elim
          (λ t. dite (ℕ_discrete t.0 0) (λ z. entry_left (v.work 0).retired v.ruling.retired b (subst (λ (a : ℕ). HasEntry (v.work a).retired b) z t.1)) (λ z. absurd (subst (λ (l : List ℕ). HasEntry l b) ((r.walks t.0).only (not_work home t.0) z).3 t.1)))
          (λ t. entry_right (v.work 0).retired v.ruling.retired b t) (r.retired b x m u e)

      -- the forest is that of the current round
      held : (i : ℕ) → HasEntry forest i → Holds (g.who d) i
      held i h = let t = of i h in ⊎_elim (λ k. k) (λ k. absurd (t.1 k)) (r.plan.whole i (omega (arith, ap order three)) (omega (arith, ap order three)) t.0)

      holds_ : (i : ℕ) → Holds (g.who d) i → HasEntry forest i
      holds_ i h = all i (r.plan.within i (omega (arith, ap order three)) (omega (arith, ap order three)) h) (λ k. let z = r.plan.done i three k in let y = h.1 in omega arith)

      -- the LINK of a place that names a retired block has its round
      off : (x b : ℕ) → IsStamped x b → (w.head x).block ≡ b + 1 → (w.head x).died ≡ 0 → ⊥
      off x b t e z = let h = (r.owned 0).head_is x t.0 t.1 (inl (refl, home)) in ⊎_elim (λ q. q (ap (λ (l : Node). l.block) (sym h) ∙ e)) (λ q. let y : t.0.died ≡ 0 = ap (λ (l : Node). l.died) (sym h) ∙ z in omega arith) t.2

      stamped : (x b : ℕ) → IsPlace s.elements g.life x → (w.head x).block ≡ b + 1 → (w.head x).died ≡ 0 → w.died b ≡ 0
      stamped x b live e z = let t = named (λ _. Unit {0}) (Went w.round w.died v.kind v.work v.read) s.elements w.round w.head w.history w.born w.died g.life r.chains x b (w.head x) (r.chains.heads x live) e in let p = placed (g.life b) t.0 x t.1 in
          ⊎_elim (λ k. k) (λ k. absurd (let q = shown b (⊎_elim (λ q. absurd (idle_none q.0 q.1)) (λ q. q) (owner_retired home b p.0 p.1 p.2 k)) in at t.0 t.1 p.0 p.1 p.2 (q.0, q.1, q.2, q.3, q.4))) (died_of (r.chains.heads x live))
        where
          idle_none : (j : ℕ) → HasEntry (update v.work 0 idle j).retired b → ⊥
          idle_none = update_cases (λ j u. HasEntry u.retired b → ⊥) v.work 0 idle (λ h. h) (λ j ne h. subst (λ (l : List ℕ). HasEntry l b) ((r.walks j).only (not_work home j) ne).3 h)

          died_of : IsHead w.round w.died g.life x (w.head x) → (w.died b ≡ 0) ⊎ (w.died b ≡ w.round + 1)
          died_of (inl o) = let y : 0 ≡ b + 1 = sym (ap (λ (l : Node). l.block) o) ∙ e in absurd (omega arith)
          died_of (inr o) = subst (λ (i : ℕ). (w.died i ≡ 0) ⊎ (w.died i ≡ w.round + 1)) (one_more o.0 b (sym o.2 ∙ e)) (o.5 z)

          at : (t : Bool) → chained (g.life b) t ≡ x + 1 → (a i : ℕ) → g.life b ≡ Placed a i → (y : ℕ) × (m : ℕ) × HasEntry v.ruling.placed (b, y, m) × IsStamped y b × ((q : ℕ) → m ≡ q + 1 → IsStamped q b) → ⊥
          at t c a i u k = ⊎_elim (λ e. side t k (ap (λ (l : Life). chained l t) (sym e) ∙ c)) (λ e. clash a i k.0 k.1 (sym u ∙ e)) (r.note.placed b k.0 k.1 k.2)
            where
              clash : (a i y m : ℕ) → Placed a i ≡ RolledBack y m → ⊥
              clash a i y m e = cc

              side : (t : Bool) → (k : (y : ℕ) × (m : ℕ) × HasEntry v.ruling.placed (b, y, m) × IsStamped y b × ((q : ℕ) → m ≡ q + 1 → IsStamped q b)) → chained (Placed k.0 k.1) t ≡ x + 1 → ⊥
              side true k q = off x b (k.4 x q) e z
              side false k q = off x b (subst (λ (i : ℕ). IsStamped i b) (one_more k.0 x q) k.3) e z

      open_ : (x : ℕ) → g.stage x ≡ Open
      open_ x = all_open home none x

      who' : ℕ → ℕ → ℕ
      who' = update g.who (d + 1) (g.who d)

      old : (q : ℕ) → q ≤ w.round + 1 → update g.who (w.round + 1 + 1) (g.who (w.round + 1)) q ≡ g.who q
      old q l = update_other g.who (d + 1) q (g.who d) (λ (e : q ≡ w.round + 1 + 1). omega arith)

      said : MayRead w.round v.ruling.phase v.read (w.round + 1)
      said = inr (refl, omega (arith, ap order three))

      kept_fits : (q : ℕ) → IsKept (w.round + 1) v.read q → Fits s w.name w.head w.history w.born w.died g.life (who' q) q
      kept_fits q (inl e) = subst (λ (i : ℕ). Fits s w.name w.head w.history w.born w.died g.life (who' i) i) (sym e) (subst (λ (f : ℕ → ℕ). Fits s w.name w.head w.history w.born w.died g.life f (w.round + 1)) (sym (old (w.round + 1) (omega arith))) (r.names.fits (w.round + 1) said))
      kept_fits q (inr t) = let l = r.pins.past t.0 q t.1 in subst (λ (f : ℕ → ℕ). Fits s w.name w.head w.history w.born w.died g.life f q) (sym (old q (omega arith))) (r.names.fits q (inl (inr t)))

      kept_sound : (q : ℕ) → IsKept (w.round + 1) v.read q → IsSound s w.name w.born w.died g.life (who' q) q
      kept_sound q (inl e) = subst (λ (i : ℕ). IsSound s w.name w.born w.died g.life (who' i) i) (sym e) (subst (λ (f : ℕ → ℕ). IsSound s w.name w.born w.died g.life f (w.round + 1)) (sym (old (w.round + 1) (omega arith))) (r.names.sound (w.round + 1) said))
      kept_sound q (inr t) = let l = r.pins.past t.0 q t.1 in subst (λ (f : ℕ → ℕ). IsSound s w.name w.born w.died g.life f q) (sym (old q (omega arith))) (r.names.sound q (inl (inr t)))

      same_ : (b : ℕ) (t : Bool) (x : ℕ) → chained (g.life b) t ≡ x + 1 → (Covers w.born w.died d b → Covers w.born w.died (d + 1) b) × (Covers w.born w.died (d + 1) b → Covers w.born w.died d b)
      same_ b t x c = let p = placed (g.life b) t x c in let l = r.chains.borns b in let m : w.died b ≤ w.round + 1 = elim (dec_lt 0 (w.died b)) [ yes z ↦ (r.chains.dieds b p.0 p.1 p.2 z).2 | no o ↦ omega arith ] in (
        (λ k. let k1 = k.1 in (k.0, omega arith, ⊎_elim inl (λ z. absurd (omega arith)) k.2)),
        λ k. (k.0, omega arith, ⊎_elim inl (λ z. absurd (omega arith)) k.2),
      )
