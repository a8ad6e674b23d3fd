-- A worker's pass ends, and the owner has its claims and what it knows.
use Rattle.std.proofs.Common.{◌≡◌, ◌≢◌, ℕ, ◌+◌, ◌<◌, ◌≤◌, ◌==◌, cond, Bool, [], ◌++◌, ◌⊎◌, refl, sym, ap, ◌∙◌, inl, inr, ⊎_elim, arith, eq-eqb, ne_eqb, subst, false}
use mathlib.Core.Logic.{dite}
use native.Mathlib.Decide.{ℕ_discrete, dec_lt}
use Rattle.table_words.specs.Setup.{Setup, places}
use Rattle.table_words.specs.Functions.{update}
use Rattle.table_words.specs.Sums.{sum_below, one_where}
use Rattle.table_words.specs.Words.{Words}
use Rattle.table_words.specs.Views.{no_plan, Views, Work, Still, owns_nothing, unread, Kind, Vacant, Worker, is_worker, is_reader, FirstHalf, Resting}
use Rattle.table_words.specs.Claims.{Progress, Drawn, Half, Whole, Living, claim}
use Rattle.table_words.specs.Entries.{HasEntry}
use Rattle.table_words.proofs.Functions.{update_same, update_at, update_other, update_cases}
use Rattle.table_words.proofs.Sums.{sum_update, sum_same}
use Rattle.table_words.proofs.Entries.{entry_of_both, entry_left, entry_right}
use Rattle.table_state.specs.Ghosts.{Stage, Open, Held, Ghost}
use Rattle.table_state.specs.Claims.{draws_of, bit_of}
use Rattle.table_state.specs.Work.{WorkRule, WalkRule}
use Rattle.table_state.specs.Owned.{GuardsBlock, GuardsHead, OwnedRule}
use Rattle.table_state.specs.Rule.{Rule}
use Rattle.table_state.specs.Inside.{ListedOnce}
use Rattle.table_state.proofs.Inside.{once_both}
use Rattle.table_state.proofs.FoundAgain.{still_not, walks_idle}
use Rattle.table_state.proofs.HeldClaims.{not_open, held_one}
use Rattle.table_state.proofs.Lists.{plan_on}
use Rattle.table_state.specs.Fresh.{idle}
use Rattle.table_steps.specs.OwnerSteps.{joined_work}
use Rattle.table_steps.proofs.Pinning.{forgets}
use Rattle.table_state.specs.Owner.{is_early}
use Rattle.table_state.proofs.Known.{early_none}
use Rattle.table_state.specs.Claims.{block_of}
use Rattle.table_state.specs.Work.{GrownRule}
use Rattle.mesh_names.specs.Names.{digit}
use Rattle.table_words.proofs.SeatKinds.{worker_is, reader_not}

abbrev pub moved : ℕ → Stage → Stage
moved j Open = Open
moved j (Held i m p) = Held (cond (i == j) 0 i) m p

moved_bit : (j : ℕ) (t : Stage) → bit_of (moved j t) ≡ bit_of t
moved_bit j Open = refl
moved_bit j (Held i m p) = refl

moved_draws : (j : ℕ) (t : Stage) → draws_of (moved j t) ≡ draws_of t
moved_draws j Open = refl
moved_draws j (Held i m p) = refl

moved_back : (j : ℕ) (t : Stage) (i m : ℕ) (p : Progress) → moved j t ≡ Held i m p → ((i ≢ j) × (t ≡ Held i m p)) ⊎ ((i ≡ 0) × (t ≡ Held j m p))
moved_back j Open i m p e = absurd (not_open i m p (sym e))
moved_back j (Held a b q) i m p e = dite (ℕ_discrete a j)
    (λ f. let t = held_one 0 i b m q p ((λ k. Held (sym (ap (λ (x : Bool). cond {A = ℕ} x 0 a) (eq-eqb a j f)) k) b q) ∙ e) in inr (sym t.0, λ k. Held (f k) (t.1 k) (t.2 k)))
    (λ o. let t = held_one a i b m q p ((λ k. Held (sym (ap (λ (x : Bool). cond {A = ℕ} x 0 a) (ne_eqb a j o)) k) b q) ∙ e) in inl ((λ (k : i ≡ j). o (t.0 ∙ k)), λ k. Held (t.0 k) (t.1 k) (t.2 k)))

moved_open : (j : ℕ) (t : Stage) → t ≡ Open → moved j t ≡ Open
moved_open j t e = ap (moved j) e

moved_to : (j i m : ℕ) (p : Progress) (t : Stage) → t ≡ Held i m p → i ≡ j → moved j t ≡ Held 0 m p
moved_to j i m p t e f = ap (moved j) e ∙ (λ k. Held (ap (λ (x : Bool). cond {A = ℕ} x 0 i) (eq-eqb i j f) k) m p)

moved_not : (j i m : ℕ) (p : Progress) (t : Stage) → t ≡ Held i m p → i ≢ j → moved j t ≡ Held i m p
moved_not j i m p t e o = ap (moved j) e ∙ (λ k. Held (ap (λ (x : Bool). cond {A = ℕ} x 0 i) (ne_eqb i j o) k) m p)

module _ (s : Setup) (w : Words) (n : ℕ) (v : Views) (g : Ghost) (r : Rule s w n v g) (j : ℕ) (far : j ≢ 0) (kind : v.kind j ≡ Worker) where
  abbrev stage' : ℕ → Stage
  stage' x = moved j (g.stage x)

  -- a claim before, whosever it is now
  was : (x i m : ℕ) (p : Progress) → stage' x ≡ Held i m p → (k : ℕ) × (g.stage x ≡ Held k m p)
  was x i m p h = ⊎_elim (λ t. (i, t.1)) (λ t. (j, t.1)) (moved_back j (g.stage x) i m p h)

  now : (x i m : ℕ) (p : Progress) → g.stage x ≡ Held i m p → (k : ℕ) × (stage' x ≡ Held k m p)
  now x i m p h = dite (ℕ_discrete i j) (λ e. (0, moved_to j i m p (g.stage x) h e)) (λ o. (i, moved_not j i m p (g.stage x) h o))

  two_at : {B : Type 0} (P : ℕ → B → Type 0) (f : ℕ → B) (a b : B) → P 0 a → P j b → ((i : ℕ) → i ≢ 0 → i ≢ j → P i (f i)) → (i : ℕ) → P i (update (update f 0 a) j b i)
  two_at P f a b p0 pj others = update_cases P (update f 0 a) j b pj (λ i o. update_cases (λ i x. i ≢ j → P i x) f 0 a (λ _. p0) (λ i z o. others i z o) i o)

  inside : j < n
  inside = elim (dec_lt j n) [ yes l ↦ l | no o ↦ let z = r.pins.few j (omega arith) in absurd (cc) ]

  kind_sum : (k : Kind → Bool) → sum_below n (λ i. digit (k (update v.kind j Vacant i))) + digit (k (v.kind j)) ≡ sum_below n (λ i. digit (k (v.kind i))) + digit (k Vacant)
  kind_sum k = sum_update n (λ i. digit (k (v.kind i))) (λ i. digit (k (update v.kind j Vacant i))) j inside (λ i o. ap (λ (x : Kind). digit (k x)) (update_other v.kind j i Vacant o)) ∙ ap (λ (x : Kind). sum_below n (λ i. digit (k (v.kind i))) + digit (k x)) (update_same v.kind j Vacant)

  abbrev joined : Work
  joined = record { half = Resting; round = 0; number = 0; plan = no_plan; drawn = (v.work 0).drawn ++ (v.work j).drawn; found = (v.work 0).found ++ (v.work j).found; known = (v.work 0).known ++ (v.work j).known; open_ = (v.work 0).open_ ++ (v.work j).open_; given = (v.work 0).given ++ (v.work j).given; absent = (v.work 0).absent ++ (v.work j).absent; stood = (v.work 0).stood ++ (v.work j).stood; had = (v.work 0).had ++ (v.work j).had; grown = (v.work 0).grown ++ (v.work j).grown; retired = (v.work 0).retired ++ (v.work j).retired; went = []; walk = Still }

  -- the owner has the claims and the knowledge of both, and owns no word, where the pass has read nothing
  takes : v.read j ≡ unread → (workers : ℕ) → v.ruling.workers ≡ workers + 1
      → Rule s w n (record v { kind = update v.kind j Vacant; claims = update (update v.claims 0 (v.claims 0 ++ v.claims j)) j []; work = update (update v.work 0 record { half = Resting; round = 0; number = 0; plan = no_plan; drawn = (v.work 0).drawn ++ (v.work j).drawn; found = (v.work 0).found ++ (v.work j).found; known = (v.work 0).known ++ (v.work j).known; open_ = (v.work 0).open_ ++ (v.work j).open_; given = (v.work 0).given ++ (v.work j).given; absent = (v.work 0).absent ++ (v.work j).absent; stood = (v.work 0).stood ++ (v.work j).stood; had = (v.work 0).had ++ (v.work j).had; grown = (v.work 0).grown ++ (v.work j).grown; retired = (v.work 0).retired ++ (v.work j).retired; went = []; walk = Still }) j idle; owned = update (update v.owned 0 owns_nothing) j owns_nothing; ruling = record v.ruling { workers = workers; lone = false } }) (record g { stage = λ x. moved j (g.stage x) })
  takes spent workers one = record {
    names_apart = r.names_apart;
    claims = record {
      held = two_at (λ i cs. (x m : ℕ) (p : Progress) → HasEntry cs (claim x m p) → stage' x ≡ Held i m p) v.claims (v.claims 0 ++ v.claims j) []
          (λ x m p h. ⊎_elim (λ t. moved_not j 0 m p (g.stage x) (r.claims.held 0 x m p t) (λ e. far (sym e))) (λ t. moved_to j j m p (g.stage x) (r.claims.held j x m p t) refl) (entry_of_both (v.claims 0) (v.claims j) (claim x m p) h))
          (λ x m p h. absurd h) (λ i a b x m p h. moved_not j i m p (g.stage x) (r.claims.held i x m p h) b);
      holds = two_at (λ i cs. (x m : ℕ) (p : Progress) → stage' x ≡ Held i m p → HasEntry cs (claim x m p)) v.claims (v.claims 0 ++ v.claims j) []
          (λ x m p h. ⊎_elim (λ t. entry_left (v.claims 0) (v.claims j) (claim x m p) (r.claims.holds 0 x m p t.1)) (λ t. entry_right (v.claims 0) (v.claims j) (claim x m p) (r.claims.holds j x m p t.1)) (moved_back j (g.stage x) 0 m p h))
          (λ x m p h. ⊎_elim (λ t. absurd (t.0 refl)) (λ t. absurd (far t.0)) (moved_back j (g.stage x) j m p h))
          (λ i a b x m p h. ⊎_elim (λ t. r.claims.holds i x m p t.1) (λ t. absurd (a t.0)) (moved_back j (g.stage x) i m p h));
      bits = λ x. r.claims.bits x ∙ sym (moved_bit j (g.stage x));
      inside = λ x l. moved_open j (g.stage x) (r.claims.inside x l);
      mates = λ x i y p h. let k = was x i (y + 1) p h in let t = r.claims.mates x k.0 y p k.1 in (moved_open j (g.stage y) t.0, λ z a q u. let b = was z a (y + 1) q u in t.1 z b.0 q b.1);
      shape = λ x i m p h. let k = was x i m p h in r.claims.shape x k.0 m p k.1;
      kept = λ b x m u e o. let t = r.claims.kept b x m u e o in now x t.0 m (Living b) t.1;
      half = λ b x m u e. let t = r.claims.half b x m u e in ⊎_elim (λ h. let k = now x t.0 m (Half b) h in (k.0, inl k.1)) (λ h. let k = now x t.0 m (Whole b) h in (k.0, inr k.1)) t.1;
      rows = r.claims.rows;
      apart = r.claims.apart;
      drawn = λ e. r.claims.drawn e ∙ sym (sum_same (places s) (λ x. draws_of (g.stage x)) (λ x. draws_of (stage' x)) (λ x _. moved_draws j (g.stage x)));
      living = λ x i m p h. let k = was x i m p h in r.claims.living x k.0 m p k.1;
      none = λ x e. moved_open j (g.stage x) (r.claims.none x e);
    };
    labels = λ x i m p h. let k = was x i m p h in r.labels x k.0 m p k.1;
    chains = r.chains;
    names = r.names;
    pins = record { now = r.pins.now; later = r.pins.later; count = r.pins.count; past = r.pins.past; few = λ i l. update_cases (λ i x. n ≤ i → x ≡ Vacant) v.kind j Vacant (λ _. refl) (λ i _. r.pins.few i) i l; readers = λ i o. r.pins.readers i (λ k. o (update_other v.kind j i Vacant (λ (e : i ≡ j). let z : v.kind i ≡ v.kind j = ap v.kind e in cc) ∙ k)); spent = λ i e. dite (ℕ_discrete i j) (λ f. ap v.read f ∙ spent) (λ o. r.pins.spent i (sym (update_other v.kind j i Vacant o) ∙ e)); most = r.pins.most; bound = r.pins.bound };
    works = λ i. let K : ℕ → Kind = update v.kind j Vacant in two_at (λ i u. WorkRule s w.round v.ruling.phase w.name w.born w.died g.life (g.who (w.round + 1)) (K i) i u) v.work _ idle
        (let a = r.works 0 in let b = r.works j in record {
          only = λ _ z. absurd (z refl);
          found = λ x k h. ⊎_elim (λ t. a.found x k t) (λ t. b.found x k t) (entry_of_both (v.work 0).found (v.work j).found (x, k) h);
          known = λ k h. ⊎_elim (λ t. a.known k t) (λ t. b.known k t) (entry_of_both (v.work 0).known (v.work j).known k h);
          open_ = λ k h. ⊎_elim (λ t. a.open_ k t) (λ t. b.open_ k t) (entry_of_both (v.work 0).open_ (v.work j).open_ k h);
          given = λ c k h. ⊎_elim (λ t. a.given c k t) (λ t. b.given c k t) (entry_of_both (v.work 0).given (v.work j).given (c, k) h);
        })
        record { only = λ _ _. (refl, refl, refl, refl); found = λ x k h. absurd h; known = λ k h. absurd h; open_ = λ k h. absurd h; given = λ c k h. absurd h }
        (λ i a b. let t = r.works i in record { only = λ o. t.only (λ k. o (update_other v.kind j i Vacant b ∙ k)); found = t.found; known = t.known; open_ = t.open_; given = t.given }) i;
    walks = λ i. let K : ℕ → Kind = update v.kind j Vacant in two_at (λ i u. WalkRule s w.round v.ruling.phase w.name w.history w.born w.died g.life g.who (K i) i u) v.work _ idle
        (let a = r.walks 0 in let b = r.walks j in record {
          still = λ _. (refl, refl);
          only = λ _ z. absurd (z refl);
          half = λ e. let z = update_other v.kind j 0 Vacant (λ e. far (sym e)) in let y = r.rules.owner.0 in absurd (cc);
          at_work = λ e. let z = update_other v.kind j 0 Vacant (λ e. far (sym e)) in let y = r.rules.owner.0 in absurd (cc);
          retired_in = λ k h. ⊎_elim (a.retired_in k) (b.retired_in k) (entry_of_both (v.work 0).retired (v.work j).retired k h);
          absent = λ k h. ⊎_elim (λ t. a.absent k t) (λ t. b.absent k t) (entry_of_both (v.work 0).absent (v.work j).absent k h);
          stood = λ x k h. ⊎_elim (λ t. a.stood x k t) (λ t. b.stood x k t) (entry_of_both (v.work 0).stood (v.work j).stood (x, k) h);
          had = λ c k h. ⊎_elim (λ t. a.had c k t) (λ t. b.had c k t) (entry_of_both (v.work 0).had (v.work j).had (c, k) h);
          went = λ c h. absurd h;
          walk = tt;
          sided = λ x n b t h. absurd (still_not x n b t h);
        })
        (walks_idle s w.round v.ruling.phase w.name w.history w.born w.died g.life g.who (K j) j Resting 0 0 no_plan (λ e. let z = update_same v.kind j Vacant in absurd (cc)) (λ e. let z = update_same v.kind j Vacant in absurd (cc)))
        (λ i a b. let t = r.walks i in record { still = λ o. t.still (λ k. o (update_other v.kind j i Vacant b ∙ k)); only = λ o. t.only (λ k. o (update_other v.kind j i Vacant b ∙ k)); half = λ e. t.half (sym (update_other v.kind j i Vacant b) ∙ e); at_work = λ e. t.at_work (sym (update_other v.kind j i Vacant b) ∙ e); retired_in = t.retired_in; absent = t.absent; stood = t.stood; had = t.had; went = t.went; walk = t.walk; sided = t.sided }) i;
    owned = two_at (λ i u. OwnedRule s.elements workers w.head w.history w.born w.died w.name w.row stage' i u) v.owned owns_nothing owns_nothing (nothing_owned 0) (nothing_owned j) (λ i a b. let t = r.owned i in record {
      head_is = λ z l f h. t.head_is z l f (head_was i a z h);
      history_is = λ c u l f h. t.history_is c u l f (block_was i a c h);
      died_is = λ c k f h. t.died_is c k f (block_was i a c h);
      name_is = λ c u k f h. t.name_is c u k f (block_was i a c h);
      born_is = λ c k f z _. absurd (a z);
      row_is = λ c k f z _. absurd (a z);
    });
    goes = r.goes;
    rules = record {
      owner = (update_other v.kind j 0 Vacant (λ e. far (sym e)) ∙ r.rules.owner.0, r.rules.owner.1);
      one = λ i e. dite (ℕ_discrete i j) (λ f. let z = update_at v.kind j i Vacant f in absurd (cc)) (λ o. r.rules.one i (sym (update_other v.kind j i Vacant o) ∙ e));
      workers = let a = kind_sum is_worker in let b = r.rules.workers in let c : digit (is_worker (v.kind j)) ≡ 1 = worker_is (v.kind j) kind in omega arith;
      readers = let a = kind_sum is_reader in let b = r.rules.readers in let c : digit (is_reader (v.kind j)) ≡ 0 = reader_not (v.kind j) (λ e. cc) in omega arith;
      few_readers = r.rules.few_readers;
      halves = λ a b. let z = r.rules.halves a b in omega arith;
      drained = r.rules.drained;
    };
    stock = record { finished = r.stock.finished; cursor_is = r.stock.cursor_is; free_is = r.stock.free_is; left = r.stock.left };
    note = record { rolled_back = r.note.rolled_back; all = r.note.all; placed = r.note.placed; seen = r.note.seen; quiet = r.note.quiet };
    retired = λ b x m u e. ⊎_elim (λ t. inl (moves_retired b t.0 t.1)) inr (r.retired b x m u e);
    plan = plan_on s w.round v.ruling.phase g.who v.kind (update v.kind j Vacant) v.work (update (update v.work 0 joined) j idle) v.ruling.plan (let K : ℕ → Kind = update v.kind j Vacant in two_at (λ i u. K i ≡ Worker → u.plan ≡ v.ruling.plan) v.work joined idle
        (λ e. let z = update_other v.kind j 0 Vacant (λ e. far (sym e)) in let y = r.rules.owner.0 in absurd (cc)) (λ e. let z = update_same v.kind j Vacant in absurd (cc)) (λ i a b e. r.plan.same i (sym (update_other v.kind j i Vacant b) ∙ e))) r.plan;
    history = r.history;
    drawn = record {
      only = let K : ℕ → Kind = update v.kind j Vacant in two_at (λ i u. (K i ≡ Worker → ⊥) → (i ≡ 0 → ⊥) → u.drawn ≡ []) v.work joined idle (λ _ z. absurd (z refl)) (λ _ _. refl) (λ i a b o z. r.drawn.only i (λ k. o (update_other v.kind j i Vacant b ∙ k)) z);
      drawn = λ i a b h. let t = whose i a b h in r.drawn.drawn t.1 a b t.2;
      apart = λ i k a b c h l. let t = whose i a b h in let u = whose k a c l in let e = r.drawn.apart t.1 u.1 a b c t.2 u.2 in
          ⊎_elim (λ x. ⊎_elim (λ y. sym x ∙ e ∙ y) (λ y. absurd (t.0 (sym x ∙ e ∙ y.1))) u.3) (λ x. ⊎_elim (λ y. absurd (u.0 (sym y ∙ sym e ∙ x.1))) (λ y. x.0 ∙ sym y.0) u.3) t.3;
    };
    draws = λ x i m p one e f. ⊎_elim (λ t. let u = r.draws x i m p one t.1 f in (u.0, drawn_now i u.0 (block_of p) u.1 t.0)) (λ t. let u = r.draws x j m p one t.1 f in (u.0, subst (λ (c : ℕ). HasEntry (update (update v.work 0 joined) j idle c).drawn (u.0, block_of p)) (sym t.0) (own_now u.0 (block_of p) (entry_right (v.work 0).drawn (v.work j).drawn (u.0, block_of p) u.1)))) (moved_back j (g.stage x) i m p e);
    crew = let K : ℕ → Kind = update v.kind j Vacant in record { rounds = r.crew.rounds; alone = λ i one k z. absurd (last i one k z); none = λ i one l k z. last i one k z };
    inside = record { few = r.inside.few; rows = r.inside.rows; blocks = r.inside.blocks; stand_in = r.inside.stand_in; seconds = λ x i y p h. let k = was x i (y + 1) p h in r.inside.seconds x k.0 y p k.1; hand_in = r.inside.hand_in; retired_in = r.inside.retired_in };
    named = r.named;
    once = two_at (λ _ cs. ListedOnce cs) v.claims (v.claims 0 ++ v.claims j) [] (once_both (v.claims 0) (v.claims j) (λ x m k p q a b. far (sym (held_one 0 j m k p q (sym (r.claims.held 0 x m p a) ∙ r.claims.held j x k q b)).0)) (r.once 0) (r.once j)) tt (λ i _ _. r.once i);
    holders = λ x i m p h. ⊎_elim (λ t. ⊎_elim inl (λ k. inr (update_other v.kind j i Vacant t.0 ∙ k)) (r.holders x i m p t.1)) (λ t. inl t.0) (moved_back j (g.stage x) i m p h);
    hand = r.hand;
    grows = λ i. let K : ℕ → Kind = update v.kind j Vacant in two_at (λ i u. GrownRule s w.round v.ruling.phase w.name w.born (g.who (w.round + 1)) (K i) i u) v.work joined idle record { only = λ _ z. absurd (z refl); grown = λ x k h. ⊎_elim (λ t. (r.grows 0).grown x k t) (λ t. (r.grows j).grown x k t) (entry_of_both (v.work 0).grown (v.work j).grown (x, k) h) } record { only = λ _ _. refl; grown = λ x k h. absurd h } (λ i a b. record { only = λ o. (r.grows i).only (λ k. o (update_other v.kind j i Vacant b ∙ k)); grown = (r.grows i).grown }) i;
    retireds = λ b h. r.retireds b (⊎_elim (λ t. inl (was_retired b t.0 t.1)) inr h);
    frees = r.frees;
    known = record {
      noted = λ b x m u. ⊎_elim inl (λ h. let k = now x h.0 m h.1 h.2 in inr (k.0, h.1, k.1, h.3)) (r.known.noted b x m u);
      rolled_back = r.known.rolled_back;
      loose = λ b u e. let h = r.known.loose b u e in let k = now h.0 h.1 h.2 (Drawn b) h.4 in (h.0, k.0, h.2, h.3, k.1);
    };
    kept = r.kept;
    early = r.early ∙ sym (sum_same n (λ i. is_early w.round (v.kind i) (v.read i)) (λ i. is_early w.round (update v.kind j Vacant i) (v.read i)) (λ i _. dite (ℕ_discrete i j) (λ e. early_none w.round (update v.kind j Vacant i) (v.read i) (λ f. let z = update_at v.kind j i Vacant e in cc) ∙ sym (early_none w.round (v.kind i) (v.read i) (λ f. let z : v.kind i ≡ v.kind j = ap v.kind e in cc))) (λ o. ap (λ (k : Kind). is_early w.round k (v.read i)) (update_other v.kind j i Vacant o))));
  }
    where
      was_retired : (b i : ℕ) → HasEntry (update (update v.work 0 joined) j idle i).retired b → (k : ℕ) × HasEntry (v.work k).retired b
      was_retired b = two_at (λ i u. HasEntry u.retired b → (k : ℕ) × HasEntry (v.work k).retired b) v.work joined idle (λ h. ⊎_elim (λ t. (0, t)) (λ t. (j, t)) (entry_of_both (v.work 0).retired (v.work j).retired b h)) (λ h. absurd h) (λ i _ _ h. (i, h))

      -- no pass of worker 0 is left: it was alone
      last : (i : ℕ) → v.ruling.phase ≡ FirstHalf → update v.kind j Vacant i ≡ Worker → (update (update v.work 0 joined) j idle i).number ≡ 0 → ⊥
      last i one k z = dite (ℕ_discrete i j) (λ e. let y = update_at v.kind j i Vacant e in cc) (λ o. dite (ℕ_discrete i 0)
          (λ e. let y : v.kind i ≡ v.kind 0 = ap v.kind e in let x = r.rules.owner.0 in let u = sym (update_other v.kind j i Vacant o) ∙ k in cc)
          (λ far0. let u = sym (update_other v.kind j i Vacant o) ∙ k in let same = ap (λ (x : Work). x.number) (update_other (update v.work 0 joined) j i idle o ∙ update_other v.work 0 i joined far0) in
          o (sym ((r.crew.alone i one u (sym same ∙ z)).0 j kind))))

      own_now : (a b : ℕ) → HasEntry joined.drawn (a, b) → HasEntry (update (update v.work 0 joined) j idle 0).drawn (a, b)
      own_now a b h = subst (λ (u : Work). HasEntry u.drawn (a, b)) (sym (update_other (update v.work 0 joined) j 0 idle (λ e. far (sym e)) ∙ update_same v.work 0 joined)) h

      drawn_now : (i a b : ℕ) → HasEntry (v.work i).drawn (a, b) → i ≢ j → HasEntry (update (update v.work 0 joined) j idle i).drawn (a, b)
      drawn_now i a b h o = dite (ℕ_discrete i 0)
          (λ e. subst (λ (c : ℕ). HasEntry (update (update v.work 0 joined) j idle c).drawn (a, b)) (sym e) (own_now a b (entry_left (v.work 0).drawn (v.work j).drawn (a, b) (subst (λ (c : ℕ). HasEntry (v.work c).drawn (a, b)) e h))))
          (λ z. subst (λ (u : Work). HasEntry u.drawn (a, b)) (sym (update_other (update v.work 0 joined) j i idle o ∙ update_other v.work 0 i joined z)) h)

      -- the seat that had a draw before
      whose : (i a b : ℕ) → HasEntry (update (update v.work 0 joined) j idle i).drawn (a, b) → (i ≢ j) × (k : ℕ) × HasEntry (v.work k).drawn (a, b) × ((k ≡ i) ⊎ ((i ≡ 0) × (k ≡ j)))
      whose i a b = two_at (λ i u. HasEntry u.drawn (a, b) → (i ≢ j) × (k : ℕ) × HasEntry (v.work k).drawn (a, b) × ((k ≡ i) ⊎ ((i ≡ 0) × (k ≡ j)))) v.work joined idle
          (λ h. ⊎_elim (λ t. ((λ e. far (sym e)), 0, t, inl refl)) (λ t. ((λ e. far (sym e)), j, t, inr (refl, refl))) (entry_of_both (v.work 0).drawn (v.work j).drawn (a, b) h))
          (λ h. absurd h) (λ i x y h. (y, i, h, inl refl)) i

      -- the owner has what the pass retired
      moves_retired : (b i : ℕ) → HasEntry (v.work i).retired b → (k : ℕ) × HasEntry (update (update v.work 0 joined) j idle k).retired b
      moves_retired b i h = dite (ℕ_discrete i j)
          (λ e. (0, at_owner (entry_right (v.work 0).retired (v.work j).retired b (subst (λ (a : ℕ). HasEntry (v.work a).retired b) e h))))
          (λ o. dite (ℕ_discrete i 0) (λ e. (0, at_owner (entry_left (v.work 0).retired (v.work j).retired b (subst (λ (a : ℕ). HasEntry (v.work a).retired b) e h)))) (λ z. (i, subst (λ (u : Work). HasEntry u.retired b) (sym (update_other (update v.work 0 joined) j i idle o ∙ update_other v.work 0 i joined z)) h)))
        where
          at_owner : HasEntry ((v.work 0).retired ++ (v.work j).retired) b → HasEntry (update (update v.work 0 joined) j idle 0).retired b
          at_owner m = subst (λ (u : Work). HasEntry u.retired b) (sym (update_other (update v.work 0 joined) j 0 idle (λ e. far (sym e)) ∙ update_same v.work 0 joined)) m

      nothing_owned : (i : ℕ) → OwnedRule s.elements workers w.head w.history w.born w.died w.name w.row stage' i owns_nothing
      nothing_owned i = record { head_is = λ z l f h. absurd f; history_is = λ b t l f h. absurd f; died_is = λ b k f h. absurd f; name_is = λ b t k f h. absurd f; born_is = λ b k f h i. absurd f; row_is = λ b k f h i. absurd f }

      stage_was : (i : ℕ) → i ≢ 0 → (x m : ℕ) (p : Progress) → stage' x ≡ Held i m p → g.stage x ≡ Held i m p
      stage_was i a x m p h = ⊎_elim (λ t. t.1) (λ t. absurd (a t.0)) (moved_back j (g.stage x) i m p h)

      block_was : (i : ℕ) → i ≢ 0 → (c : ℕ) → GuardsBlock workers stage' i c → GuardsBlock v.ruling.workers g.stage i c
      block_was i a c (inl t) = absurd (a t.0)
      block_was i a c (inr t) = inr (t.0, t.1, ⊎_elim (λ h. inl (stage_was i a t.0 t.1 (Drawn c) h)) (λ h. inr (stage_was i a t.0 t.1 (Half c) h)) t.2)

      head_was : (i : ℕ) → i ≢ 0 → (z : ℕ) → GuardsHead s.elements workers stage' i z → GuardsHead s.elements v.ruling.workers g.stage i z
      head_was i a z (inl t) = absurd (a t.0)
      head_was i a z (inr t) = inr (t.0, t.1, t.2, ⊎_elim (λ h. inl (stage_was i a t.0 t.1 (Drawn t.2) h.0, h.1)) (λ h. inr (stage_was i a t.0 t.1 (Half t.2) h.0, h.1)) t.3)

-- and so where it has, which it forgets
pub joins : (s : Setup) (w : Words) (n : ℕ) (v : Views) (g : Ghost) → Rule s w n v g → (j : ℕ) → j ≢ 0 → v.kind j ≡ Worker → (workers : ℕ) → v.ruling.workers ≡ workers + 1
    → Rule s w n (record v { kind = update v.kind j Vacant; claims = update (update v.claims 0 (v.claims 0 ++ v.claims j)) j []; work = update (update v.work 0 (joined_work (v.work 0) (v.work j))) j idle; owned = update (update v.owned 0 owns_nothing) j owns_nothing; read = update v.read j unread; ruling = record v.ruling { workers = workers; lone = false } }) (record g { stage = λ x. moved j (g.stage x) })
joins s w n v g r j far kind = takes s w n (record v { read = update v.read j unread }) g (forgets s w n v g r j (λ e. cc)) j far kind (update_same v.read j unread)
