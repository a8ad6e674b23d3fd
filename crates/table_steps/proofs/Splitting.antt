-- A pass is made, and a pass ends.
use Rattle.std.proofs.Common.{Bool, cond, ◌==◌, eq-eqb, ne_eqb, ◌≡◌, ◌≢◌, ℕ, suc, ◌+◌, ◌<◌, ◌≤◌, List, [], ◌⊎◌, refl, sym, ap, ◌∙◌, subst, inl, inr, ⊎_elim, arith, true, false}
use Rattle.std.proofs.lemmas.List.{append-nil}
use Rattle.table_state.proofs.Lists.{plan_on, history_read}
use mathlib.Core.Logic.{dite}
use native.Mathlib.Decide.{ℕ_discrete}
use Rattle.table_words.specs.Setup.{Setup}
use Rattle.table_words.specs.Functions.{update}
use Rattle.table_words.specs.Sums.{sum_below, one_where}
use Rattle.table_words.specs.Words.{Words}
use Rattle.table_words.specs.Views.{Views, Work, Owned, owns_nothing, Note, Read, Vacant, Worker, Reader, is_reader, FirstHalf, SecondHalf, Kind, is_worker}
use Rattle.table_words.specs.Claims.{Progress, Living, claim}
use Rattle.table_words.specs.Entries.{HasEntry}
use Rattle.table_words.proofs.Functions.{update_same, update_at, update_other, update_cases}
use Rattle.table_words.proofs.Sums.{sum_same}
use Rattle.table_state.specs.Ghosts.{Held, Ghost}
use Rattle.table_state.specs.Bisections.{MayRead}
use Rattle.table_state.specs.Work.{WorkRule, WalkRule}
use Rattle.table_state.specs.Owned.{OwnedRule}
use Rattle.table_state.specs.Readers.{ReaderRule}
use Rattle.table_state.specs.Owner.{NoneWent}
use Rattle.table_state.specs.Rule.{Rule}
use Rattle.table_state.specs.Inside.{ListedOnce}
use Rattle.table_state.proofs.FoundAgain.{still_not, walks_idle}
use Rattle.table_state.proofs.Across.{some_worker}
use Rattle.table_words.proofs.Sums.{one_if, none_if}
use Rattle.table_state.specs.Fresh.{idle, blank}
use Rattle.table_state.specs.Owner.{is_early}
use Rattle.table_state.proofs.Known.{early_late, retireds_on}
use Rattle.table_state.specs.Claims.{block_of}
use Rattle.table_state.specs.Work.{GrownRule}
use Rattle.mesh_names.specs.Names.{digit}
use Rattle.table_words.proofs.SeatKinds.{worker_is, worker_not, reader_true, reader_false, reader_is, reader_not}

module _ (s : Setup) (w : Words) (n : ℕ) (v : Views) (g : Ghost) (r : Rule s w n v g) where
  new_kind : v.kind n ≡ Vacant
  new_kind = r.pins.few n (omega arith)

  not_first : n ≢ 0
  not_first e = let t = r.rules.owner.1 in omega arith

  new_claims : (x m : ℕ) (p : Progress) → g.stage x ≡ Held n m p → ⊥
  new_claims x m p h = ⊎_elim not_first (λ k. let z = new_kind in cc) (r.holders x n m p h)

  -- a sum over one seat more
  one_more_seat : (f f' : ℕ → ℕ) → ((i : ℕ) → i < n → f' i ≡ f i) → sum_below (n + 1) f' ≡ sum_below n f + f' n
  one_more_seat f f' e = let a : sum_below (n + 1) f' ≡ sum_below n f' + f' n = succ f' in let b = sum_same n f f' e in omega arith
    where
      succ : (h : ℕ → ℕ) → sum_below (n + 1) h ≡ sum_below n h + h n
      succ h = ap (λ (k : ℕ). sum_below k h) one
        where
          one : n + 1 ≡ suc n
          one = omega arith

  -- the seat n becomes a pass of the kind 1 or 2
  module _ (kind : Kind) (workers readers : ℕ) (which : ((kind ≡ Worker) × ((v.ruling.phase ≡ FirstHalf) ⊎ (v.ruling.phase ≡ SecondHalf)) × (workers ≡ v.ruling.workers + 1) × (readers ≡ v.ruling.readers)) ⊎ ((kind ≡ Reader) × (v.ruling.readers ≤ s.passes) × (workers ≡ v.ruling.workers) × (readers ≡ v.ruling.readers + 1))) where
    abbrev kind' : ℕ → Kind
    kind' = update v.kind n kind

    -- what the new pass knows: a worker's the half, the round and the lists, each the history
    abbrev new_work : ℕ → Work
    new_work number = record idle { half = v.ruling.phase; round = v.ruling.finished + 1; number = number; plan = v.ruling.plan }

    abbrev new_read : List Note → Read
    new_read notes = record (blank notes) { told = v.ruling.history; seen = v.ruling.finished; made = v.ruling.finished }

    kind_old : (j : ℕ) → j < n → kind' j ≡ v.kind j
    kind_old j l = update_other v.kind n j kind (λ (e : j ≡ n). omega arith)

    counted : (k : Kind → Bool) → sum_below (n + 1) (λ j. digit (k (kind' j))) ≡ sum_below n (λ j. digit (k (v.kind j))) + digit (k kind)
    counted k = one_more_seat (λ j. digit (k (v.kind j))) (λ j. digit (k (kind' j))) (λ i l. ap (λ (x : Kind). digit (k x)) (kind_old i l)) ∙ ap (λ (x : Kind). sum_below n (λ j. digit (k (v.kind j))) + digit (k x)) (update_same v.kind n kind)

    -- what the owner stays sure of: all, where the pass is a reader's
    abbrev keep : Owned
    keep = cond (is_reader kind) (v.owned 0) owns_nothing

    -- Who may be at work besides: a pass of worker 0 is made in the first half while no other worker's is out and each claim of the owner has its living block, and none is made while it is out
    abbrev pub MayJoin : ℕ → Bool → Type 0
    MayJoin number lone = (((kind ≡ Reader) ⊎ (v.ruling.phase ≡ SecondHalf)) × (lone ≡ v.ruling.lone))
        ⊎ ((number ≡ 0) × (v.ruling.workers ≡ 0) × ((x m : ℕ) (p : Progress) → HasEntry (v.claims 0) (claim x m p) → (b : ℕ) × (p ≡ Living b)) × (lone ≡ true))
        ⊎ ((0 < number) × (v.ruling.lone ≡ false) × (lone ≡ false))

    -- A pass is made: the owner no longer owns any word, where it is a pass at work
    pub splits : (number : ℕ) (lone : Bool) → MayJoin number lone → (notes : List Note) → ((k : Note) → HasEntry notes k → HasEntry (v.read 0).notes k)
        → Rule s w (n + 1) (record v { kind = kind'; claims = update v.claims n []; work = update v.work n (record idle { half = v.ruling.phase; round = v.ruling.finished + 1; number = number; plan = v.ruling.plan }); owned = update (update v.owned 0 (cond (is_reader kind) (v.owned 0) owns_nothing)) n owns_nothing; read = update v.read n (record (blank notes) { told = v.ruling.history; seen = v.ruling.finished; made = v.ruling.finished }); ruling = record v.ruling { workers = workers; readers = readers; lone = lone } }) g
    splits number lone may notes told = record {
      names_apart = r.names_apart;
      claims = record {
        held = update_cases (λ j cs. (x m : ℕ) (p : Progress) → HasEntry cs (claim x m p) → g.stage x ≡ Held j m p) v.claims n [] (λ x m p h. absurd h) (λ j _. r.claims.held j);
        holds = update_cases (λ j cs. (x m : ℕ) (p : Progress) → g.stage x ≡ Held j m p → HasEntry cs (claim x m p)) v.claims n [] (λ x m p h. absurd (new_claims x m p h)) (λ j _. r.claims.holds j);
        bits = r.claims.bits;
        inside = r.claims.inside;
        mates = r.claims.mates;
        shape = r.claims.shape;
        kept = r.claims.kept;
        half = r.claims.half;
        rows = r.claims.rows;
        apart = r.claims.apart;
        drawn = r.claims.drawn;
        living = r.claims.living;
        none = r.claims.none;
      };
      labels = r.labels;
      chains = r.chains;
      names = record { fits = λ q k. r.names.fits q (back q k); sound = λ q k. r.names.sound q (back q k); patch = r.names.patch; one = r.names.one; calm = r.names.calm; grows = r.names.grows; either = r.names.either; fresh = r.names.fresh };
      pins = record {
        now = r.pins.now;
        later = r.pins.later;
        count = λ q. r.pins.count q ∙ ap (λ (x : ℕ). w.released q + x) (sym (sum (λ (u : Read). one_where u.pin (q + 1)) (none_if 0 (q + 1) (λ (e : 0 ≡ q + 1). omega arith))));
        past = update_cases (λ _ u. (q : ℕ) → u.pin ≡ q + 1 → q ≤ w.round) v.read n (new_read notes) (λ q e. absurd (omega arith)) (λ j _. r.pins.past j);
        few = λ j l. update_other v.kind n j kind (λ (e : j ≡ n). omega arith) ∙ r.pins.few j (omega arith);
        readers = λ j o. dite (ℕ_discrete j n) (λ e. let u = update_at v.read n j (new_read notes) e in (ap (λ (x : Read). x.pin) u, ap (λ (x : Read). x.ready) u))
            (λ f. subst (λ (x : Read). (x.pin ≡ 0) × (x.ready ≡ false)) (sym (update_other v.read n j (new_read notes) f)) (r.pins.readers j (λ k. o (update_other v.kind n j kind f ∙ k))));
        spent = λ j e. dite (ℕ_discrete j n) (λ f. let z = update_at v.kind n j kind f in absurd (⊎_elim (λ t. let y = t.0 in cc) (λ t. let y = t.0 in cc) which))
            (λ f. update_other v.read n j (new_read notes) f ∙ r.pins.spent j (sym (update_other v.kind n j kind f) ∙ e));
        most = r.pins.most;
        bound = let a = sum (λ (u : Read). digit u.ready) refl in let b = r.pins.bound in omega arith;
      };
      works = λ j. dite (ℕ_discrete j n)
          (λ e. subst (λ (u : Work). WorkRule s w.round v.ruling.phase w.name w.born w.died g.life (g.who (w.round + 1)) (kind' j) j u) (sym (update_at v.work n j (new_work number) e))
          record { only = λ _ _. (refl, refl, refl, refl); found = λ x i f. absurd f; known = λ i f. absurd f; open_ = λ i f. absurd f; given = λ b i f. absurd f })
          (λ o. subst (λ (u : Work × Kind). WorkRule s w.round v.ruling.phase w.name w.born w.died g.life (g.who (w.round + 1)) u.1 j u.0) (λ i. (sym (update_other v.work n j (new_work number) o) i, sym (update_other v.kind n j kind o) i)) (r.works j));
      walks = λ j. dite (ℕ_discrete j n)
          (λ e. subst (λ (u : Work). WalkRule s w.round v.ruling.phase w.name w.history w.born w.died g.life g.who (kind' j) j u) (sym (update_at v.work n j (new_work number) e)) (walks_idle s w.round v.ruling.phase w.name w.history w.born w.died g.life g.who (kind' j) j v.ruling.phase (v.ruling.finished + 1) number v.ruling.plan (λ _. refl) (λ _. ap (λ (i : ℕ). i + 1) r.stock.finished)))
          (λ o. subst (λ (u : Work × Kind). WalkRule s w.round v.ruling.phase w.name w.history w.born w.died g.life g.who u.1 j u.0) (λ i. (sym (update_other v.work n j (new_work number) o) i, sym (update_other v.kind n j kind o) i)) (r.walks j));
      owned = update_cases (λ j u. OwnedRule s.elements workers w.head w.history w.born w.died w.name w.row g.stage j u) (update v.owned 0 keep) n owns_nothing
          nothing_owned
          (λ j _. update_cases (λ j u. OwnedRule s.elements workers w.head w.history w.born w.died w.name w.row g.stage j u) v.owned 0 keep kept_owned (λ i ne. let t = r.owned i in record {
            head_is = λ z l f h. t.head_is z l f (⊎_elim (λ e. absurd (ne e.0)) inr h);
            history_is = λ b u l f h. t.history_is b u l f (⊎_elim (λ e. absurd (ne e.0)) inr h);
            died_is = λ b k f h. t.died_is b k f (⊎_elim (λ e. absurd (ne e.0)) inr h);
            name_is = λ b u k f h. t.name_is b u k f (⊎_elim (λ e. absurd (ne e.0)) inr h);
            born_is = λ b k f z _. absurd (ne z);
            row_is = λ b k f z _. absurd (ne z);
          }) j);
      goes = update_cases (λ _ u. ReaderRule s w.round w.name w.history w.born w.died g.life g.who u) v.read n (new_read notes)
          record { went = λ q b p f. absurd f; walk = λ q p. tt; sided = λ q x k b t p h. absurd (still_not x k b t h); dated = λ q x k b t p h. absurd (still_not x k b t h); places = λ q x k p f. absurd f; yes_notes = λ k q h. (r.goes 0).yes_notes k q (told _ h); no_notes = λ k q h. (r.goes 0).no_notes k q (told _ h) }
          (λ j _. r.goes j);
      rules = record {
        owner = (update_other v.kind n 0 kind (λ e. not_first (sym e)) ∙ r.rules.owner.0, omega arith);
        one = λ j e. dite (ℕ_discrete j n) (λ f. let z = update_at v.kind n j kind f in absurd (⊎_elim (λ t. let t0 = t.0 in cc) (λ t. let t0 = t.0 in cc) which)) (λ f. r.rules.one j (sym (update_other v.kind n j kind f) ∙ e));
        workers = let c = counted is_worker in let a = r.rules.workers in ⊎_elim (λ t. let b = worker_is kind t.0 in let t2 = t.2 in omega arith) (λ t. let t0 = t.0 in let b = worker_not kind (λ (e : kind ≡ Worker). cc) in let t2 = t.2 in omega arith) which;
        readers = let c = counted is_reader in let a = r.rules.readers in ⊎_elim (λ t. let t0 = t.0 in let b = reader_not kind (λ (e : kind ≡ Reader). cc) in let t3 = t.3 in omega arith) (λ t. let b = reader_is kind t.0 in let t3 = t.3 in omega arith) which;
        few_readers = let a = r.rules.few_readers in ⊎_elim (λ t. let t3 = t.3 in omega arith) (λ t. let t1 = t.1 in let t3 = t.3 in omega arith) which;
        halves = λ a b. ⊎_elim (λ t. absurd (⊎_elim a b t.1)) (λ t. t.2 ∙ r.rules.halves a b) which;
        drained = r.rules.drained;
      };
      stock = record { finished = r.stock.finished; cursor_is = r.stock.cursor_is; free_is = r.stock.free_is; left = r.stock.left };
      note = record { rolled_back = r.note.rolled_back; all = r.note.all; placed = r.note.placed; seen = λ x e. let t = r.note.seen x e in (t.0, t.1, t.2, λ f. none (t.3 f)); quiet = λ e. none (r.note.quiet e) };
      retired = λ b x m u e. ⊎_elim (λ t. inl (dite (ℕ_discrete t.0 n) (λ f. absurd (subst (λ (l : List ℕ). HasEntry l b) ((r.walks n).only (λ k. let z = new_kind in cc) not_first).3 (subst (λ (i : ℕ). HasEntry (v.work i).retired b) f t.1))) (λ o. (t.0, subst (λ (u : Work). HasEntry u.retired b) (sym (update_other v.work n t.0 (new_work number) o)) t.1)))) inr (r.retired b x m u e);
      plan = plan_on s w.round v.ruling.phase g.who v.kind kind' v.work (update v.work n (new_work number)) v.ruling.plan
          (λ j k. dite (ℕ_discrete j n) (λ e. ap (λ (u : Work). u.plan) (update_at v.work n j (new_work number) e)) (λ o. ap (λ (u : Work). u.plan) (update_other v.work n j (new_work number) o) ∙ r.plan.same j (sym (update_other v.kind n j kind o) ∙ k))) r.plan;
      history = history_read w.round g.who v.read v.ruling.history n (new_read notes) ([], sym (append-nil v.ruling.history)) ((let f = r.stock.finished in omega arith), let f = r.stock.finished in let l = r.history.rounds in omega arith) (omega arith, λ q e. absurd (omega arith)) r.history;
      drawn = record {
        only = λ j a b. dite (ℕ_discrete j n) (λ e. ap (λ (u : Work). u.drawn) (update_at v.work n j (new_work number) e)) (λ o. ap (λ (u : Work). u.drawn) (update_other v.work n j (new_work number) o) ∙ r.drawn.only j (λ k. a (update_other v.kind n j kind o ∙ k)) b);
        drawn = λ j i b h. r.drawn.drawn j i b (drawn_was j i b h);
        apart = λ j k i b c h l. r.drawn.apart j k i b c (drawn_was j i b h) (drawn_was k i c l);
      };
      draws = λ x j m p one e f. dite (ℕ_discrete j n) (λ z. absurd (new_claims x m p (e ∙ ap (λ (i : ℕ). Held i m p) z))) (λ o. let t = r.draws x j m p one e f in (t.0, subst (λ (u : Work). HasEntry u.drawn (t.0, block_of p)) (sym (update_other v.work n j (new_work number) o)) t.1));
      crew = record {
        rounds = r.crew.rounds;
        alone = λ j one k z. dite (ℕ_discrete j n)
            (λ e. let zero_ = sym (ap (λ (u : Work). u.number) (update_at v.work n j (new_work number) e)) ∙ z in let kj = sym (update_at v.kind n j kind e) ∙ k in ⊎_elim (λ a. absurd (⊎_elim (λ b. cc) (λ b. cc) a.0)) (⊎_elim
            (λ a. ((λ i b. dite (ℕ_discrete i n) (λ f. f ∙ sym e) (λ o. absurd (no_other a.1 i (sym (update_other v.kind n i kind o) ∙ b)))), λ x i m p h. ⊎_elim (λ f. inr (a.2 x m p (subst (λ (c : ℕ). HasEntry (v.claims c) (claim x m p)) f (r.claims.holds i x m p h)))) (λ f. absurd (no_other a.1 i f)) (r.holders x i m p h)))
            (λ a. let l = a.0 in absurd (omega arith))) may)
            (λ o. let kj = sym (update_other v.kind n j kind o) ∙ k in let zero_ = sym (ap (λ (u : Work). u.number) (update_other v.work n j (new_work number) o)) ∙ z in ⊎_elim
            (λ a. let t = r.crew.alone j one kj zero_ in ((λ i b. dite (ℕ_discrete i n) (λ f. let c = sym (update_at v.kind n i kind f) ∙ b in absurd (⊎_elim (λ d. cc) (λ d. cc) a.0)) (λ f. t.0 i (sym (update_other v.kind n i kind f) ∙ b))), t.1))
            (⊎_elim (λ a. absurd (no_other a.1 j kj)) (λ a. absurd (r.crew.none j one a.1 kj zero_))) may);
        none = λ j one l k z. dite (ℕ_discrete j n)
            (λ e. let zero_ = sym (ap (λ (u : Work). u.number) (update_at v.work n j (new_work number) e)) ∙ z in let kj = sym (update_at v.kind n j kind e) ∙ k in ⊎_elim (λ a. ⊎_elim (λ b. cc) (λ b. cc) a.0) (⊎_elim (λ a. let c = a.3 in cc) (λ a. let c = a.0 in omega arith)) may)
            (λ o. let kj = sym (update_other v.kind n j kind o) ∙ k in let zero_ = sym (ap (λ (u : Work). u.number) (update_other v.work n j (new_work number) o)) ∙ z in ⊎_elim (λ a. r.crew.none j one (sym a.1 ∙ l) kj zero_) (⊎_elim (λ a. let c = a.3 in cc) (λ a. r.crew.none j one a.1 kj zero_)) may);
      };
      inside = r.inside;
      named = r.named;
      once = update_cases (λ _ cs. ListedOnce cs) v.claims n [] tt (λ i _. r.once i);
      holders = λ x j m p h. ⊎_elim inl (λ k. inr (update_other v.kind n j kind (λ (e : j ≡ n). new_claims x m p (h ∙ ap (λ (i : ℕ). Held i m p) e)) ∙ k)) (r.holders x j m p h);
      hand = r.hand;
      grows = update_cases (λ i u. GrownRule s w.round v.ruling.phase w.name w.born (g.who (w.round + 1)) (kind' i) i u) v.work n (new_work number) record { only = λ _ _. refl; grown = λ x k h. absurd h } (λ i o. record { only = λ a. (r.grows i).only (λ k. a (update_other v.kind n i kind o ∙ k)); grown = (r.grows i).grown });
      retireds = retireds_on w.round w.died w.died g.life g.life v.work (update v.work n (new_work number)) v.ruling.retired v.ruling.retired (λ b h. ⊎_elim (λ t. inl (t.0, update_cases (λ i x. HasEntry x.retired b → HasEntry (v.work i).retired b) v.work n (new_work number) (λ f. absurd f) (λ _ _ f. f) t.0 t.1)) inr h) (λ _ _ _ u _. (u, refl)) r.retireds;
      frees = r.frees;
      known = r.known;
      kept = r.kept;
      early = let a = one_more_seat (λ j. is_early w.round (v.kind j) (v.read j)) (λ j. is_early w.round (kind' j) (update v.read n (new_read notes) j)) (λ i l. let o : i ≢ n = λ (e : i ≡ n). omega arith in ap (λ (k : Kind). is_early w.round k (update v.read n (new_read notes) i)) (kind_old i l) ∙ ap (is_early w.round (v.kind i)) (update_other v.read n i (new_read notes) o)) in
          let z : is_early w.round (kind' n) (update v.read n (new_read notes) n) ≡ 0 = ap (is_early w.round (kind' n)) (update_same v.read n (new_read notes)) ∙ early_late w.round (kind' n) (new_read notes) (let f = r.stock.finished in omega arith) in let e = r.early in omega arith;
    }
      where
        drawn_was : (j i b : ℕ) → HasEntry (update v.work n (new_work number) j).drawn (i, b) → HasEntry (v.work j).drawn (i, b)
        drawn_was = update_cases (λ j u. (i b : ℕ) → HasEntry u.drawn (i, b) → HasEntry (v.work j).drawn (i, b)) v.work n (new_work number) (λ i b h. absurd h) (λ j _ i b h. h)

        no_other : v.ruling.workers ≡ 0 → (i : ℕ) → v.kind i ≡ Worker → ⊥
        no_other z i k = let a = some_worker s w n v g r i k in omega arith

        nothing_owned : {j : ℕ} → OwnedRule s.elements workers w.head w.history w.born w.died w.name w.row g.stage j owns_nothing
        nothing_owned {j = j} = record { head_is = λ z l f h. absurd f; history_is = λ b t l f h. absurd f; died_is = λ b k f h. absurd f; name_is = λ b t k f h. absurd f; born_is = λ b k f h i. absurd f; row_is = λ b k f h i. absurd f }

        kept_owned : OwnedRule s.elements workers w.head w.history w.born w.died w.name w.row g.stage 0 keep
        kept_owned = ⊎_elim
            (λ t. let k = t.0 in subst (OwnedRule s.elements workers w.head w.history w.born w.died w.name w.row g.stage 0) (sym (ap (λ (c : Bool). cond c (v.owned 0) owns_nothing) (reader_false kind (λ (e : kind ≡ Reader). cc)))) nothing_owned)
            (λ t. subst (OwnedRule s.elements workers w.head w.history w.born w.died w.name w.row g.stage 0) (sym (ap (λ (c : Bool). cond c (v.owned 0) owns_nothing) (reader_true kind t.0))) (subst (λ (c : ℕ). OwnedRule s.elements c w.head w.history w.born w.died w.name w.row g.stage 0 (v.owned 0)) (sym t.2) (r.owned 0)))
            which

        sum : (f : Read → ℕ) → f (new_read notes) ≡ 0 → sum_below (n + 1) (λ j. f (update v.read n (new_read notes) j)) ≡ sum_below n (λ j. f (v.read j))
        sum f z = one_more_seat (λ j. f (v.read j)) (λ j. f (update v.read n (new_read notes) j)) (λ i l. ap f (update_other v.read n i (new_read notes) (λ (e : i ≡ n). omega arith))) ∙ (let a : f (update v.read n (new_read notes) n) ≡ f (new_read notes) = ap f (update_same v.read n (new_read notes)) in omega arith)

        none : NoneWent w.round v.read v.ruling.rolled_back → NoneWent w.round (update v.read n (new_read notes)) v.ruling.rolled_back
        none ok = update_cases (λ _ x. (b : ℕ) → x.pin ≡ w.round + 1 → HasEntry x.went b → HasEntry v.ruling.rolled_back b → ⊥) v.read n (new_read notes) (λ b p h m. absurd h) (λ i _. ok i)

        back : (q : ℕ) → MayRead w.round v.ruling.phase (update v.read n (new_read notes)) q → MayRead w.round v.ruling.phase v.read q
        back q (inr k) = inr k
        back q (inl (inl e)) = inl (inl e)
        back q (inl (inr t)) = dite (ℕ_discrete t.0 n) (λ e. let z : 0 ≡ q + 1 = sym (ap (λ (x : Read). x.pin) (update_at v.read n t.0 (new_read notes) e)) ∙ t.1 in absurd (omega arith)) (λ o. inl (inr (t.0, sym (ap (λ (x : Read). x.pin) (update_other v.read n t.0 (new_read notes) o)) ∙ t.1)))
