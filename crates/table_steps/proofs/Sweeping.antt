-- The owner's sweeps keep the rule.
use Rattle.std.proofs.Common.{◌≡◌, ◌≢◌, ℕ, ◌+◌, ◌<◌, ◌≤◌, cond, Bool, true, false, List, ◌∷◌, ◌⊎◌, refl, sym, ap, ◌∙◌, subst, inl, inr, ⊎_elim, arith}
use mathlib.Core.Logic.{dite}
use native.Mathlib.Decide.{ℕ_discrete, dec_lt}
use Rattle.table_words.specs.Setup.{Setup}
use Rattle.table_words.specs.Functions.{update}
use Rattle.table_words.specs.Words.{Words, Node, node}
use Rattle.table_words.specs.Views.{Views, Owned, Worker, Resting, FirstHalf, SecondHalf}
use Rattle.table_words.specs.Claims.{Progress, Drawn, Half, Claim}
use Rattle.table_words.specs.Places.{member_of}
use Rattle.table_words.specs.Entries.{HasEntry, Noted}
use Rattle.table_words.proofs.Functions.{update_same, update_at, update_other}
use Rattle.table_words.proofs.Entries.{noted_after}
use Rattle.table_state.specs.Ghosts.{Stage, Held, Life, Free, Loose, Placed, RolledBack, chained, stands, Ghost}
use Rattle.table_state.specs.Chains.{Covers, IsPlace, IsUnborn, ChainsRule}
use Rattle.table_state.specs.Claims.{ClaimsRule}
use Rattle.table_state.specs.Bisections.{MayRead}
use Rattle.table_state.specs.Owned.{GuardsBlock, GuardsHead, OwnedRule}
use Rattle.table_state.specs.Owner.{StockRule, NoteRule, FreeRule, KnownRule, KeptRule}
use Rattle.table_state.proofs.Known.{frees_on, kept_on, retireds_on, grows_off}
use Rattle.table_state.specs.Rule.{Rule}
use Rattle.table_state.specs.Inside.{InsideRule, IsLabel, LabelRule, ListedOnce}
use Rattle.table_state.proofs.Inside.{below_pool, not_free, few_below, labels_skip, labels_skip_history}
use Rattle.table_words.proofs.PlaceNumbers.{child_one, child_outside}
use Rattle.table_state.proofs.Lists.{crew_free}
use Rattle.table_state.proofs.FoundAgain.{placed, chained_stands, names_on, goes_on, walks_home, Moves}
use Rattle.table_state.proofs.ChainSteps.{moves_same, skips, cuts_older, named, older_named}
use Rattle.table_steps.proofs.BlockSteps.{resets, frees, gives_up}
use Rattle.table_state.proofs.HeldClaims.{not_open, free_not}
use Rattle.table_state.proofs.Across.{Went, some_worker, no_pin, no_early}

module _ (s : Setup) (w : Words) (n : ℕ) (v : Views) (g : Ghost) (r : Rule s w n v g) where
  abbrev d : ℕ
  d = w.round + 1

  abbrev pub A : ℕ → ℕ → Type 0
  A = Went w.round w.died v.kind v.work v.read

  abbrev pub Can : ℕ → Type 0
  Can q = MayRead w.round v.ruling.phase v.read q

  -- no pass is at work
  abbrev pub Quiet : Type 0
  Quiet = (v.ruling.phase ≡ FirstHalf → ⊥) × (v.ruling.phase ≡ SecondHalf → ⊥)

  pub none_out : Quiet → v.ruling.workers ≡ 0
  none_out q = r.rules.halves q.0 q.1

  pub not_work : Quiet → (j : ℕ) → v.kind j ≡ Worker → ⊥
  not_work q j k = let a = some_worker s w n v g r j k in let b = none_out q in omega arith

  -- then each claim is the owner's
  pub owners : Quiet → (x j m : ℕ) (p : Progress) → g.stage x ≡ Held j m p → j ≡ 0
  owners q x j m p h = ⊎_elim (λ e. e) (λ k. let a = some_worker s w n v g r j k in let b = none_out q in absurd (omega arith)) (r.holders x j m p h)

  -- the words that the owner owns, by themselves
  pub record OwnWords (head history : ℕ → Node) (born died name row : ℕ → ℕ) (u : Owned) : Type 0 where
    pub heads : (z : ℕ) (l : Node) → Noted u.head z l → head z ≡ l
    pub histories : (b : ℕ) (t : Bool) (l : Node) → Noted u.history (member_of b t) l → history (member_of b t) ≡ l
    pub dieds : (b k : ℕ) → Noted u.died b k → died b ≡ k
    pub names : (b : ℕ) (t : Bool) (k : ℕ) → Noted u.name (member_of b t) k → name (member_of b t) ≡ k
    pub borns : (b k : ℕ) → Noted u.born b k → born b ≡ k
    pub rows : (i b : ℕ) → Noted u.row i b → row i ≡ b

  pub own_words : Quiet → OwnWords w.head w.history w.born w.died w.name w.row (v.owned 0)
  own_words q = let z = none_out q in let i = r.owned 0 in record {
    heads = λ y l f. i.head_is y l f (inl (refl, z));
    histories = λ b t l f. i.history_is b t l f (inl (refl, z));
    dieds = λ b k f. i.died_is b k f (inl (refl, z));
    names = λ b t k f. i.name_is b t k f (inl (refl, z));
    borns = λ b k f. i.born_is b k f refl z;
    rows = λ a b f. i.row_is a b f refl z;
  }

  -- what a sweep is to show: the rest of the rule reads nothing that it changes
  pub sweeps_to : Quiet → (cursor free : ℕ) (row claimed : ℕ → ℕ) (head history : ℕ → Node) (born died : ℕ → ℕ) (life : ℕ → Life) (stage : ℕ → Stage) (cs : ℕ → List Claim) (us : ℕ → Owned) (hand : List ℕ) (cursor_is free_is low high : ℕ) (rolled_back kept : List ℕ) (placed : List (ℕ × ℕ × ℕ)) (seen : ℕ) (quiet : Bool)
      → ClaimsRule s w.round cursor free v.ruling.phase row claimed head born life stage cs → ChainsRule s.elements w.round head history born died life × Moves Can A s.elements w.round w.head w.history head history w.born w.died born died g.life life
      → ((b x m : ℕ) → life b ≡ Placed x m → (g.life b ≡ Placed x m) × (died b ≡ w.died b) × (0 < born b → 0 < w.born b)) → ((x j m : ℕ) (p : Progress) → stage x ≡ Held j m p → j ≡ 0) → OwnWords head history born died w.name row (us 0)
      → ((b : ℕ) → HasEntry hand b → life b ≡ Free) → StockRule w.round cursor free g.pins (record v.ruling { hand = hand; cursor = cursor_is; free = free_is; low = low; high = high; rolled_back = rolled_back; kept = kept; placed = placed; seen = seen; quiet = quiet }) → NoteRule w.round w.taken life v.read (record v.ruling { hand = hand; cursor = cursor_is; free = free_is; low = low; high = high; rolled_back = rolled_back; kept = kept; placed = placed; seen = seen; quiet = quiet }) → InsideRule s free row life stage hand v.ruling.retired → LabelRule s w.name head history life → ((j : ℕ) → ListedOnce (cs j)) → FreeRule s.pool cursor free row born life hand low high → KnownRule life stage placed → KeptRule w.round died life kept → ((b x m : ℕ) → g.life b ≡ Placed x m → w.died b ≡ d → (life b ≡ Placed x m) × (died b ≡ w.died b))
      → Rule s (record w { cursor = cursor; free = free; row = row; claimed = claimed; head = head; history = history; born = born; died = died }) n (record v { claims = cs; owned = us; ruling = record v.ruling { hand = hand; cursor = cursor_is; free = free_is; low = low; high = high; rolled_back = rolled_back; kept = kept; placed = placed; seen = seen; quiet = quiet } }) (record g { stage = stage; life = life })
  sweeps_to q cursor free row claimed head history born died life stage cs us hand cursor_is free_is low high rolled_back kept placed seen quiet claims ch back own owned hands stock note inside named once frees known keeps stays = record {
    names_apart = r.names_apart;
    claims = claims;
    labels = λ x j m p h e. absurd (q.0 e);
    chains = ch.0;
    names = names_on s w.name w.name w.head w.history head history w.born w.died born died g.life life (λ _ _ _ _ _. refl) w.round v.ruling.phase g.who v.read Can A ch.1 (λ _ k. k) (λ b x m h. r.names.patch b x m (back b x m h).0) (λ b p. let t = back b p.0 p.1 p.2 in (p.0, p.1, t.0, t.2 p.3, sym t.1 ∙ p.4))
        (λ b x m l h. let t = back b x m h in let e = t.1 in let c = r.names.calm b x m l t.0 in omega arith) r.names;
    pins = r.pins;
    works = λ j. let k = r.works j in record {
      only = k.only;
      found = λ x i h. absurd (q.0 (k.found x i h).0);
      known = λ i h. absurd (q.0 (k.known i h).0);
      open_ = λ i h. absurd (q.1 (k.open_ i h).0);
      given = λ b i h. absurd (q.1 (k.given b i h).0);
    };
    walks = λ j. walks_home s w.round v.ruling.phase v.ruling.phase w.name w.history history w.born w.died born died g.life life g.who (v.kind j) j (v.work j) (not_work q j) (r.walks j);
    owned = λ j. dite (ℕ_discrete j 0)
        (λ e. subst (λ (i : ℕ). OwnedRule s.elements v.ruling.workers head history born died w.name row stage i (us i)) (sym e) record {
          head_is = λ z l f _. owned.heads z l f;
          history_is = λ b t l f _. owned.histories b t l f;
          died_is = λ b k f _. owned.dieds b k f;
          name_is = λ b t k f _. owned.names b t k f;
          born_is = λ b k f _ _. owned.borns b k f;
          row_is = λ i b f _ _. owned.rows i b f;
        })
        (λ ne. record {
          head_is = λ z l f h. absurd (no_head j ne z h);
          history_is = λ b t l f h. absurd (no_block j ne b h);
          died_is = λ b k f h. absurd (no_block j ne b h);
          name_is = λ b t k f h. absurd (no_block j ne b h);
          born_is = λ b k f z _. absurd (ne z);
          row_is = λ i b f z _. absurd (ne z);
        });
    goes = λ j. goes_on s w.name w.name w.head w.history head history w.born w.died born died g.life life (λ _ _ _ _ _. refl) w.round v.ruling.phase g.who v.read Can A ch.1 (λ i p e. (inl (inr (i, e)), r.pins.past i p e)) (λ i p b e h a. (inl (i, e, h), a)) (λ p k. r.names.fits p k) j (r.goes j);
    rules = record { owner = r.rules.owner; one = r.rules.one; workers = r.rules.workers; readers = r.rules.readers; few_readers = r.rules.few_readers; halves = r.rules.halves; drained = r.rules.drained };
    stock = stock;
    note = note;
    retired = λ b x m h e. let t = back b x m h in r.retired b x m t.0 (sym t.1 ∙ e);
    plan = r.plan;
    history = r.history;
    drawn = record { only = r.drawn.only; drawn = λ j i b h. absurd (q.0 (r.drawn.drawn j i b h).0); apart = r.drawn.apart };
    draws = λ x j m p e. absurd (q.0 e);
    crew = crew_free s w.round v.ruling.phase v.kind v.work stage v.ruling.lone r.crew.rounds (λ e. absurd (q.0 e));
    inside = inside;
    named = named;
    once = once;
    holders = λ x j m p h. inl (own x j m p h);
    hand = hands;
    grows = λ j. grows_off s w.round v.ruling.phase w.name w.born w.name born (g.who d) (g.who d) (v.kind j) j (v.work j) (v.work j) q.1 refl (r.grows j);
    retireds = retireds_on w.round w.died died g.life life v.work v.work v.ruling.retired v.ruling.retired (λ _ h. h) stays r.retireds;
    frees = frees;
    known = known;
    kept = keeps;
    early = r.early;
  }
    where
      no_block : (j : ℕ) → j ≢ 0 → (b : ℕ) → GuardsBlock v.ruling.workers stage j b → ⊥
      no_block j ne b (inl t) = ne t.0
      no_block j ne b (inr t) = ⊎_elim (λ h. ne (own t.0 j t.1 (Drawn b) h)) (λ h. ne (own t.0 j t.1 (Half b) h)) t.2

      no_head : (j : ℕ) → j ≢ 0 → (z : ℕ) → GuardsHead s.elements v.ruling.workers stage j z → ⊥
      no_head j ne z (inl t) = ne t.0
      no_head j ne z (inr t) = ⊎_elim (λ h. ne (own t.0 j t.1 (Drawn t.2) h.0)) (λ h. ne (own t.0 j t.1 (Half t.2) h.0)) t.3

  -- where the rows, CURSOR, FREE and the lives stay
  pub sweeps : Quiet → (claimed : ℕ → ℕ) (head history : ℕ → Node) (born died : ℕ → ℕ) (stage : ℕ → Stage) (cs : ℕ → List Claim) (us : ℕ → Owned) (hand : List ℕ)
      → ClaimsRule s w.round w.cursor w.free v.ruling.phase w.row claimed head born g.life stage cs → ChainsRule s.elements w.round head history born died g.life × Moves Can A s.elements w.round w.head w.history head history w.born w.died born died g.life g.life
      → ((b x m : ℕ) → g.life b ≡ Placed x m → (died b ≡ w.died b) × (0 < born b → 0 < w.born b)) → ((x j m : ℕ) (p : Progress) → stage x ≡ Held j m p → j ≡ 0) → OwnWords head history born died w.name w.row (us 0)
      → ((b : ℕ) → HasEntry hand b → g.life b ≡ Free) → InsideRule s w.free w.row g.life stage hand v.ruling.retired → LabelRule s w.name head history g.life → ((j : ℕ) → ListedOnce (cs j)) → FreeRule s.pool w.cursor w.free w.row born g.life hand v.ruling.low v.ruling.high → KnownRule g.life stage v.ruling.placed
      → Rule s (record w { claimed = claimed; head = head; history = history; born = born; died = died }) n (record v { claims = cs; owned = us; ruling = record v.ruling { hand = hand } }) (record g { stage = stage })
  sweeps q claimed head history born died stage cs us hand claims ch same own owned hands inside named once frees known = sweeps_to q w.cursor w.free w.row claimed head history born died g.life stage cs us hand v.ruling.cursor v.ruling.free v.ruling.low v.ruling.high v.ruling.rolled_back v.ruling.kept v.ruling.placed v.ruling.seen v.ruling.quiet claims ch (λ b x m h. let e = same b x m h in (h, e.0, e.1)) own owned hands
      (let k = r.stock in record { finished = k.finished; cursor_is = k.cursor_is; free_is = k.free_is; left = k.left })
      record { rolled_back = r.note.rolled_back; all = r.note.all; placed = r.note.placed; seen = r.note.seen; quiet = r.note.quiet } inside named once frees known (kept_on w.round w.died died g.life g.life v.ruling.kept (λ b x m h _ _. (h, (same b x m h).0)) (λ b x m h _ _. (h, (same b x m h).0)) r.kept) (λ b x m h _. (h, (same b x m h).0))

  -- before the round no place is held, so its words are said by the rows alone
  module _ (zero_ : v.ruling.phase ≡ Resting) where
    quiet : Quiet
    quiet = ((λ e. absurd (cc)), λ e. absurd (cc))

    own : OwnWords w.head w.history w.born w.died w.name w.row (v.owned 0)
    own = own_words quiet

    no_stage : (x j m : ℕ) (p : Progress) → g.stage x ≡ Held j m p → ⊥
    no_stage x j m p h = not_open j m p (sym h ∙ r.claims.none x zero_)

    -- claims where only heads, rows and the lives of other blocks change
    pub calm_claims : (cursor free : ℕ) (row : ℕ → ℕ) (head : ℕ → Node) (born : ℕ → ℕ) (life : ℕ → Life) → ((b x m : ℕ) → life b ≡ Placed x m → (g.life b ≡ Placed x m) × (born b ≡ w.born b))
        → ((i : ℕ) → cursor ≤ i → i < free → (life (row i) ≡ Free) × (born (row i) ≡ 0)) → ((i k : ℕ) → cursor ≤ i → i < free → cursor ≤ k → k < free → row i ≡ row k → i ≡ k)
        → ClaimsRule s w.round cursor free v.ruling.phase row w.claimed head born life g.stage v.claims
    calm_claims cursor free row head born life back rows apart = record {
      held = r.claims.held;
      holds = λ j x m p h. absurd (no_stage x j m p h);
      bits = r.claims.bits;
      inside = r.claims.inside;
      mates = λ x j y p h. absurd (no_stage x j (y + 1) p h);
      shape = λ x j m p h. absurd (no_stage x j m p h);
      kept = λ b x m u e l. let t = back b x m u in r.claims.kept b x m t.0 (sym t.1 ∙ e) l;
      half = λ b x m u e. let t = back b x m u in r.claims.half b x m t.0 (sym t.1 ∙ e);
      rows = rows;
      apart = apart;
      drawn = λ e. absurd (cc);
      living = λ x j m p h e. absurd (cc);
      none = r.claims.none;
    }

    -- no pin is out of a round before the block's last
    abbrev pub Drained : ℕ → Type 0
    Drained e = (v.ruling.early ≡ 0) ⊎ ((q : ℕ) → q < e → HasEntry v.ruling.drained q)

    cleared : (e : ℕ) → e ≤ w.round → Drained e → (q : ℕ) → q < e → (j : ℕ) → (v.read j).pin ≡ q + 1 → ⊥
    cleared e l c q z j p = ⊎_elim (λ a. let y = no_early s w n v g r a j q p in omega arith) (λ a. no_pin s w n v g r q (a q z) j p) c

    -- so no round that may be read has the block
    pub over : (b : ℕ) → 0 < w.died b → w.died b ≤ w.round → Drained (w.died b) → (q : ℕ) → Can q → (w.died b ≡ 0) ⊎ (q < w.died b) → ⊥
    over b p l c q k = ⊎_elim (λ z. omega arith) (λ z. ⊎_elim (λ y. ⊎_elim (λ e. omega arith) (λ t. cleared (w.died b) l c q z t.0 t.1) y) (λ y. let e = y.0 in omega arith) k)

    not_covers : (b : ℕ) → 0 < w.died b → w.died b ≤ w.round → Drained (w.died b) → (q : ℕ) → Can q → Covers w.born w.died q b → ⊥
    not_covers b p l c q k h = over b p l c q k h.2

    add_head : (x : ℕ) (l : Node) → OwnWords (update w.head x l) w.history w.born w.died w.name w.row (record (v.owned 0) { head = (x, l) ∷ (v.owned 0).head })
    add_head x l = record { heads = noted_after (v.owned 0).head w.head x l own.heads; histories = own.histories; dieds = own.dieds; names = own.names; borns = own.borns; rows = own.rows }

    -- where the owner knows a block at its places, and not as rolled back, it is in their chains
    in_chains : (b y m : ℕ) → HasEntry v.ruling.placed (b, y, m) → (HasEntry v.ruling.rolled_back b → ⊥) → g.life b ≡ Placed y m
    in_chains b y m h f = ⊎_elim (λ e. e) (λ e. absurd (f (r.note.all b y m e))) (r.note.placed b y m h)

    -- a head is led past a block whose rounds are drained: the block's member stands at the place
    pub cuts_head : (x b e y m : ℕ) (t : Bool) (l : Node) → Noted (v.owned 0).head x (node (b + 1) e) → Noted (v.owned 0).died b e → Noted (v.owned 0).history (member_of b t) l → 0 < e → Drained e
        → HasEntry v.ruling.placed (b, y, m) → (HasEntry v.ruling.rolled_back b → ⊥) → chained (Placed y m) t ≡ x + 1
        → Rule s (record w { head = update w.head x l }) n (record v { owned = update v.owned 0 (record (v.owned 0) { head = (x, l) ∷ (v.owned 0).head }) }) g
    cuts_head x b e y m t l f1 f2 f3 p c known fair side = let life_b = in_chains b y m known fair in let at : chained (g.life b) t ≡ x + 1 = ap (λ (i : Life). chained i t) life_b ∙ side in
        let h = own.heads x (node (b + 1) e) f1 in let dd : w.died b ≡ e = own.dieds b e f2 in let hh = own.histories b t l f3 in let calm = r.names.calm b y m ((λ z. cc), λ z. cc) life_b in
        let k = skips Can A s.elements w.round w.head w.history w.born w.died g.life r.chains x b t (ap (λ (i : Node). i.block) h) (chained_stands (g.life b) t x at) (not_covers b (omega arith) calm (subst Drained (sym dd) c)) in
        sweeps quiet w.claimed (update w.head x l) w.history w.born w.died g.stage v.claims (update v.owned 0 (record (v.owned 0) { head = (x, l) ∷ (v.owned 0).head })) v.ruling.hand
        (calm_claims w.cursor w.free w.row (update w.head x l) w.born g.life (λ _ _ _ u. (u, refl)) r.claims.rows r.claims.apart)
        (subst (λ (i : Node). ChainsRule s.elements w.round (update w.head x i) w.history w.born w.died g.life × Moves Can A s.elements w.round w.head w.history (update w.head x i) w.history w.born w.died w.born w.died g.life g.life) hh k)
        (λ _ _ _ _. (refl, λ p. p)) (λ y j k p h. absurd (no_stage y j k p h)) (add_head x l) r.hand r.inside (labels_skip s w.name w.head w.history g.life x b t l (ap (λ (i : Node). i.block) h) at hh r.named) r.once r.frees r.known

    -- so is a history word, of a block in chains or of one that was rolled back
    pub cuts_history : (a y' m' x b e y m : ℕ) (u t : Bool) (l : Node) → Noted (v.owned 0).history (member_of a u) (node (b + 1) e) → Noted (v.owned 0).died b e → Noted (v.owned 0).history (member_of b t) l → 0 < e → Drained e
        → HasEntry v.ruling.placed (a, y', m') → stands (Placed y' m') u ≡ x + 1 → HasEntry v.ruling.placed (b, y, m) → (HasEntry v.ruling.rolled_back b → ⊥) → chained (Placed y m) t ≡ x + 1
        → Rule s (record w { history = update w.history (member_of a u) l }) n (record v { owned = update v.owned 0 (record (v.owned 0) { history = (member_of a u, l) ∷ (v.owned 0).history }) }) g
    cuts_history a y' m' x b e y m u t l f1 f2 f3 p c from stood known fair side = let life_b = in_chains b y m known fair in let at : chained (g.life b) t ≡ x + 1 = ap (λ (i : Life). chained i t) life_b ∙ side in
        let ua : stands (g.life a) u ≡ x + 1 = ⊎_elim (λ f. ap (λ (i : Life). stands i u) f ∙ stood) (λ f. ap (λ (i : Life). stands i u) f ∙ stood) (r.note.placed a y' m' from) in
        let h = own.histories a u (node (b + 1) e) f1 in let dd : w.died b ≡ e = own.dieds b e f2 in let hh = own.histories b t l f3 in let calm = r.names.calm b y m ((λ z. cc), λ z. cc) life_b in
        let k = cuts_older Can A s.elements w.round w.head w.history w.born w.died g.life r.chains a b x u t ua (h ∙ ap (node (b + 1)) (sym dd)) at (omega arith) (not_covers b (omega arith) calm (subst Drained (sym dd) c)) in
        sweeps quiet w.claimed w.head (update w.history (member_of a u) l) w.born w.died g.stage v.claims (update v.owned 0 (record (v.owned 0) { history = (member_of a u, l) ∷ (v.owned 0).history })) v.ruling.hand
        (calm_claims w.cursor w.free w.row w.head w.born g.life (λ _ _ _ u. (u, refl)) r.claims.rows r.claims.apart)
        (subst (λ (i : Node). ChainsRule s.elements w.round w.head (update w.history (member_of a u) i) w.born w.died g.life × Moves Can A s.elements w.round w.head w.history w.head (update w.history (member_of a u) i) w.born w.died w.born w.died g.life g.life) hh k)
        (λ _ _ _ _. (refl, λ p. p)) (λ y j k p h. absurd (no_stage y j k p h))
        record { heads = own.heads; histories = λ i j k f. ⊎_elim (λ y. update_at w.history (member_of a u) (member_of i j) l (sym y.0) ∙ y.1) (λ y. update_other w.history (member_of a u) (member_of i j) l (λ z. y.0 (sym z)) ∙ own.histories i j k y.1) f; dieds = own.dieds; names = own.names; borns = own.borns; rows = own.rows } r.hand r.inside (labels_skip_history s w.name w.head w.history g.life a x b u t l ua (ap (λ (i : Node). i.block) h) at hh r.named) r.once r.frees r.known

    moves_id : ChainsRule s.elements w.round w.head w.history w.born w.died g.life × Moves Can A s.elements w.round w.head w.history w.head w.history w.born w.died w.born w.died g.life g.life
    moves_id = (r.chains, moves_same Can A s.elements w.round w.head w.history w.born w.died g.life w.head w.history w.born w.died (λ _ _. refl) (λ _ _ _ _. refl) (λ _ _ _ _ _ _ h. h) (λ _ _ _ _ _ _ h. h) (λ _ _ _ _ _ _ h. h))

    by_bool : (x : Bool) → (x ≡ true → ⊥) → x ≡ false
    by_bool true h = absurd (h refl)
    by_bool false h = refl

    gone_free : (gone : ℕ → Bool) (c : ℕ) → gone c ≡ true → cond (gone c) Free (g.life c) ≡ Free
    gone_free gone c e = ap (λ (t : Bool). cond t Free (g.life c)) e

    gone_not : (gone : ℕ → Bool) (c : ℕ) → gone c ≡ false → cond (gone c) Free (g.life c) ≡ g.life c
    gone_not gone c e = ap (λ (t : Bool). cond t Free (g.life c)) e

    either_free : (gone : ℕ → Bool) (c : ℕ) → g.life c ≡ Free → cond (gone c) Free (g.life c) ≡ Free
    either_free gone c e = by (gone c) refl
      where
        by : (t : Bool) → gone c ≡ t → cond (gone c) Free (g.life c) ≡ Free
        by true f = gone_free gone c f
        by false f = gone_not gone c f ∙ e

    -- the owner owns the word, which names no block that is to be free
    abbrev pub CleanHead : (ℕ → Bool) → ℕ → Type 0
    CleanHead gone x = (l : Node) × Noted (v.owned 0).head x l × ((c : ℕ) → l.block ≡ c + 1 → gone c ≡ false)

    abbrev pub CleanHistory : (ℕ → Bool) → ℕ → Bool → Type 0
    CleanHistory gone b t = (l : Node) × Noted (v.owned 0).history (member_of b t) l × ((c : ℕ) → l.block ≡ c + 1 → gone c ≡ false)

    abbrev pub CleanPlace : (ℕ → Bool) → ℕ → Type 0
    CleanPlace gone x = CleanHead gone x × ((b y m : ℕ) (t : Bool) → HasEntry v.ruling.placed (b, y, m) → stands (Placed y m) t ≡ x + 1 → (gone b ≡ true) ⊎ CleanHistory gone b t)

    -- before the round each block that is in no row, stock or hand is noted with its places
    pub noted_places : (b y m : ℕ) → (g.life b ≡ Placed y m) ⊎ (g.life b ≡ RolledBack y m) → HasEntry v.ruling.placed (b, y, m)
    noted_places b y m (inl e) = ⊎_elim (λ h. h) (λ h. absurd (no_stage y h.0 m h.1 h.2)) (r.known.noted b y m e)
    noted_places b y m (inr e) = r.known.rolled_back b y m e

    -- All blocks of a list become free at once, where the owner has swept the words of the places at which they stand: no word is written
    module _ (gone : ℕ → Bool) (hand rolled_back kept : List ℕ) (placed : List (ℕ × ℕ × ℕ))
        (drained : (c : ℕ) → gone c ≡ true → (HasEntry v.ruling.rolled_back c × Drained v.ruling.finished × (v.ruling.quiet ≡ true)) ⊎ ((e y m : ℕ) × Noted (v.owned 0).died c e × (0 < e) × (e ≤ v.ruling.finished) × Drained e × HasEntry v.ruling.placed (c, y, m) × ((t : Bool) (x : ℕ) → stands (Placed y m) t ≡ x + 1 → CleanPlace gone x)))
        (hands : (c : ℕ) → (HasEntry hand c → HasEntry v.ruling.hand c ⊎ (gone c ≡ true)) × (HasEntry v.ruling.hand c ⊎ (gone c ≡ true) → HasEntry hand c))
        (rests : (c : ℕ) → (HasEntry rolled_back c → HasEntry v.ruling.rolled_back c × (gone c ≡ false)) × (HasEntry v.ruling.rolled_back c → HasEntry rolled_back c ⊎ (gone c ≡ true)))
        (keeps : (c : ℕ) → (HasEntry kept c → HasEntry v.ruling.kept c × (gone c ≡ false)) × (HasEntry v.ruling.kept c → HasEntry kept c ⊎ (gone c ≡ true)))
        (stays : (a : ℕ × ℕ × ℕ) → (HasEntry placed a → HasEntry v.ruling.placed a × (gone a.0 ≡ false)) × (HasEntry v.ruling.placed a → HasEntry placed a ⊎ (gone a.0 ≡ true))) where
      free_rolled_back_ : (x m : ℕ) → Free ≡ RolledBack x m → ⊥
      free_rolled_back_ x m e = cc

      free_loose : (u : ℕ) → Free ≡ Loose u → ⊥
      free_loose u e = cc

      clash : (t : Bool) → t ≡ true → t ≡ false → ⊥
      clash t a b = cc

      -- one that is gone stands, and in the chains of its places it is only where these were swept
      life_of : (c y m : ℕ) → HasEntry v.ruling.placed (c, y, m) → (g.life c ≡ Free → ⊥) × ((u : Bool) (x : ℕ) → chained (g.life c) u ≡ x + 1 → stands (Placed y m) u ≡ x + 1)
      life_of c y m h = ⊎_elim (λ e. ((λ f. free_not y m (sym f ∙ e)), λ u x k. sym (ap (λ (l : Life). stands l u) e) ∙ chained_stands (g.life c) u x k)) (λ e. ((λ f. free_rolled_back_ y m (sym f ∙ e)), λ u x k. let z : 0 ≡ x + 1 = sym (ap (λ (l : Life). chained l u) e) ∙ k in absurd (omega arith))) (r.note.placed c y m h)

      not_freed : (c : ℕ) → gone c ≡ true → g.life c ≡ Free → ⊥
      not_freed c e f = ⊎_elim (λ t. let y = r.note.rolled_back c t.0 in free_rolled_back_ y.0 y.1 (sym f ∙ y.2)) (λ t. (life_of c t.1 t.2 t.7).0 f) (drained c e)

      swept : (c : ℕ) (u : Bool) (x : ℕ) → gone c ≡ true → chained (g.life c) u ≡ x + 1 → CleanPlace gone x
      swept c u x e k = ⊎_elim (λ t. let y = r.note.rolled_back c t.0 in let z : 0 ≡ x + 1 = sym (ap (λ (l : Life). chained l u) y.2) ∙ k in absurd (omega arith)) (λ t. t.8 u x ((life_of c t.1 t.2 t.7).1 u x k)) (drained c e)

      not_headed : (x c : ℕ) → IsPlace s.elements g.life x → (w.head x).block ≡ c + 1 → gone c ≡ true → ⊥
      not_headed x c l h e = let k = named Can A s.elements w.round w.head w.history w.born w.died g.life r.chains x c (w.head x) (r.chains.heads x l) h in
          let t = (swept c k.0 x e k.1).0 in clash (gone c) e (t.2 c (sym (ap (λ (i : Node). i.block) (own.heads x t.0 t.1)) ∙ h))

      not_behind : (b : ℕ) (t : Bool) (x c : ℕ) → stands (g.life b) t ≡ x + 1 → gone b ≡ false → (w.history (member_of b t)).block ≡ c + 1 → gone c ≡ true → ⊥
      not_behind b t x c st f h e = let k = older_named Can A s.elements w.round w.head w.history w.born w.died g.life r.chains x c (w.born b) (w.history (member_of b t)) (r.chains.histories b t x st) h in
          let p = at_places (g.life b) t x st in ⊎_elim (λ z. clash (gone b) z f) (λ z. clash (gone c) e (z.2 c (sym (ap (λ (i : Node). i.block) (own.histories b t z.0 z.1)) ∙ h))) ((swept c k.0 x e k.1).1 b p.0 p.1 t (noted_places b p.0 p.1 p.2) p.3)
        where
          at_places : (l : Life) (t : Bool) (x : ℕ) → stands l t ≡ x + 1 → (y : ℕ) × (m : ℕ) × ((l ≡ Placed y m) ⊎ (l ≡ RolledBack y m)) × (stands (Placed y m) t ≡ x + 1)
          at_places Free t x h = absurd (omega arith)
          at_places (Loose u) t x h = absurd (omega arith)
          at_places (Placed y m) t x h = (y, m, inl refl, h)
          at_places (RolledBack y m) true x h = (y, m, inr refl, h)
          at_places (RolledBack y m) false x h = (y, m, inr refl, h)

      -- no reader of a round up to the last has gone to a block that was rolled back, nor a worker to any
      unvisited : (c q : ℕ) → HasEntry v.ruling.rolled_back c → Drained v.ruling.finished → v.ruling.quiet ≡ true → A q c → ⊥
      unvisited c q h f note a = ⊎_elim
          (λ b. let l = r.pins.past b.0 q b.1 in let e = r.stock.finished in elim (dec_lt q w.round) [ yes k ↦ cleared v.ruling.finished (omega arith) f q (omega arith) b.0 b.1 | no o ↦ r.note.quiet note b.0 c (let e : q ≡ w.round = omega arith in b.1 ∙ ap (λ (i : ℕ). i + 1) e) b.2 h ])
          (λ b. not_work quiet b.0 b.1) a.0

      now_free : (c : ℕ) (t : Bool) (y : ℕ) → stands (cond (gone c) Free (g.life c)) t ≡ y + 1 → (gone c ≡ false) × (stands (g.life c) t ≡ y + 1)
      now_free c t y st = let f = by_bool (gone c) (λ e. not_free (cond (gone c) Free (g.life c)) t y st (gone_free gone c e)) in (f, sym (ap (λ (l : Life). stands l t) (gone_not gone c f)) ∙ st)

      labels : LabelRule s w.name w.head w.history (λ c. cond (gone c) Free (g.life c))
      labels = record {
        heads = λ x b t l e c. by_label l (r.named.heads x b t (was_place x l) e (now_chained b t x c));
        histories = λ a c x t u st e ch. r.named.histories a c x t u (now_free a t x st).1 e (now_chained c u x ch);
        patch = λ b x m u. r.named.patch b x m (sym (gone_not gone b (by_bool (gone b) (λ e. free_rolled_back_ x m (sym (gone_free gone b e) ∙ u)))) ∙ u);
      }
        where
          now_chained : (c : ℕ) (t : Bool) (y : ℕ) → chained (cond (gone c) Free (g.life c)) t ≡ y + 1 → chained (g.life c) t ≡ y + 1
          now_chained c t y h = let f = (now_free c t y (chained_stands (cond (gone c) Free (g.life c)) t y h)).0 in sym (ap (λ (l : Life). chained l t) (gone_not gone c f)) ∙ h

          was_place : (x : ℕ) → IsPlace s.elements (λ c. cond (gone c) Free (g.life c)) x → IsPlace s.elements g.life x
          was_place x (inl l) = inl l
          was_place x (inr k) = inr (k.0, k.1, k.2, k.3, k.4, (now_free k.0 false k.3 k.5).1)

          by_label : {x k : ℕ} → IsPlace s.elements (λ c. cond (gone c) Free (g.life c)) x → IsLabel s w.name g.life x k → IsLabel s w.name (λ c. cond (gone c) Free (g.life c)) x k
          by_label l (inl a) = inl a
          by_label (inl l) (inr a) = absurd (child_outside s.elements a.0 a.1 a.2 (subst (λ (y : ℕ). y < s.elements) a.4 l))
          by_label (inr l) (inr a) = let same : l.0 ≡ a.0 = (child_one s.elements l.0 a.0 l.1 l.2 a.1 a.2 (sym l.4 ∙ a.4)).0 in let f = (now_free l.0 false l.3 l.5).0 in
              inr (a.0, a.1, a.2, a.3, a.4, ap (λ (i : Life). stands i a.1) (gone_not gone a.0 (ap gone (sym same) ∙ f)) ∙ a.5, a.6)

      not_chained : (c : ℕ) (u : Bool) (y x m : ℕ) → g.life c ≡ RolledBack x m → chained (g.life c) u ≡ y + 1 → ⊥
      not_chained c u y x m e h = let z : 0 ≡ y + 1 = sym (ap (λ (l : Life). chained l u) e) ∙ h in omega arith

      back : (b x m : ℕ) → cond (gone b) Free (g.life b) ≡ Placed x m → g.life b ≡ Placed x m
      back b x m u = sym (gone_not gone b (by_bool (gone b) (λ e. free_not x m (sym (gone_free gone b e) ∙ u)))) ∙ u

      -- a block is free now that was so, or that is gone
      freed : (c : ℕ) → cond (gone c) Free (g.life c) ≡ Free → (g.life c ≡ Free) ⊎ (gone c ≡ true)
      freed c e = by (gone c) refl
        where
          by : (t : Bool) → gone c ≡ t → (g.life c ≡ Free) ⊎ (gone c ≡ true)
          by true f = inr f
          by false f = inl (sym (gone_not gone c f) ∙ e)

      left : (c : ℕ) (l : Life) → (Free ≡ l → ⊥) → cond (gone c) Free (g.life c) ≡ l → (gone c ≡ false) × (g.life c ≡ l)
      left c l not u = let f = by_bool (gone c) (λ e. not (sym (gone_free gone c e) ∙ u)) in (f, sym (gone_not gone c f) ∙ u)

      pub frees_all : Rule s w n (record v { ruling = record v.ruling { hand = hand; rolled_back = rolled_back; kept = kept; placed = placed } }) (record g { life = λ c. cond (gone c) Free (g.life c) })
      frees_all = sweeps_to quiet w.cursor w.free w.row w.claimed w.head w.history w.born w.died _ g.stage v.claims v.owned hand v.ruling.cursor v.ruling.free v.ruling.low v.ruling.high rolled_back kept placed v.ruling.seen v.ruling.quiet
          (calm_claims w.cursor w.free w.row w.head w.born (λ c. cond (gone c) Free (g.life c)) (λ b x m u. (back b x m u, refl)) (λ i a l. let t = r.claims.rows i a l in (either_free gone (w.row i) t.0, t.1)) r.claims.apart)
          (frees Can A s.elements w.round w.head w.history w.born w.died g.life r.chains gone
          (λ c e q k. ⊎_elim
          (λ t. let y = r.note.rolled_back c t.0 in ((λ u i h. absurd (not_chained c u i y.0 y.1 y.2 h)), λ a. unvisited c q t.0 t.1 t.2 a))
          (λ t. let dd = own.dieds c t.0 t.3 in let t2 = t.4 in let t3 = t.5 in let fin = r.stock.finished in let o = over c (omega arith) (omega arith) (subst Drained (sym dd) t.6) q k in ((λ _ _ _. o), λ a. o a.1)) (drained c e))
          not_headed not_behind
          (λ c e. ⊎_elim (λ t. let y = r.note.rolled_back c t.0 in inl (r.chains.rolled_back c y.0 y.1 y.2)) (λ t. let dd = own.dieds c t.0 t.3 in let t2 = t.4 in let t3 = t.5 in let fin = r.stock.finished in gives_up Can A s.elements w.round w.head w.history w.born w.died g.life r.chains c (omega arith) (omega arith)) (drained c e)))
          (λ b x m u. (back b x m u, refl, λ p. p)) (λ y j k p h. absurd (no_stage y j k p h)) own
          (λ c h. ⊎_elim (λ k. either_free gone c (r.hand c k)) (λ k. gone_free gone c k) ((hands c).0 h))
          (let k = r.stock in record { finished = k.finished; cursor_is = k.cursor_is; free_is = k.free_is; left = k.left })
          record {
            rolled_back = λ c h. let t = (rests c).0 h in let y = r.note.rolled_back c t.0 in (y.0, y.1, gone_not gone c t.1 ∙ y.2);
            all = λ c x m h. let t = left c (RolledBack x m) (free_rolled_back_ x m) h in ⊎_elim (λ q. q) (λ q. absurd (clash (gone c) q t.0)) ((rests c).1 (r.note.all c x m t.1));
            placed = λ c x m h. let t = (stays (c, x, m)).0 h in let q = gone_not gone c t.1 in ⊎_elim (λ e. inl (q ∙ e)) (λ e. inr (q ∙ e)) (r.note.placed c x m t.0);
            seen = λ x e. let t = r.note.seen x e in (t.0, t.1, t.2, λ f j b p h m. t.3 f j b p h ((rests b).0 m).0);
            quiet = λ e j b p h m. r.note.quiet e j b p h ((rests b).0 m).0;
          }
          record { few = r.inside.few; rows = r.inside.rows; blocks = λ c l. either_free gone c (r.inside.blocks c l); stand_in = λ b t x st. r.inside.stand_in b t x (now_free b t x st).1; seconds = r.inside.seconds; hand_in = λ c h. ⊎_elim (r.inside.hand_in c) (λ k. below_pool s w.free w.row g.life g.stage v.ruling.hand v.ruling.retired r.inside c (not_freed c k)) ((hands c).0 h); retired_in = r.inside.retired_in } labels r.once
          record {
            all = λ c l e. ⊎_elim (λ f. ⊎_elim (λ h. inl ((hands c).1 (inl h))) inr (r.frees.all c l f)) (λ f. inl ((hands c).1 (inr f))) (freed c e);
            hand_rows = λ c h t. ⊎_elim (λ k. r.frees.hand_rows c k t) (λ k. not_freed c k (ap g.life (sym t.3) ∙ (r.claims.rows t.0 t.1 t.2).0)) ((hands c).0 h);
            hand_stock = λ c h t. ⊎_elim (λ k. r.frees.hand_stock c k t) (λ k. not_freed c k (ap g.life (sym t.3) ∙ (r.frees.stocked t.0 t.1 t.2).0)) ((hands c).0 h);
            stocked = λ i a l. let t = r.frees.stocked i a l in (either_free gone (w.row i) t.0, t.1, t.2);
            once = r.frees.once;
            shut = r.frees.shut;
          }
          record {
            noted = λ c y m u. let t = left c (Placed y m) (free_not y m) u in ⊎_elim inl (λ q. absurd (clash (gone c) q t.0)) ((stays (c, y, m)).1 (noted_places c y m (inl t.1)));
            rolled_back = λ c y m u. let t = left c (RolledBack y m) (free_rolled_back_ y m) u in ⊎_elim (λ h. h) (λ q. absurd (clash (gone c) q t.0)) ((stays (c, y, m)).1 (noted_places c y m (inr t.1)));
            loose = λ c u e. r.known.loose c u (left c (Loose u) (free_loose u) e).1;
          }
          record {
            all = λ c y m u p l. let t = left c (Placed y m) (free_not y m) u in ⊎_elim (λ h. h) (λ q. absurd (clash (gone c) q t.0)) ((keeps c).1 (r.kept.all c y m t.1 p l));
            right = λ c h. let a = (keeps c).0 h in let t = r.kept.right c a.0 in (t.0, t.1, gone_not gone c a.1 ∙ t.2, t.3, t.4);
          }
          (λ c y m u e. let l = r.names.calm c y m ((λ z. cc), λ z. cc) u in absurd (omega arith))

    -- BORN of a free block becomes 0
    pub zeroes : (b : ℕ) → HasEntry v.ruling.hand b → Rule s (record w { born = update w.born b 0 }) n (record v { owned = update v.owned 0 (record (v.owned 0) { born = (b, 0) ∷ (v.owned 0).born }) }) g
    zeroes b h = let fr : g.life b ≡ Free = r.hand b h in let off : (c : ℕ) → c ≢ b → update w.born b 0 c ≡ w.born c = λ c o. update_other w.born b c 0 o in
        sweeps quiet w.claimed w.head w.history (update w.born b 0) w.died g.stage v.claims (update v.owned 0 (record (v.owned 0) { born = (b, 0) ∷ (v.owned 0).born })) v.ruling.hand
        (calm_claims w.cursor w.free w.row w.head (update w.born b 0) g.life (λ c x m u. (u, off c (λ (e : c ≡ b). free_not x m (sym fr ∙ ap g.life (sym e) ∙ u)))) (λ i a l. let t = r.claims.rows i a l in (t.0, zero_at i t.1)) r.claims.apart)
        (resets Can A s.elements w.round w.head w.history w.born w.died g.life r.chains b (λ t. ap (λ (l : Life). chained l t) fr) w.history (update w.born b 0) w.died (λ c o. ((λ _. refl), off c o, refl)) (let z = update_same w.born b 0 in omega arith)
        (λ x m u. absurd (free_rolled_back x m (sym fr ∙ u))) (subst (IsUnborn w.round (update w.born b 0 b) (w.died b)) (sym fr) (inl (update_same w.born b 0))))
        (λ c x m u. (refl, λ p. subst (λ (i : ℕ). 0 < i) (off c (λ (e : c ≡ b). free_not x m (sym fr ∙ ap g.life (sym e) ∙ u))) p)) (λ y j k p u. absurd (no_stage y j k p u))
        record { heads = own.heads; histories = own.histories; dieds = own.dieds; names = own.names; borns = noted_after (v.owned 0).born w.born b 0 own.borns; rows = own.rows } r.hand r.inside r.named r.once (frees_on s.pool w.cursor w.free w.row w.born (update w.born b 0) g.life g.life v.ruling.hand v.ruling.low v.ruling.high (λ _ e. e) (λ c e. (e, zero_on c)) r.frees) r.known
      where
        free_rolled_back : (x m : ℕ) → Free ≡ RolledBack x m → ⊥
        free_rolled_back x m e = cc

        zero_on : (c : ℕ) → w.born c ≡ 0 → update w.born b 0 c ≡ 0
        zero_on c z = dite (ℕ_discrete c b) (λ e. update_at w.born b c 0 e) (λ o. update_other w.born b c 0 o ∙ z)

        zero_at : (i : ℕ) → w.born (w.row i) ≡ 0 → update w.born b 0 (w.row i) ≡ 0
        zero_at i = zero_on (w.row i)

    -- FREE becomes 0, and the rows that were not drawn are the stock
    pub stops : (k c : ℕ) → v.ruling.free ≡ k + 1 → v.ruling.cursor ≡ c + 1 → v.ruling.high ≤ v.ruling.low → Rule s (record w { free = 0 }) n (record v { ruling = record v.ruling { free = 1; low = c; high = k } }) g
    stops k c fk ck none = let fk' = r.stock.free_is k fk in let ck' = (r.stock.cursor_is c ck).1 in sweeps_to quiet w.cursor 0 w.row w.claimed w.head w.history w.born w.died g.life g.stage v.claims v.owned v.ruling.hand v.ruling.cursor 1 c k v.ruling.rolled_back v.ruling.kept v.ruling.placed v.ruling.seen v.ruling.quiet
        (calm_claims w.cursor 0 w.row w.head w.born g.life (λ _ _ _ u. (u, refl)) (λ i a l. absurd (omega arith)) (λ i j a l. absurd (omega arith))) moves_id
        (λ _ _ _ u. (u, refl, λ p. p)) (λ y j k p u. absurd (no_stage y j k p u)) own r.hand
        record { finished = r.stock.finished; cursor_is = r.stock.cursor_is; free_is = λ i e. omega arith; left = r.stock.left }
        record { rolled_back = r.note.rolled_back; all = r.note.all; placed = r.note.placed; seen = r.note.seen; quiet = r.note.quiet }
        record { few = omega arith; rows = λ i l. absurd (omega arith); blocks = r.inside.blocks; stand_in = r.inside.stand_in; seconds = r.inside.seconds; hand_in = r.inside.hand_in; retired_in = r.inside.retired_in } r.named r.once
        record {
          all = λ b l e. ⊎_elim inl (λ t. ⊎_elim (λ t. let t1 = t.1 in let t2 = t.2 in inr (inr (t.0, omega arith, omega arith, t.3))) (λ t. let t1 = t.1 in let t2 = t.2 in absurd (omega arith)) t) (r.frees.all b l e);
          hand_rows = λ b h t. let t2 = t.2 in absurd (omega arith);
          hand_stock = λ b h t. let t1 = t.1 in let t2 = t.2 in r.frees.hand_rows b h (t.0, omega arith, omega arith, t.3);
          stocked = λ i a l. let t = r.claims.rows i (omega arith) (omega arith) in (t.0, t.1, r.inside.rows i (omega arith));
          once = λ i j a l b m. r.claims.apart i j (omega arith) (omega arith) (omega arith) (omega arith);
          shut = λ _. refl;
        } r.known r.kept (λ _ _ _ u _. (u, refl))

    -- CURSOR becomes 0 while FREE is 0
    pub rewinds : v.ruling.free ≡ 1 → Rule s (record w { cursor = 0 }) n (record v { ruling = record v.ruling { cursor = 1 } }) g
    rewinds f = let z = r.stock.free_is 0 f in sweeps_to quiet 0 w.free w.row w.claimed w.head w.history w.born w.died g.life g.stage v.claims v.owned v.ruling.hand 1 v.ruling.free v.ruling.low v.ruling.high v.ruling.rolled_back v.ruling.kept v.ruling.placed v.ruling.seen v.ruling.quiet
        (calm_claims 0 w.free w.row w.head w.born g.life (λ _ _ _ u. (u, refl)) (λ i a l. absurd (omega arith)) (λ i j a l. absurd (omega arith))) moves_id
        (λ _ _ _ u. (u, refl, λ p. p)) (λ y j k p u. absurd (no_stage y j k p u)) own r.hand
        record { finished = r.stock.finished; cursor_is = λ k e. ((λ a. absurd (cc)), omega arith); free_is = r.stock.free_is; left = r.stock.left } record { rolled_back = r.note.rolled_back; all = r.note.all; placed = r.note.placed; seen = r.note.seen; quiet = r.note.quiet } r.inside r.named r.once
        record {
          all = λ b l e. ⊎_elim inl (λ t. ⊎_elim (λ t. let t2 = t.2 in absurd (omega arith)) (λ t. inr (inr t)) t) (r.frees.all b l e);
          hand_rows = λ b h t. let t2 = t.2 in absurd (omega arith);
          hand_stock = r.frees.hand_stock;
          stocked = r.frees.stocked;
          once = r.frees.once;
          shut = r.frees.shut;
        } r.known r.kept (λ _ _ _ u _. (u, refl))

    -- a row that is not of the stock is written while FREE is 0
    pub lays : (i b : ℕ) → v.ruling.free ≡ 1 → (i < v.ruling.low) ⊎ (v.ruling.high ≤ i) → Rule s (record w { row = update w.row i b }) n (record v { owned = update v.owned 0 (record (v.owned 0) { row = (i, b) ∷ (v.owned 0).row }) }) g
    lays i b f out = let z = r.stock.free_is 0 f in let row' : ℕ → ℕ = update w.row i b in let off : (k : ℕ) → v.ruling.low ≤ k → k < v.ruling.high → row' k ≡ w.row k = λ k a l. update_other w.row i k b (λ (e : k ≡ i). ⊎_elim (λ o. omega arith) (λ o. omega arith) out) in
        sweeps_to quiet w.cursor w.free row' w.claimed w.head w.history w.born w.died g.life g.stage v.claims (update v.owned 0 (record (v.owned 0) { row = (i, b) ∷ (v.owned 0).row })) v.ruling.hand v.ruling.cursor v.ruling.free v.ruling.low v.ruling.high v.ruling.rolled_back v.ruling.kept v.ruling.placed v.ruling.seen v.ruling.quiet
        (calm_claims w.cursor w.free row' w.head w.born g.life (λ _ _ _ u. (u, refl)) (λ k a l. absurd (omega arith)) (λ k j a l. absurd (omega arith))) moves_id
        (λ _ _ _ u. (u, refl, λ p. p)) (λ y j k p u. absurd (no_stage y j k p u))
        record { heads = own.heads; histories = own.histories; dieds = own.dieds; names = own.names; borns = own.borns; rows = noted_after (v.owned 0).row w.row i b own.rows } r.hand
        record { finished = r.stock.finished; cursor_is = r.stock.cursor_is; free_is = r.stock.free_is; left = r.stock.left } record { rolled_back = r.note.rolled_back; all = r.note.all; placed = r.note.placed; seen = r.note.seen; quiet = r.note.quiet }
        record { few = r.inside.few; rows = λ k l. absurd (omega arith); blocks = r.inside.blocks; stand_in = r.inside.stand_in; seconds = r.inside.seconds; hand_in = r.inside.hand_in; retired_in = r.inside.retired_in } r.named r.once
        record {
          all = λ c l e. ⊎_elim inl (λ t. ⊎_elim (λ t. let t2 = t.2 in absurd (omega arith)) (λ t. inr (inr (t.0, t.1, t.2, off t.0 t.1 t.2 ∙ t.3))) t) (r.frees.all c l e);
          hand_rows = λ c h t. let t2 = t.2 in absurd (omega arith);
          hand_stock = λ c h t. r.frees.hand_stock c h (t.0, t.1, t.2, sym (off t.0 t.1 t.2) ∙ t.3);
          stocked = λ k a l. let t = r.frees.stocked k a l in let e = off k a l in (ap g.life e ∙ t.0, ap w.born e ∙ t.1, omega arith);
          once = λ k j a l c m e. r.frees.once k j a l c m (sym (off k a l) ∙ e ∙ off j c m);
          shut = r.frees.shut;
        } r.known r.kept (λ _ _ _ u _. (u, refl))

    -- the row is below k and not of the stock, and names the block by what the owner owns
    abbrev pub IsLaid : ℕ → ℕ → ℕ → Type 0
    IsLaid k i b = (i < k) × ((i < v.ruling.low) ⊎ (v.ruling.high ≤ i)) × Noted (v.owned 0).row i b

    -- FREE becomes the number of the rows
    pub opens_rows : (k : ℕ) (hand : List ℕ) → v.ruling.free ≡ 1 → v.ruling.cursor ≡ 1 → (v.ruling.low < v.ruling.high → v.ruling.high ≤ k) → ((i : ℕ) → i < k → ((v.ruling.low ≤ i) × (i < v.ruling.high)) ⊎ ((b : ℕ) × IsLaid k i b × HasEntry v.ruling.hand b × Noted (v.owned 0).born b 0))
        → ((i j b : ℕ) → IsLaid k i b → IsLaid k j b → i ≡ j) → ((b : ℕ) → (HasEntry hand b → HasEntry v.ruling.hand b × ((i : ℕ) → IsLaid k i b → ⊥)) × (HasEntry v.ruling.hand b → HasEntry hand b ⊎ ((i : ℕ) × IsLaid k i b)))
        → Rule s (record w { free = k }) n (record v { ruling = record v.ruling { hand = hand; free = k + 1; low = 0; high = 0 } }) g
    opens_rows k hand f c below rows one left = let z = r.stock.free_is 0 f in let zero_c = (r.stock.cursor_is 0 c).1 in sweeps_to quiet w.cursor k w.row w.claimed w.head w.history w.born w.died g.life g.stage v.claims v.owned hand v.ruling.cursor (k + 1) 0 0 v.ruling.rolled_back v.ruling.kept v.ruling.placed v.ruling.seen v.ruling.quiet
        (calm_claims w.cursor k w.row w.head w.born g.life (λ _ _ _ u. (u, refl)) (λ i a l. let t = free_row i l in (t.0, t.1)) (λ i j a l b m e. same_row i j l m e)) moves_id
        (λ _ _ _ u. (u, refl, λ p. p)) (λ y j k p u. absurd (no_stage y j k p u)) own (λ b h. r.hand b ((left b).0 h).0)
        record { finished = r.stock.finished; cursor_is = r.stock.cursor_is; free_is = λ i e. omega arith; left = r.stock.left } record { rolled_back = r.note.rolled_back; all = r.note.all; placed = r.note.placed; seen = r.note.seen; quiet = r.note.quiet }
        record { few = few_below k s.pool w.row (λ i l. (free_row i l).2) same_row; rows = λ i l. (free_row i l).2; blocks = r.inside.blocks; stand_in = r.inside.stand_in; seconds = r.inside.seconds; hand_in = λ b h. r.inside.hand_in b ((left b).0 h).0; retired_in = r.inside.retired_in } r.named r.once
        record {
          all = λ b l e. ⊎_elim (λ h. ⊎_elim inl (λ t. let t1 = t.1.0 in inr (inl (t.0, omega arith, t1, own.rows t.0 b t.1.2))) ((left b).1 h)) (λ t. ⊎_elim (λ t. let t2 = t.2 in absurd (omega arith)) (λ t. let t1 = t.1 in let t2 = t.2 in let y = below (omega arith) in inr (inl (t.0, omega arith, omega arith, t.3))) t) (r.frees.all b l e);
          hand_rows = λ b h t. let a = (left b).0 h in ⊎_elim (λ u. r.frees.hand_stock b a.0 (t.0, u.0, u.1, t.3)) (λ u. a.1 t.0 (subst (IsLaid k t.0) (sym (own.rows t.0 u.0 u.1.2) ∙ t.3) u.1)) (rows t.0 t.2);
          hand_stock = λ b h t. let t2 = t.2 in absurd (omega arith);
          stocked = λ i a l. absurd (omega arith);
          once = λ i j a l. absurd (omega arith);
          shut = λ l. absurd (omega arith);
        } r.known r.kept (λ _ _ _ u _. (u, refl))
      where
        free_row : (i : ℕ) → i < k → (g.life (w.row i) ≡ Free) × (w.born (w.row i) ≡ 0) × (w.row i < s.pool)
        free_row i l = ⊎_elim (λ t. r.frees.stocked i t.0 t.1) (λ t. let e : w.row i ≡ t.0 = own.rows i t.0 t.1.2 in let p = r.inside.hand_in t.0 t.2 in (ap g.life e ∙ r.hand t.0 t.2, ap w.born e ∙ own.borns t.0 0 t.3, omega arith)) (rows i l)

        same_row : (i j : ℕ) → i < k → j < k → w.row i ≡ w.row j → i ≡ j
        same_row i j l m e = ⊎_elim
            (λ t. ⊎_elim (λ u. r.frees.once i j t.0 t.1 u.0 u.1 e) (λ u. absurd (r.frees.hand_stock u.0 u.2 (i, t.0, t.1, e ∙ own.rows j u.0 u.1.2))) (rows j m))
            (λ t. ⊎_elim (λ u. absurd (r.frees.hand_stock t.0 t.2 (j, u.0, u.1, sym e ∙ own.rows i t.0 t.1.2))) (λ u. one i j t.0 t.1 (subst (IsLaid k j) (sym (own.rows j u.0 u.1.2) ∙ sym e ∙ own.rows i t.0 t.1.2) u.1)) (rows j m))
            (rows i l)
