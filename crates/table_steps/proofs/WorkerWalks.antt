-- A worker's walks: at the last finished round, and in the first half at the current round.
use Rattle.std.proofs.Common.{◌≡◌, ℕ, ◌+◌, ◌<◌, ◌≤◌, Bool, true, false, List, ◌∷◌, ◌⊎◌, refl, sym, ap, ◌∙◌, subst, inl, inr, ⊎_elim, arith}
use Rattle.table_words.specs.Setup.{Setup}
use Rattle.table_words.specs.Functions.{update}
use Rattle.table_words.specs.Words.{Words, Node}
use Rattle.table_words.specs.Views.{Views, Work, Walk, Still, At, Past, Worker, FirstHalf, SecondHalf, RollingBack, Precedes, order}
use Rattle.table_words.specs.Places.{member_of, child_place}
use Rattle.table_words.specs.Entries.{HasEntry}
use Rattle.table_words.proofs.Functions.{update_cases}
use Rattle.table_state.specs.Ghosts.{chained, stands, Ghost, Placed, Life}
use Rattle.table_state.specs.Chains.{Reaches, IsHead}
use Rattle.table_state.specs.Bisections.{IsPlaceOf, MayRead, IsPatch}
use Rattle.table_state.specs.Work.{WorkRule, IsWorkPlace, WorkWalks, WalkRule, GrownRule, IsGrown}
use Rattle.table_state.specs.Rule.{Rule}
use Rattle.table_state.specs.Inside.{IsLabel}
use Rattle.table_state.proofs.Inside.{label_of, label_one, label_place}
use Rattle.table_state.proofs.FoundAgain.{still_not, at_past, at_one, past_one, one_more, placed, chained_stands, none_found, first_block, seen_live}
use Rattle.table_state.proofs.ChainSteps.{named, older_head, dead_end}
use Rattle.table_state.proofs.Lists.{crew_update, plan_update, drawn_update}
use Rattle.table_state.proofs.Lists.{draws_update}
use Rattle.table_steps.proofs.OwnedWords.{retired_on}
use Rattle.table_state.proofs.Across.{Went, half_of, zero_or_more, place_one, name_one}
use Rattle.table_state.proofs.KnownNames.{lifts, first_place}
use Rattle.table_state.proofs.Known.{retireds_work, grows_same}
use native.Mathlib.Decide.{dec_lt}

module _ (s : Setup) (w : Words) (n : ℕ) (v : Views) (g : Ghost) (r : Rule s w n v g) where
  abbrev d : ℕ
  d = w.round + 1

  -- what a step of a worker's knowledge is to show
  pub reworks : (j : ℕ) (u : Work) → WorkRule s w.round v.ruling.phase w.name w.born w.died g.life (g.who d) (v.kind j) j u → WalkRule s w.round v.ruling.phase w.name w.history w.born w.died g.life g.who (v.kind j) j u → u.retired ≡ (v.work j).retired → u.plan ≡ (v.work j).plan → u.drawn ≡ (v.work j).drawn → u.number ≡ (v.work j).number → GrownRule s w.round v.ruling.phase w.name w.born (g.who d) (v.kind j) j u
      → Rule s w n (record v { work = update v.work j u }) g
  reworks j u works walks same lists draws own grow = record {
    names_apart = r.names_apart;
    claims = r.claims;
    labels = r.labels;
    chains = r.chains;
    names = r.names;
    pins = r.pins;
    works = update_cases (λ i x. WorkRule s w.round v.ruling.phase w.name w.born w.died g.life (g.who d) (v.kind i) i x) v.work j u works (λ i _. r.works i);
    walks = update_cases (λ i x. WalkRule s w.round v.ruling.phase w.name w.history w.born w.died g.life g.who (v.kind i) i x) v.work j u walks (λ i _. r.walks i);
    owned = r.owned;
    goes = r.goes;
    rules = r.rules;
    stock = r.stock;
    note = r.note;
    retired = retired_on w.round w.died g.life v.work (update v.work j u) v.ruling.retired (update_cases (λ i x. x.retired ≡ (v.work i).retired) v.work j u same (λ _ _. refl)) r.retired;
    plan = plan_update s w.round v.ruling.phase g.who v.kind v.work v.ruling.plan j u lists r.plan;
    history = r.history;
    drawn = drawn_update v.ruling.phase w.cursor w.free w.row v.kind v.work j u draws r.drawn;
    draws = draws_update v.ruling.phase v.work g.stage j u draws r.draws;
    crew = crew_update s w.round v.ruling.phase v.kind v.work g.stage v.ruling.lone j u own r.crew;
    inside = r.inside;
    named = r.named;
    once = r.once;
    holders = r.holders;
    hand = r.hand;
    grows = update_cases (λ i x. GrownRule s w.round v.ruling.phase w.name w.born (g.who d) (v.kind i) i x) v.work j u grow (λ i _. r.grows i);
    retireds = retireds_work w.round w.died g.life v.work v.ruling.retired j u same r.retireds;
    frees = r.frees;
    known = r.known;
    kept = r.kept;
    early = r.early;
  }

  now : MayRead w.round v.ruling.phase v.read w.round
  now = inl (inl refl)

  module _ (j : ℕ) (kind : v.kind j ≡ Worker) where
    early : Precedes v.ruling.phase RollingBack
    early = ⊎_elim (λ e. omega (arith, ap order e)) (λ e. omega (arith, ap order e)) (half_of s w n v g r j kind)

    next : MayRead w.round v.ruling.phase v.read d
    next = inr (refl, early)

    second_place : v.ruling.phase ≡ SecondHalf → (x k : ℕ) → IsWorkPlace s w.round v.ruling.phase w.name g.who x k → IsPlaceOf s w.name (g.who w.round) x k
    second_place two x k h = ⊎_elim (λ t. let e = t.0 in absurd (cc)) (λ t. t) h

    -- the place of an element that the pass found, or a macro element's
    work_place : (x k : ℕ) → HasEntry (v.work j).found (x, k) ⊎ HasEntry (v.work j).stood (x, k) ⊎ ((x < s.elements) × (k ≡ s.top x)) → IsWorkPlace s w.round v.ruling.phase w.name g.who x k
    work_place x k h = ⊎_elim (λ t. inl ((r.works j).found x k t)) (λ t. ⊎_elim (λ u. inr ((r.walks j).stood x k u)) (λ u. inr (inl u)) t) h

    work_label : (x k : ℕ) → IsWorkPlace s w.round v.ruling.phase w.name g.who x k → IsLabel s w.name g.life x k
    work_label x k (inl t) = label_of s w n v g r d next x k t.1
    work_label x k (inr t) = label_of s w n v g r w.round now x k t

    -- by its view the pass found the element's place, or it is a macro element's
    abbrev pub IsFound : ℕ → ℕ → Type 0
    IsFound x k = HasEntry (v.work j).found (x, k) ⊎ HasEntry (v.work j).stood (x, k) ⊎ ((x < s.elements) × (k ≡ s.top x))

    -- the word l is the one that the walk loads next: the LINK of a place that was found, or the HISTORY word of the block that was passed by
    abbrev pub IsNext : ℕ → ℕ → Node → Type 0
    IsNext x k l = (IsFound x k × (l ≡ w.head x)) ⊎ ((b : ℕ) × (t : Bool) × ((v.work j).walk ≡ Past x k b t) × (l ≡ w.history (member_of b t)))

    -- from the word the block of the name at the last finished round is found
    abbrev pub Leads : ℕ → ℕ → Node → Type 0
    Leads x k l = IsHead w.round w.died g.life x l × IsWorkPlace s w.round v.ruling.phase w.name g.who x k × ((c : ℕ) → g.who w.round k ≡ c + 1 → Reaches w.history w.born w.died g.life w.round x c l)

    pub first_word : (x k : ℕ) → IsWorkPlace s w.round v.ruling.phase w.name g.who x k → Leads x k (w.head x)
    first_word x k (inl t) = let f = r.names.fits w.round now in (
      r.chains.heads x (seen_live s w.name w.name w.head w.history w.head w.history w.born w.died w.born w.died g.life g.life (λ _ _ _ _ _. refl) (g.who d) d x k (r.names.fits d next) t.1),
      inl t,
      λ c e. let u = f.found k c e in subst (λ (y : ℕ). Reaches w.history w.born w.died g.life w.round y c (w.head y)) (place_one s w n v g r d next u.1 x k (lifts s w n v g r t.0 u.1 k u.4) t.1) u.5,
    )
    first_word x k (inr t) = let f = r.names.fits w.round now in (
      r.chains.heads x (seen_live s w.name w.name w.head w.history w.head w.history w.born w.died w.born w.died g.life g.life (λ _ _ _ _ _. refl) (g.who w.round) w.round x k f t),
      inr t,
      λ c e. let u = f.found k c e in subst (λ (y : ℕ). Reaches w.history w.born w.died g.life w.round y c (w.head y)) (place_one s w n v g r w.round now u.1 x k u.4 t) u.5,
    )

    next_word : (x k b : ℕ) (t : Bool) → (v.work j).walk ≡ Past x k b t → Leads x k (w.history (member_of b t))
    next_word x k b t at = let h = subst (WorkWalks s w.round v.ruling.phase w.name w.history w.born w.died g.life g.who (v.work j).went) at (r.walks j).walk in
        (older_head (λ _. Unit {0}) (Went w.round w.died v.kind v.work v.read) s.elements w.round w.head w.history w.born w.died g.life r.chains x (w.born b) (w.history (member_of b t)) (r.chains.histories b t x (chained_stands (g.life b) t x h.1)), h.2, h.3)

    pub leads : (x k : ℕ) (l : Node) → IsNext x k l → Leads x k l
    leads x k l (inl t) = subst (Leads x k) (sym t.1) (first_word x k (work_place x k t.0))
    leads x k l (inr t) = subst (Leads x k) (sym t.3) (next_word x k t.0 t.1 t.2)

    -- a member of the block that the word names has the element's name
    pub next_named : (x k : ℕ) (l : Node) → IsNext x k l → (c : ℕ) (t : Bool) → l.block ≡ c + 1 → chained (g.life c) t ≡ x + 1 → w.name (member_of c t) ≡ k
    next_named x k l (inl a) c t e ch = let at = work_place x k a.0 in let lab = work_label x k at in
        label_one s w.name g.life x (w.name (member_of c t)) k (r.named.heads x c t (label_place s w.name g.life x k lab) (ap (λ (i : Node). i.block) (sym a.1) ∙ e) ch) lab
    next_named x k l (inr n) c t e ch = let h = subst (WorkWalks s w.round v.ruling.phase w.name w.history w.born w.died g.life g.who (v.work j).went) n.2 (r.walks j).walk in
        r.named.histories n.0 c x n.1 t (chained_stands (g.life n.0) n.1 x h.1) (ap (λ (i : Node). i.block) (sym n.3) ∙ e) ch ∙ (r.walks j).sided x k n.0 n.1 (inr n.2)

    in_round : (v.work j).round ≡ w.round + 1
    in_round = (r.walks j).at_work kind

    -- the view with another walk and more notes
    abbrev pub learned : List ℕ → Walk → List (ℕ × ℕ) → List ℕ → List ℕ → List (ℕ × ℕ) → List (ℕ × ℕ) → Work
    learned went walk found known absent stood had = record (v.work j) { went = went; walk = walk; found = found; known = known; absent = absent; stood = stood; had = had }

    relearns : (went : List ℕ) (walk : Walk) (found : List (ℕ × ℕ)) (known absent : List ℕ) (stood had : List (ℕ × ℕ)) → ((x i : ℕ) → HasEntry found (x, i) → (v.ruling.phase ≡ FirstHalf) × IsPlaceOf s w.name (g.who d) x i) → ((i : ℕ) → HasEntry known i → (v.ruling.phase ≡ FirstHalf) × ((b : ℕ) × (g.who d i ≡ b + 1)))
        → ((i : ℕ) → HasEntry absent i → g.who w.round i ≡ 0) → ((x i : ℕ) → HasEntry stood (x, i) → IsPlaceOf s w.name (g.who w.round) x i) → ((b i : ℕ) → HasEntry had (b, i) → g.who w.round i ≡ b + 1)
        → ((b : ℕ) → HasEntry went b → ((t : Bool) × (x : ℕ) × (stands (g.life b) t ≡ x + 1)) × ((w.died b ≡ 0) ⊎ (w.round < w.died b))) → WorkWalks s w.round v.ruling.phase w.name w.history w.born w.died g.life g.who went walk → ((x i b : ℕ) (t : Bool) → (walk ≡ At x i b t) ⊎ (walk ≡ Past x i b t) → w.name (member_of b t) ≡ i)
        → Rule s w n (record v { work = update v.work j (learned went walk found known absent stood had) }) g
    relearns went walk found known absent stood had f k a t h wt wk sd = reworks j (learned went walk found known absent stood had)
        record { only = λ o. absurd (o kind); found = f; known = k; open_ = (r.works j).open_; given = (r.works j).given }
        record { still = λ o. absurd (o kind); only = λ o. absurd (o kind); half = (r.walks j).half; at_work = (r.walks j).at_work; retired_in = (r.walks j).retired_in; absent = a; stood = t; had = h; went = wt; walk = wk; sided = sd } refl refl refl refl
        (grows_same s w.round v.ruling.phase w.name w.born (g.who d) (v.kind j) j (v.work j) (learned went walk found known absent stood had) refl (r.grows j))

    abbrev u : Work
    u = v.work j

    -- a macro element stands at its place
    pub notes_top : u.half ≡ FirstHalf → (x : ℕ) → x < s.elements → Rule s w n (record v { work = update v.work j (learned u.went u.walk ((x, s.top x) ∷ u.found) u.known u.absent u.stood u.had) }) g
    notes_top first x l = relearns u.went u.walk ((x, s.top x) ∷ u.found) u.known u.absent u.stood u.had
        (λ y i m. ⊎_elim (λ f. let a : y ≡ x = ap (λ (z : ℕ × ℕ). z.0) f in (sym ((r.walks j).half kind) ∙ first, inl (subst (λ (z : ℕ). z < s.elements) (sym a) l, ap (λ (z : ℕ × ℕ). z.1) f ∙ ap s.top (sym a)))) ((r.works j).found y i) m)
        (r.works j).known (r.walks j).absent (r.walks j).stood (r.walks j).had (r.walks j).went (r.walks j).walk (r.walks j).sided

    -- the word stops the walk: the last finished round has not the name
    pub ends : (x k : ℕ) (l : Node) → IsNext x k l → (l.block ≡ 0) ⊎ ((0 < l.died) × (l.died < u.round)) → Rule s w n (record v { work = update v.work j (learned u.went Still u.found u.known (k ∷ u.absent) u.stood u.had) }) g
    ends x k l next stop_at = let f = leads x k l next in let same = in_round in let stop : (l.block ≡ 0) ⊎ ((0 < l.died) × (l.died ≤ w.round)) = ⊎_elim inl (λ t. let t1 = t.1 in inr (t.0, omega arith)) stop_at in let z : g.who w.round k ≡ 0 = ⊎_elim (λ e. e) (λ t. absurd (none t.0 (f.2 t.0 t.1) stop f.0)) (zero_or_more (g.who w.round k)) in
        relearns u.went Still u.found u.known (k ∷ u.absent) u.stood u.had (r.works j).found (r.works j).known (λ i h. ⊎_elim (λ e. ap (g.who w.round) e ∙ z) ((r.walks j).absent i) h) (r.walks j).stood (r.walks j).had (r.walks j).went tt (λ y i b t z. absurd (still_not y i b t z))
      where
        none : (c : ℕ) → Reaches w.history w.born w.died g.life w.round x c l → (l.block ≡ 0) ⊎ ((0 < l.died) × (l.died ≤ w.round)) → IsHead w.round w.died g.life x l → ⊥
        none c h (inl e) o = none_found w.history w.born w.died g.life w.round x c l e h
        none c h (inr e) (inl o) = none_found w.history w.born w.died g.life w.round x c l (ap (λ (m : Node). m.block) o) h
        none c h (inr e) (inr o) = let dd = o.4 e.0 in let e0 = e.0 in let e1 = e.1 in dead_end (λ _. Unit {0}) (Went w.round w.died v.kind v.work v.read) s.elements w.round w.head w.history w.born w.died g.life r.chains w.round x c h.0 l o.0 o.1 o.2 o.3 (omega arith) (omega arith) h.1

    -- the word leads to a block, and the walk goes there
    pub goes_to : (x k b : ℕ) (l : Node) → IsNext x k l → l.block ≡ b + 1 → (l.died ≡ 0) ⊎ (u.round ≤ l.died) → (t : Bool) × Rule s w n (record v { work = update v.work j (learned (b ∷ u.went) (At x k b t) u.found u.known u.absent u.stood u.had) }) g
    goes_to x k b l next is may_go = let f = leads x k l next in let same = in_round in let may : (l.died ≡ 0) ⊎ (w.round < l.died) = ⊎_elim inl (λ t. inr (omega arith)) may_go in let o = named (λ _. Unit {0}) (Went w.round w.died v.kind v.work v.read) s.elements w.round w.head w.history w.born w.died g.life r.chains x b l f.0 is in let st = chained_stands (g.life b) o.0 x o.1 in let al = alive may f.0 in (
      o.0,
      relearns (b ∷ u.went) (At x k b o.0) u.found u.known u.absent u.stood u.had (r.works j).found (r.works j).known (r.walks j).absent (r.walks j).stood (r.walks j).had
          (λ c h. ⊎_elim (λ e. subst (λ (y : ℕ). ((t : Bool) × (x : ℕ) × (stands (g.life y) t ≡ x + 1)) × ((w.died y ≡ 0) ⊎ (w.round < w.died y))) (sym e) ((o.0, x, st), al)) ((r.walks j).went c) h)
          (inl refl, o.1, f.1, λ c e. let h = first_block w.history w.born w.died g.life w.round x c b l is (f.2 c e) in ⊎_elim inl (λ y. inr (subst (λ (i : Bool). Reaches w.history w.born w.died g.life w.round x c (w.history (member_of b i))) (r.chains.sides b h.0 o.0 x h.1 st) y)) h.2)
          (λ y i c t z. ⊎_elim (λ e. let p = at_one x k b o.0 y i c t e in sym (ap (λ (q : ℕ × Bool). w.name (member_of q.0 q.1)) (λ q. (p.2 q, p.3 q))) ∙ next_named x k l next b o.0 is o.1 ∙ p.1) (λ e. absurd (at_past x k b o.0 y i c t e)) z),
    )
      where
        alive : (l.died ≡ 0) ⊎ (w.round < l.died) → IsHead w.round w.died g.life x l → (w.died b ≡ 0) ⊎ (w.round < w.died b)
        alive m (inl z) = let y : 0 ≡ b + 1 = sym (ap (λ (i : Node). i.block) z) ∙ is in absurd (omega arith)
        alive (inl z) (inr o) = let e : w.died o.0 ≡ w.died b = ap w.died (one_more o.0 b (sym o.2 ∙ is)) in ⊎_elim (λ a. inl (sym e ∙ a)) (λ a. inr (omega arith)) (o.5 z)
        alive (inr m) (inr o) = let e : w.died o.0 ≡ w.died b = ap w.died (one_more o.0 b (sym o.2 ∙ is)) in let y : l.died ≡ w.died o.0 = o.4 (omega arith) in inr (omega arith)

    -- the block to which the walk has gone
    at_block : (x k b : ℕ) (t : Bool) → u.walk ≡ At x k b t → HasEntry u.went b × (chained (g.life b) t ≡ x + 1) × IsWorkPlace s w.round v.ruling.phase w.name g.who x k
    at_block x k b t at = let h = subst (WorkWalks s w.round v.ruling.phase w.name w.history w.born w.died g.life g.who u.went) at (r.walks j).walk in (h.0, h.1, h.2)

    -- a child's place and name
    kid_at : (who : ℕ → ℕ) (b k : ℕ) (t : Bool) → who (w.name (member_of b t)) ≡ b + 1 → w.name (member_of b t) ≡ k → (c : Bool) (y i : ℕ) → ◌≡◌ {A = ℕ × ℕ} (y, i) (child_place s.elements b t c, s.child k c) → IsPlaceOf s w.name who y i
    kid_at who b k t bis is c y i f = inr (b, t, c, ap (λ (z : ℕ × ℕ). z.0) f, bis, ap (λ (z : ℕ × ℕ). z.1) f ∙ ap (λ (z : ℕ). s.child z c) (sym is))

    -- BORN of the block in the first half: the name is bisected, and its children stand at the block
    pub finds_first : u.half ≡ FirstHalf → (x k b : ℕ) (t : Bool) → u.walk ≡ At x k b t → 0 < w.born b → Rule s w n (record v { work = update v.work j (learned u.went Still ((child_place s.elements b t false, s.child k false) ∷ (child_place s.elements b t true, s.child k true) ∷ u.found) (k ∷ u.known) u.absent u.stood u.had) }) g
    finds_first first x k b t at p =
        let one : v.ruling.phase ≡ FirstHalf = sym ((r.walks j).half kind) ∙ first in let h = at_block x k b t at in let l = r.chains.borns b in let pl = placed (g.life b) t x h.1 in let calm = r.names.calm b pl.0 pl.1 ((λ z. cc), λ z. cc) pl.2 in
        let q = r.names.sound d next b t x h.1 (p, l, ⊎_elim inl (λ m. absurd (omega arith)) ((r.walks j).went b h.0).1) in
        let e = name_one s w n v g r d x (w.name (member_of b t)) k q.1 (first_place s w n v g r one x k h.2) in
        relearns u.went Still ((child_place s.elements b t false, s.child k false) ∷ (child_place s.elements b t true, s.child k true) ∷ u.found) (k ∷ u.known) u.absent u.stood u.had
        (λ y i m. ⊎_elim (λ f. (one, kid_at (g.who d) b k t q.0 e false y i f)) (λ m2. ⊎_elim (λ f. (one, kid_at (g.who d) b k t q.0 e true y i f)) (λ m3. (r.works j).found y i m3) m2) m)
        (λ i m. ⊎_elim (λ f. (one, (b, ap (g.who d) (f ∙ sym e) ∙ q.0))) ((r.works j).known i) m)
        (r.walks j).absent (r.walks j).stood (r.walks j).had (r.walks j).went tt (λ y i b t z. absurd (still_not y i b t z))

    -- BORN of a finished round: the last finished round has the name
    pub finds_last : (x k b : ℕ) (t : Bool) → u.walk ≡ At x k b t → u.half ≡ SecondHalf → 0 < w.born b → w.born b < u.round → Rule s w n (record v { work = update v.work j (learned u.went Still u.found u.known u.absent ((child_place s.elements b t false, s.child k false) ∷ (child_place s.elements b t true, s.child k true) ∷ u.stood) ((b, k) ∷ u.had)) }) g
    finds_last x k b t at second p before =
        let same = in_round in let low : w.born b ≤ w.round = omega arith in
        let two : v.ruling.phase ≡ SecondHalf = sym ((r.walks j).half kind) ∙ second in let h = at_block x k b t at in
        let q = r.names.sound w.round now b t x h.1 (p, low, ((r.walks j).went b h.0).1) in
        let e = name_one s w n v g r w.round x (w.name (member_of b t)) k q.1 (second_place two x k h.2) in
        relearns u.went Still u.found u.known u.absent ((child_place s.elements b t false, s.child k false) ∷ (child_place s.elements b t true, s.child k true) ∷ u.stood) ((b, k) ∷ u.had)
        (r.works j).found (r.works j).known (r.walks j).absent
        (λ y i m. ⊎_elim (λ f. kid_at (g.who w.round) b k t q.0 e false y i f) (λ m2. ⊎_elim (λ f. kid_at (g.who w.round) b k t q.0 e true y i f) (λ m3. (r.walks j).stood y i m3) m2) m)
        (λ c i m. ⊎_elim (λ f. let cb : c ≡ b = ap (λ (z : ℕ × ℕ). z.0) f in let ik : i ≡ k = ap (λ (z : ℕ × ℕ). z.1) f in ap (g.who w.round) (ik ∙ sym e) ∙ q.0 ∙ ap (λ (z : ℕ). z + 1) (sym cb)) ((r.walks j).had c i) m)
        (r.walks j).went tt (λ y i b t z. absurd (still_not y i b t z))

    -- the block's other member is bisected with the first
    pub finds_both : (b k i : ℕ) (t : Bool) → HasEntry u.had (b, k) → w.name (member_of b t) ≡ i + 1 → Rule s w n (record v { work = update v.work j (learned u.went u.walk u.found u.known u.absent ((child_place s.elements b t false, s.child (i + 1) false) ∷ (child_place s.elements b t true, s.child (i + 1) true) ∷ u.stood) ((b, i + 1) ∷ u.had)) }) g
    finds_both b k i t mine is = let who : g.who w.round (w.name (member_of b t)) ≡ b + 1 = both_members b k i t mine is in
        relearns u.went u.walk u.found u.known u.absent ((child_place s.elements b t false, s.child (i + 1) false) ∷ (child_place s.elements b t true, s.child (i + 1) true) ∷ u.stood) ((b, i + 1) ∷ u.had)
        (r.works j).found (r.works j).known (r.walks j).absent
        (λ y a m. ⊎_elim (λ f. kid_at (g.who w.round) b (i + 1) t who is false y a f) (λ m2. ⊎_elim (λ f. kid_at (g.who w.round) b (i + 1) t who is true y a f) (λ m3. (r.walks j).stood y a m3) m2) m)
        (λ c a m. ⊎_elim (λ f. let cb : c ≡ b = ap (λ (z : ℕ × ℕ). z.0) f in let ik : a ≡ i + 1 = ap (λ (z : ℕ × ℕ). z.1) f in ap (g.who w.round) (ik ∙ sym is) ∙ who ∙ ap (λ (z : ℕ). z + 1) (sym cb)) ((r.walks j).had c a) m)
        (r.walks j).went (r.walks j).walk (r.walks j).sided
      where
        both_members : (b k i : ℕ) (t : Bool) → HasEntry u.had (b, k) → w.name (member_of b t) ≡ i + 1 → g.who w.round (w.name (member_of b t)) ≡ b + 1
        both_members b k i t mine is = let h = (r.walks j).had b k mine in let f = (r.names.fits w.round now).found k b h in let p = placed (g.life b) f.0 f.1 f.3 in let a = r.names.patch b p.0 p.1 p.2 in side t is f.0 f.2 p.0 p.1 p.2 a h
          where
            side : (t : Bool) → w.name (member_of b t) ≡ i + 1 → (o : Bool) → w.name (member_of b o) ≡ k → (x m : ℕ) → g.life b ≡ Placed x m → IsPatch s w.name b m → g.who w.round k ≡ b + 1 → g.who w.round (w.name (member_of b t)) ≡ b + 1
            side false is o e x m l a h = (r.names.fits w.round now).both b x o false (ap (g.who w.round) e ∙ h) (ap (λ (q : Life). chained q false) l)
            side true is o e x m l a h = ⊎_elim (λ z. let q : 0 ≡ i + 1 = sym z.1 ∙ sym a.1 ∙ is in absurd (omega arith)) (λ z. (r.names.fits w.round now).both b z.0 o true (ap (g.who w.round) e ∙ h) (ap (λ (q : Life). chained q true) l ∙ z.2)) a.2

    -- or the block is passed by
    -- and where it was born in the current round, its children's places are known
    pub passes : (x k b : ℕ) (t : Bool) → u.walk ≡ At x k b t → (w.born b ≡ 0) ⊎ (u.round ≤ w.born b) → (grown : List (ℕ × ℕ)) → (grown ≡ u.grown) ⊎ ((u.half ≡ SecondHalf) × (u.round ≤ w.born b) × (grown ≡ (child_place s.elements b t false, s.child k false) ∷ (child_place s.elements b t true, s.child k true) ∷ u.grown))
        → Rule s w n (record v { work = update v.work j (record (v.work j) { walk = Past x k b t; grown = grown }) }) g
    passes x k b t at not_yet grown how = let same = in_round in let not : (w.born b ≡ 0) ⊎ (w.round < w.born b) = ⊎_elim inl (λ y. inr (omega arith)) not_yet in let h = subst (WorkWalks s w.round v.ruling.phase w.name w.history w.born w.died g.life g.who u.went) at (r.walks j).walk in
        reworks j (record (v.work j) { walk = Past x k b t; grown = grown })
        record { only = λ o. absurd (o kind); found = (r.works j).found; known = (r.works j).known; open_ = (r.works j).open_; given = (r.works j).given }
        record {
          still = λ o. absurd (o kind);
          only = λ o. absurd (o kind);
          half = (r.walks j).half;
          at_work = (r.walks j).at_work;
          retired_in = (r.walks j).retired_in;
          absent = (r.walks j).absent;
          stood = (r.walks j).stood;
          had = (r.walks j).had;
          went = (r.walks j).went;
          walk = (h.0, h.1, h.2, λ c e. ⊎_elim (λ y. let z : w.born b ≡ w.born c = ap w.born y.0 in let y0 = y.1.0 in let y1 = y.1.1 in absurd (omega arith)) (λ y. y) (h.3 c e));
          sided = λ y i c u z. ⊎_elim (λ e. absurd (at_past y i c u x k b t (sym e))) (λ e. let p = past_one x k b t y i c u e in sym (ap (λ (q : ℕ × Bool). w.name (member_of q.0 q.1)) (λ q. (p.2 q, p.3 q))) ∙ (r.walks j).sided x k b t (inl at) ∙ p.1) z;
        } refl refl refl refl
        record {
          only = λ o. absurd (o kind);
          grown = λ y i m. ⊎_elim (λ e. (r.grows j).grown y i (subst (λ (l : List (ℕ × ℕ)). HasEntry l (y, i)) e m))
              (λ e. let two : v.ruling.phase ≡ SecondHalf = sym ((r.walks j).half kind) ∙ e.0 in ⊎_elim (λ f. (two, grown_at x k b t at e.1 false y i f)) (λ m2. ⊎_elim (λ f. (two, grown_at x k b t at e.1 true y i f)) (λ m3. (r.grows j).grown y i m3) m2) (subst (λ (l : List (ℕ × ℕ)). HasEntry l (y, i)) e.2 m)) how;
        }
      where
        grown_at : (x k b : ℕ) (t : Bool) → u.walk ≡ At x k b t → u.round ≤ w.born b → (c : Bool) (y i : ℕ) → ◌≡◌ {A = ℕ × ℕ} (y, i) (child_place s.elements b t c, s.child k c) → IsGrown s w.round w.name w.born (g.who d) y i
        grown_at x k b t at l c y i f = let same = in_round in let le = r.chains.borns b in let h = at_block x k b t at in let pl = placed (g.life b) t x h.1 in let is = (r.walks j).sided x k b t (inl at) in
            let live : w.died b ≡ 0 = elim (dec_lt 0 (w.died b)) [ yes m ↦ absurd (let z = r.chains.dieds b pl.0 pl.1 pl.2 m in let z1 = z.1 in let z2 = z.2 in omega arith) | no m ↦ omega arith ] in
            let q = r.names.sound d next b t x h.1 (omega arith, le, inl live) in
            (b, t, c, ap (λ (z : ℕ × ℕ). z.0) f, omega arith, q.0, ap (λ (z : ℕ × ℕ). z.1) f ∙ ap (λ (z : ℕ). s.child z c) (sym is))
