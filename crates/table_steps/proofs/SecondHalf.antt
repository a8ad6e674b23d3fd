-- What a pass of the second half finds: blocks that are to be retired, and names that are not bisected.
use Rattle.std.proofs.Common.{◌≡◌, ℕ, ◌+◌, ◌<◌, ◌≤◌, Bool, true, false, List, ◌∷◌, ◌⊎◌, refl, sym, ap, ◌∙◌, subst, inl, inr, ⊎_elim, arith}
use Rattle.table_words.specs.Setup.{Setup}
use Rattle.table_words.specs.Functions.{update}
use Rattle.table_words.specs.Words.{Words, Node, node}
use Rattle.table_words.specs.Claims.{Half, Whole, Living}
use Rattle.table_words.proofs.PlaceNumbers.{child_one, child_outside}
use native.Mathlib.Decide.{dec_lt}
use Rattle.table_state.specs.Work.{IsGrown}
use Rattle.table_state.proofs.Known.{grows_same}
use Rattle.table_words.specs.Views.{Views, Work, Worker, SecondHalf, order}
use Rattle.table_words.specs.Places.{member_of, child_place}
use Rattle.table_words.specs.Entries.{HasEntry}
use Rattle.table_state.specs.Ghosts.{Life, Placed, chained, Ghost}
use Rattle.table_state.specs.Chains.{Covers, Reaches, IsHead}
use Rattle.table_state.specs.Bisections.{IsPlaceOf, MayRead}
use Rattle.table_state.specs.Lists.{IsMember}
use Rattle.table_state.specs.Rule.{Rule}
use Rattle.table_state.proofs.Lists.{member_side}
use Rattle.table_state.proofs.FoundAgain.{placed, none_found, found_covers, seen_live, one_more}
use Rattle.table_state.proofs.ChainSteps.{dead_end}
use Rattle.table_state.proofs.Across.{Went, zero_or_more, place_one, name_one}
use Rattle.table_steps.proofs.WorkerWalks.{reworks, first_word}
use Rattle.table_state.proofs.Inside.{label_of, label_one, label_place}

module _ (s : Setup) (w : Words) (n : ℕ) (v : Views) (g : Ghost) (r : Rule s w n v g) (j : ℕ) (kind : v.kind j ≡ Worker) (second : (v.work j).half ≡ SecondHalf) where
  abbrev d : ℕ
  d = w.round + 1

  abbrev u : Work
  u = v.work j

  two : v.ruling.phase ≡ SecondHalf
  two = sym ((r.walks j).half kind) ∙ second

  next : MayRead w.round v.ruling.phase v.read d
  next = inr (refl, let e = two in omega (arith, ap order two))

  now : MayRead w.round v.ruling.phase v.read w.round
  now = inl (inl refl)

  opened : (open_ : List ℕ) → ((i : ℕ) → HasEntry open_ i → g.who d i ≡ 0) → Rule s w n (record v { work = update v.work j (record (v.work j) { open_ = open_ }) }) g
  opened open_ ok = reworks s w n v g r j (record (v.work j) { open_ = open_ })
      record { only = λ o. absurd (o kind); found = (r.works j).found; known = (r.works j).known; open_ = λ i h. (two, ok i h); given = (r.works j).given }
      (let k = r.walks j in record { still = k.still; only = k.only; half = k.half; at_work = k.at_work; retired_in = k.retired_in; absent = k.absent; stood = k.stood; had = k.had; went = k.went; walk = k.walk; sided = k.sided }) refl refl refl refl (grows_same s w.round v.ruling.phase w.name w.born (g.who d) (v.kind j) j (v.work j) (record (v.work j) { open_ = open_ }) refl (r.grows j))

  opens : (k : ℕ) → g.who d k ≡ 0 → Rule s w n (record v { work = update v.work j (record (v.work j) { open_ = k ∷ u.open_ }) }) g
  opens k z = opened (k ∷ u.open_) (λ i h. ⊎_elim (λ e. ap (g.who d) e ∙ z) (λ t. ((r.works j).open_ i t).1) h)

  -- a block that bisects a name at the last finished round, and the place of the name's member
  had_at : (b k : ℕ) → HasEntry u.had (b, k) → (t : Bool) × (x : ℕ) × (w.name (member_of b t) ≡ k) × (chained (g.life b) t ≡ x + 1) × Covers w.born w.died w.round b
  had_at b k h = let f = (r.names.fits w.round now).found k b ((r.walks j).had b k h) in (f.0, f.1, f.2, f.3, found_covers w.history w.born w.died g.life w.round f.1 b f.5.0 (w.head f.1) f.5.1)

  -- a block of a finished round for a name that leads its patch
  pub gives : (b k : ℕ) → s.leads k ≡ true → HasEntry u.had (b, k) → Rule s w n (record v { work = update v.work j (record (v.work j) { given = (b, k) ∷ u.given }) }) g
  gives b k lead h = let a = had_at b k h in let p = placed (g.life b) a.0 a.1 a.3 in let c = a.4 in let l = r.chains.dieds b p.0 p.1 p.2 in let bo = c.1 in
      reworks s w n v g r j (record (v.work j) { given = (b, k) ∷ u.given })
      record {
        only = λ o. absurd (o kind);
        found = (r.works j).found;
        known = (r.works j).known;
        open_ = (r.works j).open_;
        given = λ c' i m. ⊎_elim
            (λ e. let cb : c' ≡ b = ap (λ (z : ℕ × ℕ). z.0) e in let ik : i ≡ k = ap (λ (z : ℕ × ℕ). z.1) e in
            subst (λ (z : ℕ × ℕ). (v.ruling.phase ≡ SecondHalf) × (w.name (member_of z.0 false) ≡ z.1) × ((x : ℕ) × (m : ℕ) × (g.life z.0 ≡ Placed x m) × (0 < w.born z.0) × (w.born z.0 ≤ w.round) × ((w.died z.0 ≡ 0) ⊎ (w.died z.0 ≡ w.round + 1)))) (λ t. (sym cb t, sym ik t))
            (two, first a.0 a.2, (p.0, p.1, p.2, c.0, bo, ⊎_elim inl (λ q. inr (let z = (l (omega arith)).2 in omega arith)) c.2)))
            ((r.works j).given c' i) m;
      }
      (let k = r.walks j in record { still = k.still; only = k.only; half = k.half; at_work = k.at_work; retired_in = k.retired_in; absent = k.absent; stood = k.stood; had = k.had; went = k.went; walk = k.walk; sided = k.sided }) refl refl refl refl (grows_same s w.round v.ruling.phase w.name w.born (g.who d) (v.kind j) j (v.work j) (record (v.work j) { given = (b, k) ∷ u.given }) refl (r.grows j))
    where
      -- the leading name is the first member's
      first : (t : Bool) → w.name (member_of b t) ≡ k → w.name (member_of b false) ≡ k
      first false e = e
      first true e = let a = had_at b k h in let p = placed (g.life b) a.0 a.1 a.3 in let q = r.names.patch b p.0 p.1 p.2 in ⊎_elim
          (λ z. absurd (r.names_apart.leads_some (ap s.leads (sym (sym e ∙ q.1 ∙ z.1)) ∙ lead)))
          (λ z. absurd (r.names_apart.mate_leads (w.name (member_of b false)) k z.1 z.3 lead (sym e ∙ q.1 ∙ z.3)))
          q.2

  -- the block is retired: the name is not bisected
  pub opens_dead : (b k : ℕ) → HasEntry u.had (b, k) → 0 < w.died b → Rule s w n (record v { work = update v.work j (record (v.work j) { open_ = k ∷ u.open_ }) }) g
  opens_dead b k h p = opens k (⊎_elim (λ e. absurd (dead e)) (λ e. e) (r.names.either k b (let e = two in omega (arith, ap order e)) ((r.walks j).had b k h)))
    where
      dead : g.who d k ≡ b + 1 → ⊥
      dead e = let f = (r.names.fits d next).found k b e in let c = found_covers w.history w.born w.died g.life d f.1 b f.5.0 (w.head f.1) f.5.1 in let q = placed (g.life b) f.0 f.1 f.3 in let l = (r.chains.dieds b q.0 q.1 q.2 p).2 in ⊎_elim (λ z. omega arith) (λ z. omega arith) c.2

  -- the LINK of the name's place names nothing, or a block that is retired: the name is not bisected
  pub opens_stood : (x k : ℕ) → HasEntry u.stood (x, k) → ((w.head x).block ≡ 0) ⊎ (0 < (w.head x).died) → Rule s w n (record v { work = update v.work j (record (v.work j) { open_ = k ∷ u.open_ }) }) g
  opens_stood x k h stop = opens k (⊎_elim (λ e. e) (λ t. absurd (not t.0 t.1)) (zero_or_more (g.who d k)))
    where
      -- the place is the name's in the current round too
      stays : (c : ℕ) → g.who d k ≡ c + 1 → IsPlaceOf s w.name (g.who w.round) x k → IsPlaceOf s w.name (g.who d) x k
      stays c e (inl a) = inl a
      stays c e (inr a) = let f = (r.names.fits d next).found k c e in ⊎_elim (λ q. inr (a.0, a.1, a.2, a.3, q, a.5)) (λ q. absurd (gone q f.4)) (r.names.either (w.name (member_of a.0 a.1)) a.0 (let z = two in omega (arith, ap order z)) a.4)
        where
          gone : g.who d (w.name (member_of a.0 a.1)) ≡ 0 → {y : ℕ} → IsPlaceOf s w.name (g.who d) y k → ⊥
          gone q (inl b) = r.names_apart.top_child _ _ a.2 (sym b.1 ∙ a.5)
          gone q (inr b) = let t = r.names_apart.child_one _ _ a.2 b.2 (sym a.5 ∙ b.5) in let z : 0 ≡ b.0 + 1 = sym q ∙ ap (g.who d) t.0 ∙ b.4 in omega arith

      not : (c : ℕ) → g.who d k ≡ c + 1 → ⊥
      not c e = let f = (r.names.fits d next).found k c e in let was = (r.walks j).stood x k h in let at = place_one s w n v g r d next f.1 x k f.4 (stays c e was) in
          let found : Reaches w.history w.born w.died g.life d x c (w.head x) = subst (λ (y : ℕ). Reaches w.history w.born w.died g.life d y c (w.head y)) at f.5 in
          ⊎_elim (λ z. none_found w.history w.born w.died g.life d x c (w.head x) z found) (λ p. dead p found (first_word s w n v g r j kind x k (inr was)).0) stop
        where
          dead : 0 < (w.head x).died → Reaches w.history w.born w.died g.life d x c (w.head x) → IsHead w.round w.died g.life x (w.head x) → ⊥
          dead p found (inl o) = let z : (w.head x).died ≡ 0 = ap (λ (l : Node). l.died) o in omega arith
          dead p found (inr o) = let q = placed (g.life o.0) o.1 x o.3 in let e = o.4 p in let l = (r.chains.dieds o.0 q.0 q.1 q.2 (omega arith)).2 in dead_end (λ _. Unit {0}) (Went w.round w.died v.kind v.work v.read) s.elements w.round w.head w.history w.born w.died g.life r.chains d x c found.0 (w.head x) o.0 o.1 o.2 o.3 (omega arith) l found.1

  -- so it is at the place of a child of a block that was born in the round
  module _ (x k : ℕ) (mine : HasEntry u.grown (x, k)) where
    entry : IsGrown s w.round w.name w.born (g.who d) x k
    entry = ((r.grows j).grown x k mine).1

    here : IsPlaceOf s w.name (g.who d) x k
    here = inr (entry.0, entry.1, entry.2, entry.3, entry.5, entry.6)

    word : IsHead w.round w.died g.life x (w.head x)
    word = r.chains.heads x (seen_live s w.name w.name w.head w.history w.head w.history w.born w.died w.born w.died g.life g.life (λ _ _ _ _ _. refl) (g.who d) d x k (r.names.fits d next) here)

    opens_grown : ((w.head x).block ≡ 0) ⊎ (0 < (w.head x).died) → Rule s w n (record v { work = update v.work j (record (v.work j) { open_ = k ∷ u.open_ }) }) g
    opens_grown stop = opens k (⊎_elim (λ e. e) (λ t. absurd (not t.0 t.1)) (zero_or_more (g.who d k)))
      where
        not : (c : ℕ) → g.who d k ≡ c + 1 → ⊥
        not c e = let f = (r.names.fits d next).found k c e in let at = place_one s w n v g r d next f.1 x k f.4 here in
            let found : Reaches w.history w.born w.died g.life d x c (w.head x) = subst (λ (y : ℕ). Reaches w.history w.born w.died g.life d y c (w.head y)) at f.5 in
            ⊎_elim (λ z. none_found w.history w.born w.died g.life d x c (w.head x) z found) (λ p. dead p found word) stop
          where
            dead : 0 < (w.head x).died → Reaches w.history w.born w.died g.life d x c (w.head x) → IsHead w.round w.died g.life x (w.head x) → ⊥
            dead p found (inl o) = let z : (w.head x).died ≡ 0 = ap (λ (l : Node). l.died) o in omega arith
            dead p found (inr o) = let q = placed (g.life o.0) o.1 x o.3 in let e = o.4 p in let l = (r.chains.dieds o.0 q.0 q.1 q.2 (omega arith)).2 in dead_end (λ _. Unit {0}) (Went w.round w.died v.kind v.work v.read) s.elements w.round w.head w.history w.born w.died g.life r.chains d x c found.0 (w.head x) o.0 o.1 o.2 o.3 (omega arith) l found.1

    -- the last finished round has no block there
    not_old : (b : ℕ) (t : Bool) → chained (g.life b) t ≡ x + 1 → Covers w.born w.died w.round b → ⊥
    not_old b t c cover = by ((r.names.sound w.round now b t x c cover).1)
      where
        by : IsPlaceOf s w.name (g.who w.round) x (w.name (member_of b t)) → ⊥
        by (inl l) = child_outside s.elements entry.0 entry.1 entry.2 (subst (λ (y : ℕ). y < s.elements) entry.3 l.0)
        by (inr a) = let o = child_one s.elements entry.0 a.0 entry.1 entry.2 a.1 a.2 (sym entry.3 ∙ a.3) in let q : a.0 ≡ entry.0 = sym o.0 in let f = (r.names.fits w.round now).found (w.name (member_of a.0 a.1)) a.0 a.4 in
            let cv = found_covers w.history w.born w.died g.life w.round f.1 a.0 f.5.0 (w.head f.1) f.5.1 in let l = cv.1 in let e : w.born a.0 ≡ w.born entry.0 = ap w.born q in let n = entry.4 in omega arith

    -- the member to which the LINK leads has the name
    pub side : (b : ℕ) → (w.head x).block ≡ b + 1 → (t : Bool) × (w.name (member_of b t) ≡ k)
    side b e = by word
      where
        by : IsHead w.round w.died g.life x (w.head x) → (t : Bool) × (w.name (member_of b t) ≡ k)
        by (inl o) = let z : 0 ≡ b + 1 = sym (ap (λ (l : Node). l.block) o) ∙ e in absurd (omega arith)
        by (inr o) = let q : o.0 ≡ b = one_more o.0 b (sym o.2 ∙ e) in let lab = label_of s w n v g r d next x k here in
            (o.1, label_one s w.name g.life x (w.name (member_of b o.1)) k (r.named.heads x b o.1 (label_place s w.name g.life x k lab) e (ap (λ (i : ℕ). chained (g.life i) o.1) (sym q) ∙ o.3)) lab)

    -- the LINK names a block that was born in the round too
    pub grows_on : (b : ℕ) (t : Bool) → w.head x ≡ node (b + 1) 0 → w.name (member_of b t) ≡ k → Rule s w n (record v { work = update v.work j (record (v.work j) { grown = (child_place s.elements b t false, s.child k false) ∷ (child_place s.elements b t true, s.child k true) ∷ u.grown }) }) g
    grows_on b t is named_ = reworks s w n v g r j (record (v.work j) { grown = (child_place s.elements b t false, s.child k false) ∷ (child_place s.elements b t true, s.child k true) ∷ u.grown })
        record { only = λ o. absurd (o kind); found = (r.works j).found; known = (r.works j).known; open_ = (r.works j).open_; given = (r.works j).given }
        (let k = r.walks j in record { still = k.still; only = k.only; half = k.half; at_work = k.at_work; retired_in = k.retired_in; absent = k.absent; stood = k.stood; had = k.had; went = k.went; walk = k.walk; sided = k.sided }) refl refl refl refl
        record {
          only = λ o. absurd (o kind);
          grown = λ y i m. (two, ⊎_elim (λ f. kid false y i f) (λ m2. ⊎_elim (λ f. kid true y i f) (λ m3. ((r.grows j).grown y i m3).1) m2) m);
        }
      where
        chain : (t : Bool) × (chained (g.life b) t ≡ x + 1) × ((w.died b ≡ 0) ⊎ (w.died b ≡ d))
        chain = by word
          where
            by : IsHead w.round w.died g.life x (w.head x) → (t : Bool) × (chained (g.life b) t ≡ x + 1) × ((w.died b ≡ 0) ⊎ (w.died b ≡ d))
            by (inl o) = let z : 0 ≡ b + 1 = sym (ap (λ (l : Node). l.block) o) ∙ ap (λ (l : Node). l.block) is in absurd (omega arith)
            by (inr o) = let q : o.0 ≡ b = one_more o.0 b (sym o.2 ∙ ap (λ (l : Node). l.block) is) in let a = o.5 (ap (λ (l : Node). l.died) is) in
                (o.1, ap (λ (i : ℕ). chained (g.life i) o.1) (sym q) ∙ o.3, subst (λ (i : ℕ). (w.died i ≡ 0) ⊎ (w.died i ≡ w.round + 1)) q a)

        at : (y : ℕ) × (m : ℕ) × (g.life b ≡ Placed y m)
        at = placed (g.life b) chain.0 x chain.1

        born : 0 < w.born b
        born = elim (dec_lt 0 (w.born b)) [ yes l ↦ l | no o ↦ absurd (let h = r.claims.half b at.0 at.1 at.2 (omega arith) in ⊎_elim (λ e. half_not b (r.claims.living at.0 h.0 at.1 (Half b) e two).0 (r.claims.living at.0 h.0 at.1 (Half b) e two).1) (λ e. whole_not b (r.claims.living at.0 h.0 at.1 (Whole b) e two).0 (r.claims.living at.0 h.0 at.1 (Whole b) e two).1) h.1) ]
          where
            half_not : (b c : ℕ) → Half b ≡ Living c → ⊥
            half_not b c e = cc

            whole_not : (b c : ℕ) → Whole b ≡ Living c → ⊥
            whole_not b c e = cc

        living : w.died b ≡ 0
        living = ⊎_elim (λ e. e) (λ e. let l = r.chains.dieds b at.0 at.1 at.2 (omega arith) in let l1 = l.1 in absurd (not_old b chain.0 chain.1 (born, omega arith, inr (omega arith)))) chain.2

        new_born : w.born b ≡ w.round + 1
        new_born = let l = r.chains.borns b in elim (dec_lt w.round (w.born b)) [ yes m ↦ omega arith | no m ↦ absurd (not_old b chain.0 chain.1 (born, omega arith, inl living)) ]

        kid : (c : Bool) (y i : ℕ) → ◌≡◌ {A = ℕ × ℕ} (y, i) (child_place s.elements b t c, s.child k c) → IsGrown s w.round w.name w.born (g.who d) y i
        kid c y i f = let q = r.names.sound d next b chain.0 x chain.1 (born, r.chains.borns b, inl living) in let e = name_one s w n v g r d x (w.name (member_of b chain.0)) k q.1 here in
            (b, t, c, ap (λ (z : ℕ × ℕ). z.0) f, new_born, ap (g.who d) (named_ ∙ sym e) ∙ q.0, ap (λ (z : ℕ × ℕ). z.1) f ∙ ap (λ (z : ℕ). s.child z c) (sym named_))

  -- the LINK of a place is loaded
  pub opens_head : (x k : ℕ) → HasEntry u.stood (x, k) ⊎ HasEntry u.grown (x, k) → (open_ : List ℕ) (grown : List (ℕ × ℕ))
      → ((((w.head x).block ≡ 0) ⊎ (0 < (w.head x).died)) × (open_ ≡ k ∷ u.open_) × (grown ≡ u.grown)) ⊎ ((b : ℕ) × (t : Bool) × HasEntry u.grown (x, k) × (w.head x ≡ node (b + 1) 0) × (w.name (member_of b t) ≡ k) × (open_ ≡ u.open_) × (grown ≡ (child_place s.elements b t false, s.child k false) ∷ (child_place s.elements b t true, s.child k true) ∷ u.grown))
      → Rule s w n (record v { work = update v.work j (record (v.work j) { open_ = open_; grown = grown }) }) g
  opens_head x k mine open_ grown (inl h) = subst (λ (i : List ℕ × List (ℕ × ℕ)). Rule s w n (record v { work = update v.work j (record (v.work j) { open_ = i.0; grown = i.1 }) }) g) (λ i. (sym h.1 i, sym h.2 i)) (⊎_elim (λ t. opens_stood x k t h.0) (λ t. opens_grown x k t h.0) mine)
  opens_head x k mine open_ grown (inr h) = subst (λ (i : List ℕ × List (ℕ × ℕ)). Rule s w n (record v { work = update v.work j (record (v.work j) { open_ = i.0; grown = i.1 }) }) g) (λ i. (sym h.5 i, sym h.6 i)) (grows_on x k h.2 h.0 h.1 h.3 h.4)

  -- a patch of the retire list that is retired already: its members are not bisected
  pub opens_given : (b k : ℕ) → HasEntry u.given (b, k) → 0 < w.died b → (names : List ℕ) → ((i : ℕ) → HasEntry names i → HasEntry u.open_ i ⊎ IsMember s k i) → Rule s w n (record v { work = update v.work j (record (v.work j) { open_ = names }) }) g
  opens_given b k h p names right = let e = (r.works j).given b k h in let at = e.2.2 in
      opened names (λ i m. ⊎_elim (λ t. ((r.works j).open_ i t).1) (λ t. let c = member_side s w.name k b e.2.0 e.2.1 i e.1 (r.names.patch b e.2.0 e.2.1 at) t in ap (g.who d) c.3 ∙ open_at c.0 c.1 (ap (λ (l : Life). chained l c.0) at ∙ c.2)) (right i m))
    where
      open_at : (t : Bool) (y : ℕ) → chained (g.life b) t ≡ y + 1 → g.who d (w.name (member_of b t)) ≡ 0
      open_at t y c = let a = ((r.works j).given b k h).2 in let bo = a.4 in let was = (r.names.sound w.round now b t y c (a.3, a.4, ⊎_elim inl (λ z. inr (omega arith)) a.5)).0 in
          ⊎_elim (λ e. absurd (dead (w.name (member_of b t)) e)) (λ e. e) (r.names.either (w.name (member_of b t)) b (let e = two in omega (arith, ap order e)) was)
        where
          dead : (i : ℕ) → g.who d i ≡ b + 1 → ⊥
          dead i e = let f = (r.names.fits d next).found i b e in let c = found_covers w.history w.born w.died g.life d f.1 b f.5.0 (w.head f.1) f.5.1 in let q = placed (g.life b) f.0 f.1 f.3 in let l = (r.chains.dieds b q.0 q.1 q.2 p).2 in ⊎_elim (λ z. omega arith) (λ z. omega arith) c.2
