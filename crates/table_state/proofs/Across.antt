-- What the rule says across its parts.
use Rattle.std.proofs.Common.{◌≡◌, ℕ, zero, suc, ◌+◌, ◌<◌, ◌≤◌, cond, Bool, true, false, ◌⊎◌, refl, sym, ap, ◌∙◌, subst, inl, inr, ⊎_elim, arith, eq-eqb}
use mathlib.Core.Logic.{dite}
use native.Mathlib.Decide.{ℕ_discrete, dec_lt}
use Rattle.table_words.specs.Setup.{Setup}
use Rattle.table_words.specs.Sums.{sum_below, one_where}
use Rattle.table_words.specs.Words.{Words, node}
use Rattle.table_words.specs.Views.{Work, Views, Read, Worker, Reader, is_worker, is_reader, FirstHalf, SecondHalf, Kind, order}
use Rattle.table_words.specs.Claims.{Progress, Claimed, Failed, Drawn, Half, Whole, Living}
use Rattle.table_words.specs.Places.{member_of}
use Rattle.table_words.specs.Entries.{HasEntry}
use Rattle.table_words.proofs.Sums.{summand}
use Rattle.table_words.proofs.PlaceNumbers.{child_one, child_outside}
use Rattle.table_state.specs.Ghosts.{Held, Life, Placed, chained, Ghost}
use Rattle.table_state.specs.Chains.{Covers, IsPlace}
use Rattle.table_state.specs.Claims.{linked}
use Rattle.table_state.specs.Bisections.{IsPlaceOf, IsKept, MayRead}
use Rattle.table_state.specs.Rule.{Rule}
use Rattle.table_state.proofs.FoundAgain.{placed, found_covers}
use Rattle.table_state.proofs.Bisections.{one_place, two_names}
use Rattle.table_state.specs.Owner.{is_early}
use Rattle.table_state.proofs.Known.{early_one}
use Rattle.table_words.proofs.SeatKinds.{kind_discrete, phase_discrete, worker_is}
use Rattle.mesh_names.specs.Names.{digit}

-- a reader with a pin of the round, or, of the last finished round, a worker has gone to the block, which has not died by it
abbrev pub Went : ℕ → (ℕ → ℕ) → (ℕ → Kind) → (ℕ → Work) → (ℕ → Read) → ℕ → ℕ → Type 0
Went round died kind work read q b = (((j : ℕ) × ((read j).pin ≡ q + 1) × HasEntry (read j).went b) ⊎ ((j : ℕ) × (kind j ≡ Worker) × (q ≡ round) × HasEntry (work j).went b)) × ((died b ≡ 0) ⊎ (q < died b))

pub zero_or_more : (n : ℕ) → (n ≡ 0) ⊎ ((k : ℕ) × (n ≡ k + 1))
zero_or_more zero = inl refl
zero_or_more (suc n) = inr (n, omega arith)

abbrev pub is_living : Progress → Type 0
is_living Claimed = ⊥
is_living Failed = ⊥
is_living (Drawn b) = ⊥
is_living (Half b) = ⊥
is_living (Whole b) = ⊥
is_living (Living b) = Unit {0}

-- the places of a claim's members
abbrev pub Of : ℕ → ℕ → ℕ → Type 0
Of x m y = (y ≡ x) ⊎ (m ≡ y + 1)

pub chained_of : (l : Life) (t : Bool) (z m y : ℕ) → l ≡ Placed z m → chained l t ≡ y + 1 → Of z m y
chained_of l true z m y p c = inr (sym (ap (λ (k : Life). chained k true) p) ∙ c)
chained_of l false z m y p c = let e : z + 1 ≡ y + 1 = sym (ap (λ (k : Life). chained k false) p) ∙ c in inl (omega arith)

module _ (s : Setup) (w : Words) (n : ℕ) (v : Views) (g : Ghost) (r : Rule s w n v g) where
  abbrev d : ℕ
  d = w.round + 1

  pub low : (q : ℕ) → IsKept w.round v.read q → q ≤ w.round
  low q (inl e) = omega arith
  low q (inr t) = r.pins.past t.0 q t.1

  -- the current round of which a claim speaks: the first half, unless the claim has its living block
  pub some_worker : (j : ℕ) → v.kind j ≡ Worker → 0 < v.ruling.workers
  some_worker j k = elim (dec_lt j n) [
    | yes l ↦ let a = summand n (λ i. digit (is_worker (v.kind i))) j l in let b : digit (is_worker (v.kind j)) ≡ 1 = worker_is (v.kind j) k in let e = r.rules.workers in omega arith
    | no o ↦ let z = r.pins.few j (omega arith) in absurd (cc)
  ]

  pub half_of : (j : ℕ) → v.kind j ≡ Worker → (v.ruling.phase ≡ FirstHalf) ⊎ (v.ruling.phase ≡ SecondHalf)
  half_of j k = dite (phase_discrete v.ruling.phase FirstHalf) inl (λ a. dite (phase_discrete v.ruling.phase SecondHalf) inr (λ b. let z = r.rules.halves a b in let p = some_worker j k in absurd (omega arith)))

  pub first_half : (j x m : ℕ) (p : Progress) → v.kind j ≡ Worker → g.stage x ≡ Held j m p → (is_living p → ⊥) → v.ruling.phase ≡ FirstHalf
  first_half j x m p k h not = ⊎_elim (λ e. e) (λ e. let t = r.claims.living x j m p h e in absurd (not (subst is_living (sym t.1) tt))) (half_of j k)

  -- the two members of a block that bisects have two names
  pub two : (q : ℕ) → MayRead w.round v.ruling.phase v.read q → (b : ℕ) (t u : Bool) → g.who q (w.name (member_of b t)) ≡ b + 1 → w.name (member_of b t) ≡ w.name (member_of b u) → t ≡ u
  two q k b t u h e = let f = (r.names.fits q k).found (w.name (member_of b t)) b h in let p = placed (g.life b) f.0 f.1 f.3 in let a = r.names.patch b p.0 p.1 p.2 in by t u e
    where
      clash : w.name (member_of b false) ≡ w.name (member_of b true) → ⊥
      clash e = let f = (r.names.fits q k).found (w.name (member_of b t)) b h in let p = placed (g.life b) f.0 f.1 f.3 in let a = r.names.patch b p.0 p.1 p.2 in
          ⊎_elim (λ z. r.names_apart.leads_some (ap s.leads (sym z ∙ sym e) ∙ a.0)) (λ z. two_names s r.names_apart w.name b p.1 a z.0 z.1 e) (zero_or_more (w.name (member_of b true)))

      by : (t u : Bool) → w.name (member_of b t) ≡ w.name (member_of b u) → t ≡ u
      by true true e = refl
      by false false e = refl
      by true false e = absurd (clash (sym e))
      by false true e = absurd (clash e)

  pub place_one : (q : ℕ) → MayRead w.round v.ruling.phase v.read q → (x y k : ℕ) → IsPlaceOf s w.name (g.who q) x k → IsPlaceOf s w.name (g.who q) y k → x ≡ y
  place_one q k x y i a b = one_place s r.names_apart w.name (g.who q) (two q k) x y i a b

  -- a place has one name
  pub name_one : (q x k i : ℕ) → IsPlaceOf s w.name (g.who q) x k → IsPlaceOf s w.name (g.who q) x i → k ≡ i
  name_one q x k i (inl a) (inl b) = a.1 ∙ sym b.1
  name_one q x k i (inl a) (inr b) = absurd (child_outside s.elements b.0 b.1 b.2 (subst (λ (y : ℕ). y < s.elements) b.3 a.0))
  name_one q x k i (inr a) (inl b) = absurd (child_outside s.elements a.0 a.1 a.2 (subst (λ (y : ℕ). y < s.elements) a.3 b.0))
  name_one q x k i (inr a) (inr b) = let e = child_one s.elements a.0 b.0 a.1 a.2 b.1 b.2 (sym a.3 ∙ b.3) in a.5 ∙ ap (λ (y : ℕ × Bool × Bool). s.child (w.name (member_of y.0 y.1)) y.2) (λ t. (e.0 t, e.1 t, e.2 t)) ∙ sym b.5

  -- in the first half, a name that the last round has not, at whose place no claim lives, is not bisected
  pub unmet : v.ruling.phase ≡ FirstHalf → (y k : ℕ) → IsPlaceOf s w.name (g.who d) y k → g.who w.round k ≡ 0 → ((z i m a : ℕ) → g.stage z ≡ Held i m (Living a) → Of z m y → ⊥) → g.who d k ≡ 0
  unmet one y k seen old none = ⊎_elim (λ z. z) (λ t. absurd (not t.0 t.1)) (zero_or_more (g.who d k))
    where
      now : MayRead w.round v.ruling.phase v.read d
      now = inr (refl, omega (arith, ap order one))

      not : (a : ℕ) → g.who d k ≡ a + 1 → ⊥
      not a e = let f = (r.names.fits d now).found k a e in let same : f.1 ≡ y = place_one d now f.1 y k f.4 seen in let c = found_covers w.history w.born w.died g.life d f.1 a f.5.0 (w.head f.1) f.5.1 in let p = placed (g.life a) f.0 f.1 f.3 in
          let of : Of p.0 p.1 y = subst (Of p.0 p.1) same (chained_of (g.life a) f.0 p.0 p.1 f.1 p.2 f.3) in
          dite (ℕ_discrete (w.born a) d)
          (λ b. let t = r.claims.kept a p.0 p.1 p.2 b (λ z. cc) in none p.0 t.0 p.1 a t.1 of)
          (λ b. let c0 = c.0 in let c1 = c.1 in let cf : Covers w.born w.died w.round a = (c.0, omega arith, ⊎_elim inl (λ l. inr (omega arith)) c.2) in
          let t = r.names.sound w.round (inl (inl refl)) a f.0 f.1 f.3 cf in let z : g.who w.round k ≡ a + 1 = ap (g.who w.round) (sym f.2) ∙ t.0 in omega arith)

  -- at a claim's places that are not linked, the head names nothing or a block of an earlier round that was retired in one
  pub settled : v.ruling.phase ≡ FirstHalf → (y k : ℕ) → IsPlaceOf s w.name (g.who d) y k → g.who d k ≡ 0 → ((z i m : ℕ) (p : Progress) → g.stage z ≡ Held i m p → Of z m y → (a : ℕ) → linked p ≡ a + 1 → ⊥) → IsPlace s.elements g.life y
      → (w.head y ≡ node 0 0) ⊎ (0 < (w.head y).died) × ((w.head y).died ≤ w.round)
  settled one y k seen zero_ none live = ⊎_elim inl (λ o. named o.0 o.1 o.3 o.4 o.5) (r.chains.heads y live)
    where
      named : (a : ℕ) (t : Bool) → chained (g.life a) t ≡ y + 1 → (0 < (w.head y).died → (w.head y).died ≡ w.died a) → ((w.head y).died ≡ 0 → (w.died a ≡ 0) ⊎ (w.died a ≡ d)) → (w.head y ≡ node 0 0) ⊎ (0 < (w.head y).died) × ((w.head y).died ≤ w.round)
      named a t c pos none_ = let p = placed (g.life a) t y c in let calm = r.names.calm a p.0 p.1 ((λ z. cc), λ z. cc) p.2 in elim (dec_lt 0 (w.head y).died) [
        | yes l ↦ let e = pos l in inr (l, omega arith)
        | no o ↦ absurd (living a t c p.0 p.1 p.2 (⊎_elim (λ z. z) (λ z. absurd (omega arith)) (none_ (omega arith))))
      ]
        where
          living : (a : ℕ) (t : Bool) → chained (g.life a) t ≡ y + 1 → (z m : ℕ) → g.life a ≡ Placed z m → w.died a ≡ 0 → ⊥
          living a t c z m p dead = let of = chained_of (g.life a) t z m y p c in ⊎_elim
              (λ b. let h = r.claims.half a z m p b in ⊎_elim (λ e. none z h.0 m (Half a) e of a refl) (λ e. none z h.0 m (Whole a) e of a refl) h.1)
              (λ b. let e = b.1 in let l = r.chains.borns a in let u = r.names.sound d (inr (refl, omega (arith, ap order one))) a t y c (omega arith, omega arith, inl dead) in
              let same = name_one d y (w.name (member_of a t)) k u.1 seen in let x : g.who d k ≡ a + 1 = ap (g.who d) (sym same) ∙ u.0 in omega arith)
              (zero_or_more (w.born a))

  -- of a round that the owner knows as clear no seat has a pin
  -- where no pass is out that was made before the last finished round was, each pin is of that round
  pub no_early : v.ruling.early ≡ 0 → (j q : ℕ) → (v.read j).pin ≡ q + 1 → q ≡ w.round
  no_early e j q p = let past = r.pins.past j q p in let made = (r.history.made j).1 q p in elim (dec_lt (v.read j).made w.round) [
    | yes l ↦ absurd (elim (dec_lt j n) [
      | yes i ↦ (let one = early_one w.round (v.kind j) (v.read j) is_reader l in let m = summand n (λ i. is_early w.round (v.kind i) (v.read i)) j i in let a = r.early in omega arith)
      | no o ↦ let k = r.pins.few j (omega arith) in let z = is_reader in cc
    ])
    | no o ↦ omega arith
  ]
    where
      is_reader : v.kind j ≡ Reader
      is_reader = dite (kind_discrete (v.kind j) Reader) (λ e. e) (λ o. let z = (r.pins.readers j o).0 in absurd (omega arith))

  pub no_pin : (q : ℕ) → HasEntry v.ruling.drained q → (j : ℕ) → (v.read j).pin ≡ q + 1 → ⊥
  no_pin q h j e = let c = r.rules.drained q h in let a = r.pins.count q in let b = c.1 in let z : sum_below n (λ i. one_where (v.read i).pin (q + 1)) ≡ 0 = omega arith in elim (dec_lt j n) [
    | yes l ↦ let o : one_where (v.read j).pin (q + 1) ≡ 1 = ap (λ (t : Bool). cond {A = ℕ} t 1 0) (eq-eqb (v.read j).pin (q + 1) e) in let m = summand n (λ i. one_where (v.read i).pin (q + 1)) j l in omega arith
    | no o ↦ let k = r.pins.few j (omega arith) in let p = (r.pins.readers j (λ (t : v.kind j ≡ Reader). absurd (cc))).0 in omega arith
  ]
