-- Claims, as one begins, goes on, ends or is handed over.
use Rattle.std.proofs.Common.{◌≡◌, ◌≢◌, ℕ, ◌+◌, ◌<◌, cond, List, [], ◌∷◌, ◌⊎◌, refl, sym, ap, ◌∙◌, subst, inl, inr, ⊎_elim, arith, eq-eqb, ne_eqb}
use mathlib.Core.Logic.{dite}
use native.Mathlib.Decide.{ℕ_discrete, dec_lt}
use Rattle.table_words.specs.Setup.{Setup, places}
use Rattle.table_words.specs.Functions.{update}
use Rattle.table_words.specs.Words.{Node}
use Rattle.table_words.specs.Claims.{Progress, Claimed, Failed, Drawn, Half, Whole, Living, Claim, claim, moved_on, ended}
use Rattle.table_words.specs.Entries.{HasEntry}
use Rattle.table_words.proofs.Functions.{update_at, update_other, update_cases}
use Rattle.table_words.proofs.Sums.{sum_same}
use Rattle.table_state.specs.Ghosts.{Stage, Open, Held, Life, Free, Loose, Placed}
use Rattle.table_state.specs.Claims.{bit_of, draws, draws_of, Shape, ClaimsRule}
use Rattle.table_words.specs.Views.{Phase, SecondHalf, Closing, Precedes, order}

pub moved_on_has : (cs : List Claim) (x : ℕ) (p : Progress) (i m : ℕ) (q : Progress) → HasEntry (moved_on cs x p) (claim i m q) → ((i ≡ x) × (q ≡ p) × ((r : Progress) × HasEntry cs (claim x m r))) ⊎ ((i ≢ x) × HasEntry cs (claim i m q))
moved_on_has [] x p i m q h = absurd h
moved_on_has (c ∷ cs) x p i m q h = ⊎_elim
    (λ e. dite (ℕ_discrete c.place x)
    (λ is. let f : claim i m q ≡ claim x c.mate p = e ∙ ap (λ b. cond b (claim x c.mate p) c) (eq-eqb c.place x is) in
    inl (ap (λ (y : Claim). y.place) f, ap (λ (y : Claim). y.progress) f, (c.progress, inl (let k : m ≡ c.mate = ap (λ (y : Claim). y.mate) f in λ i. claim (sym is i) (k i) c.progress))))
    (λ ne. let f : claim i m q ≡ c = e ∙ ap (λ b. cond b (claim x c.mate p) c) (ne_eqb c.place x ne) in inr ((λ (k : i ≡ x). ne (sym (ap (λ (y : Claim). y.place) f) ∙ k)), inl f)))
    (λ t. ⊎_elim (λ u. inl (u.0, u.1, (u.2.0, inr u.2.1))) (λ u. inr (u.0, inr u.1)) (moved_on_has cs x p i m q t)) h

pub moved_on_keeps : (cs : List Claim) (x : ℕ) (p : Progress) (i m : ℕ) (q : Progress) → i ≢ x → HasEntry cs (claim i m q) → HasEntry (moved_on cs x p) (claim i m q)
moved_on_keeps [] x p i m q ne h = absurd h
moved_on_keeps (c ∷ cs) x p i m q ne h = ⊎_elim
    (λ e. let n : c.place ≢ x = λ k. ne (ap (λ (y : Claim). y.place) e ∙ k) in inl (e ∙ sym (ap (λ b. cond b (claim x c.mate p) c) (ne_eqb c.place x n))))
    (λ t. inr (moved_on_keeps cs x p i m q ne t)) h

pub moved_on_here : (cs : List Claim) (x m : ℕ) (p q : Progress) → HasEntry cs (claim x m q) → HasEntry (moved_on cs x p) (claim x m p)
moved_on_here [] x m p q h = absurd h
moved_on_here (c ∷ cs) x m p q h = ⊎_elim
    (λ e. let k : m ≡ c.mate = ap (λ (y : Claim). y.mate) e in inl ((λ i. claim x (k i) p) ∙ sym (ap (λ b. cond b (claim x c.mate p) c) (eq-eqb c.place x (sym (ap (λ (y : Claim). y.place) e))))))
    (λ t. inr (moved_on_here cs x m p q t)) h

pub ended_has : (cs : List Claim) (x i m : ℕ) (q : Progress) → HasEntry (ended cs x) (claim i m q) → (i ≢ x) × HasEntry cs (claim i m q)
ended_has [] x i m q h = absurd h
ended_has (c ∷ cs) x i m q h = dite (ℕ_discrete c.place x)
    (λ is. let t = ended_has cs x i m q (subst (λ (l : List Claim). HasEntry l (claim i m q)) (ap (λ b. cond b (ended cs x) (c ∷ ended cs x)) (eq-eqb c.place x is)) h) in (t.0, inr t.1))
    (λ ne. ⊎_elim (λ e. ((λ (k : i ≡ x). ne (sym (ap (λ (y : Claim). y.place) e) ∙ k)), inl e)) (λ u. let t = ended_has cs x i m q u in (t.0, inr t.1)) (subst (λ (l : List Claim). HasEntry l (claim i m q)) (ap (λ b. cond b (ended cs x) (c ∷ ended cs x)) (ne_eqb c.place x ne)) h))

pub ended_keeps : (cs : List Claim) (x i m : ℕ) (q : Progress) → i ≢ x → HasEntry cs (claim i m q) → HasEntry (ended cs x) (claim i m q)
ended_keeps [] x i m q ne h = absurd h
ended_keeps (c ∷ cs) x i m q ne h = dite (ℕ_discrete c.place x)
    (λ is. subst (λ (l : List Claim). HasEntry l (claim i m q)) (sym (ap (λ b. cond b (ended cs x) (c ∷ ended cs x)) (eq-eqb c.place x is)))
    (⊎_elim (λ e. absurd (ne (ap (λ (y : Claim). y.place) e ∙ is))) (λ u. ended_keeps cs x i m q ne u) h))
    (λ n. subst (λ (l : List Claim). HasEntry l (claim i m q)) (sym (ap (λ b. cond b (ended cs x) (c ∷ ended cs x)) (ne_eqb c.place x n)))
    (⊎_elim (λ e. inl e) (λ u. inr (ended_keeps cs x i m q ne u)) h))

abbrev holder_of : Stage → ℕ
holder_of Open = 0
holder_of (Held j m p) = j

abbrev mate_of : Stage → ℕ
mate_of Open = 0
mate_of (Held j m p) = m

abbrev progress_of : Progress → Stage → Progress
progress_of d Open = d
progress_of d (Held j m p) = p

abbrev is_held : Stage → Type 0
is_held Open = ⊥
is_held (Held j m p) = Unit {0}

pub not_open : (j m : ℕ) (p : Progress) → Held j m p ≡ Open → ⊥
not_open j m p e = subst is_held e tt

pub held_one : (i j m k : ℕ) (p q : Progress) → Held i m p ≡ Held j k q → (i ≡ j) × (m ≡ k) × (p ≡ q)
held_one i j m k p q e = (ap holder_of e, ap mate_of e, ap (progress_of p) e)

-- one more than the block that the claim has drawn
abbrev pub uses : Progress → ℕ
uses Claimed = 0
uses Failed = 0
uses (Drawn b) = b + 1
uses (Half b) = b + 1
uses (Whole b) = b + 1
uses (Living b) = b + 1

module _ (round : ℕ) (head : ℕ → Node) (born : ℕ → ℕ) (life : ℕ → Life) (z m : ℕ) where
  pub used_life : (p : Progress) (b : ℕ) → Shape round head born life z m p → uses p ≡ b + 1 → (life b ≡ Loose (z + 1)) ⊎ (life b ≡ Placed z m)
  used_life Claimed b h e = absurd (omega arith)
  used_life Failed b h e = absurd (omega arith)
  used_life (Drawn c) b h e = let s : c ≡ b = omega arith in inl (subst (λ (y : ℕ). life y ≡ Loose (z + 1)) s h.0)
  used_life (Half c) b h e = let s : c ≡ b = omega arith in inr (subst (λ (y : ℕ). life y ≡ Placed z m) s h.0)
  used_life (Whole c) b h e = let s : c ≡ b = omega arith in inr (subst (λ (y : ℕ). life y ≡ Placed z m) s h.0)
  used_life (Living c) b h e = let s : c ≡ b = omega arith in inr (subst (λ (y : ℕ). life y ≡ Placed z m) s h.0)

  -- a claim whose words stay
  pub shape_on : (head' : ℕ → Node) (born' : ℕ → ℕ) (life' : ℕ → Life) (p : Progress) → ((b : ℕ) → uses p ≡ b + 1 → (life' b ≡ life b) × (born' b ≡ born b)) → head' z ≡ head z → ((y : ℕ) → m ≡ y + 1 → head' y ≡ head y) → Shape round head born life z m p → Shape round head' born' life' z m p
  shape_on head' born' life' Claimed used h1 h2 h = tt
  shape_on head' born' life' Failed used h1 h2 h = tt
  shape_on head' born' life' (Drawn b) used h1 h2 h = let u = used b refl in (u.0 ∙ h.0, u.1 ∙ h.1)
  shape_on head' born' life' (Half b) used h1 h2 h = let u = used b refl in (u.0 ∙ h.0, u.1 ∙ h.1, h1 ∙ h.2, λ y e n. h.3 y e (sym (ap (λ (k : Node). k.block) (h2 y e)) ∙ n))
  shape_on head' born' life' (Whole b) used h1 h2 h = let u = used b refl in (u.0 ∙ h.0, u.1 ∙ h.1, h1 ∙ h.2, λ y e. h2 y e ∙ h.3 y e)
  shape_on head' born' life' (Living b) used h1 h2 h = let u = used b refl in (u.0 ∙ h.0, u.1 ∙ h.1, h1 ∙ h.2, λ y e. h2 y e ∙ h.3 y e)

pub loose_one : (u v : ℕ) → Loose u ≡ Loose v → u ≡ v
loose_one u v e = cc

pub placed_one : (x m y k : ℕ) → Placed x m ≡ Placed y k → (x ≡ y) × (m ≡ k)
placed_one x m y k e = (cc, cc)

pub loose_not : (u x m : ℕ) → Loose u ≡ Placed x m → ⊥
loose_not u x m e = cc

pub free_not : (x m : ℕ) → Free ≡ Placed x m → ⊥
free_not x m e = cc

pub free_loose : (u : ℕ) → Free ≡ Loose u → ⊥
free_loose u e = cc

module _ (s : Setup) (round cursor free : ℕ) (phase : Phase) (row claimed : ℕ → ℕ) (head : ℕ → Node) (born : ℕ → ℕ) (life : ℕ → Life) (stage : ℕ → Stage) (claims : ℕ → List Claim) (c : ClaimsRule s round cursor free phase row claimed head born life stage claims) where
  -- two claims with one block are one
  pub one_user : (x z j i m k b : ℕ) (p q : Progress) → stage x ≡ Held j m p → stage z ≡ Held i k q → uses p ≡ b + 1 → uses q ≡ b + 1 → x ≡ z
  one_user x z j i m k b p q hx hz up uq = ⊎_elim
      (λ a. ⊎_elim (λ d. let e = loose_one (x + 1) (z + 1) (sym a ∙ d) in omega arith) (λ d. absurd (loose_not (x + 1) z k (sym a ∙ d))) (used_life round head born life z k q b (c.shape z i k q hz) uq))
      (λ a. ⊎_elim (λ d. absurd (loose_not (z + 1) x m (sym d ∙ a))) (λ d. (placed_one x m z k (sym a ∙ d)).0) (used_life round head born life z k q b (c.shape z i k q hz) uq))
      (used_life round head born life x m p b (c.shape x j m p hx) up)

  pub place_of : (x j m : ℕ) (p : Progress) → stage x ≡ Held j m p → x < places s
  place_of x j m p h = elim (dec_lt x (places s)) [ yes l ↦ l | no n ↦ absurd (not_open j m p (sym h ∙ c.inside x (omega arith))) ]

  -- the heads of a claim are not those of another
  pub heads_apart : (x z j i m k : ℕ) (p q : Progress) → stage x ≡ Held j m p → stage z ≡ Held i k q → z ≢ x → (y : ℕ) → ((y ≡ x) ⊎ (m ≡ y + 1)) → (y ≢ z) × ((w : ℕ) → k ≡ w + 1 → w ≢ y)
  heads_apart x z j i m k p q hx hz ne y (inl e) = ((λ (f : y ≡ z). ne (sym f ∙ e)), λ w g (f : w ≡ y). let v : stage z ≡ Held i (x + 1) q = hz ∙ ap (λ (n : ℕ). Held i n q) (g ∙ ap (λ (n : ℕ). n + 1) (f ∙ e)) in not_open j m p (sym hx ∙ (c.mates z i x q v).0))
  heads_apart x z j i m k p q hx hz ne y (inr e) = let v : stage x ≡ Held j (y + 1) p = hx ∙ ap (λ (n : ℕ). Held j n p) e in let t = c.mates x j y p v in (
    (λ (f : y ≡ z). not_open i k q (sym hz ∙ ap stage (sym f) ∙ t.0)),
    λ w g (f : w ≡ y). ne (t.1 z i q (hz ∙ ap (λ (n : ℕ). Held i n q) (g ∙ ap (λ (n : ℕ). n + 1) f))),
  )

  module _ (x j m : ℕ) (p q : Progress) (is : stage x ≡ Held j m p) where
    abbrev stage' : ℕ → Stage
    stage' = update stage x (Held j m q)

    -- another claim, or this one
    back : (z i k : ℕ) (r : Progress) → stage' z ≡ Held i k r → ((z ≡ x) × (i ≡ j) × (k ≡ m) × (r ≡ q)) ⊎ ((z ≢ x) × (stage z ≡ Held i k r))
    back z i k r h = dite (ℕ_discrete z x) (λ e. let t = held_one j i m k q r (sym (update_at stage x z (Held j m q) e) ∙ h) in inl (e, sym t.0, sym t.1, sym t.2)) (λ n. inr (n, sym (update_other stage x z (Held j m q) n) ∙ h))

    -- the claim goes on
    pub goes : draws q ≡ draws p → (phase ≡ SecondHalf → (b : ℕ) × (q ≡ Living b)) → (head' : ℕ → Node) (born' : ℕ → ℕ) (life' : ℕ → Life) → Shape round head' born' life' x m q
        → ((z i k : ℕ) (r : Progress) → stage z ≡ Held i k r → z ≢ x → Shape round head born life z k r → Shape round head' born' life' z k r)
        → ((b y k : ℕ) → life' b ≡ Placed y k → born' b ≡ round + 1 → (phase ≡ Closing → ⊥) → ((y ≡ x) × (k ≡ m) × (q ≡ Living b)) ⊎ ((life b ≡ Placed y k) × (born b ≡ round + 1) × (uses p ≡ b + 1 → ⊥)))
        → ((b y k : ℕ) → life' b ≡ Placed y k → born' b ≡ 0 → ((y ≡ x) × (k ≡ m) × ((q ≡ Half b) ⊎ (q ≡ Whole b))) ⊎ ((life b ≡ Placed y k) × (born b ≡ 0) × (uses p ≡ b + 1 → ⊥)))
        → ((b : ℕ) → life b ≡ Free → born b ≡ 0 → (life' b ≡ Free) × (born' b ≡ 0))
        → ClaimsRule s round cursor free phase row claimed head' born' life' stage' (update claims j (moved_on (claims j) x q))
    goes drawn two head' born' life' new other kept half free_on = record {
      held = update_cases (λ i cs. (z k : ℕ) (r : Progress) → HasEntry cs (claim z k r) → stage' z ≡ Held i k r) claims j (moved_on (claims j) x q)
          (λ z k r h. ⊎_elim (λ t. let u = held_one j j m k p t.2.0 (sym is ∙ c.held j x k t.2.0 t.2.1) in update_at stage x z (Held j m q) t.0 ∙ (λ i. Held j (u.1 i) (sym t.1 i))) (λ t. update_other stage x z (Held j m q) t.0 ∙ c.held j z k r t.1) (moved_on_has (claims j) x q z k r h))
          (λ i ne z k r h. update_other stage x z (Held j m q) (λ (e : z ≡ x). ne (held_one i j k m r p (sym (c.held i z k r h) ∙ ap stage e ∙ is)).0) ∙ c.held i z k r h);
      holds = update_cases (λ i cs. (z k : ℕ) (r : Progress) → stage' z ≡ Held i k r → HasEntry cs (claim z k r)) claims j (moved_on (claims j) x q)
          (λ z k r h. ⊎_elim (λ t. subst (λ (y : ℕ × ℕ × Progress). HasEntry (moved_on (claims j) x q) (claim y.0 y.1 y.2)) (λ i. (sym t.0 i, sym t.2 i, sym t.3 i)) (moved_on_here (claims j) x m q p (c.holds j x m p is))) (λ t. moved_on_keeps (claims j) x q z k r t.0 (c.holds j z k r t.1)) (back z j k r h))
          (λ i ne z k r h. ⊎_elim (λ t. absurd (ne t.1)) (λ t. c.holds i z k r t.1) (back z i k r h));
      bits = λ z. dite (ℕ_discrete z x) (λ e. ap claimed e ∙ c.bits x ∙ ap bit_of is ∙ sym (ap bit_of (update_at stage x z (Held j m q) e))) (λ n. c.bits z ∙ sym (ap bit_of (update_other stage x z (Held j m q) n)));
      inside = λ z l. let k = place_of x j m p is in update_other stage x z (Held j m q) (λ (e : z ≡ x). omega arith) ∙ c.inside z l;
      mates = λ z i y r h. ⊎_elim (λ t. mate_on z y t.0 (t.2)) (λ t. mate_other z i y r t.0 t.1) (back z i (y + 1) r h);
      shape = λ z i k r h. ⊎_elim (λ t. subst (λ (y : ℕ × ℕ × Progress). Shape round head' born' life' y.0 y.1 y.2) (λ i. (sym t.0 i, sym t.2 i, sym t.3 i)) new) (λ t. other z i k r t.1 t.0 (c.shape z i k r t.1)) (back z i k r h);
      kept = λ b y k u e l. ⊎_elim (λ t. (j, update_at stage x y (Held j m q) t.0 ∙ (λ i. Held j (sym t.1 i) (t.2 i)))) (λ t. let w = c.kept b y k t.0 t.1 l in (w.0, update_other stage x y (Held j m q) (λ (f : y ≡ x). t.2 (ap uses (held_one j w.0 m k p (Living b) (sym is ∙ ap stage (sym f) ∙ w.1)).2)) ∙ w.1)) (kept b y k u e l);
      half = λ b y k u e. ⊎_elim (λ t. (j, ⊎_elim (λ f. inl (update_at stage x y (Held j m q) t.0 ∙ (λ i. Held j (sym t.1 i) (f i)))) (λ f. inr (update_at stage x y (Held j m q) t.0 ∙ (λ i. Held j (sym t.1 i) (f i)))) t.2))
          (λ t. let w = c.half b y k t.0 t.1 in (w.0, ⊎_elim (λ f. inl (update_other stage x y (Held j m q) (λ (g : y ≡ x). t.2 (ap uses (held_one j w.0 m k p (Half b) (sym is ∙ ap stage (sym g) ∙ f)).2)) ∙ f)) (λ f. inr (update_other stage x y (Held j m q) (λ (g : y ≡ x). t.2 (ap uses (held_one j w.0 m k p (Whole b) (sym is ∙ ap stage (sym g) ∙ f)).2)) ∙ f)) w.1)) (half b y k u e);
      rows = λ i a l. let t = c.rows i a l in free_on (row i) t.0 t.1;
      apart = c.apart;
      drawn = λ e. c.drawn e ∙ sym (sum_same (places s) (λ z. draws_of (stage z)) (λ z. draws_of (stage' z)) (λ z _. dite (ℕ_discrete z x) (λ f. ap draws_of (update_at stage x z (Held j m q) f) ∙ drawn ∙ sym (ap draws_of (ap stage f ∙ is))) (λ n. ap draws_of (update_other stage x z (Held j m q) n))));
      living = λ z i k r h e. ⊎_elim (λ t. let w = two e in (w.0, t.3 ∙ w.1)) (λ t. c.living z i k r t.1 e) (back z i k r h);
      none = λ z e. absurd (not_open j m p (sym is ∙ c.none x e));
    }
      where
        to_open : (y : ℕ) → y ≢ x → stage y ≡ Open → stage' y ≡ Open
        to_open y n e = update_other stage x y (Held j m q) n ∙ e

        mate_on : (z y : ℕ) → z ≡ x → y + 1 ≡ m → (stage' y ≡ Open) × ((w i : ℕ) (r : Progress) → stage' w ≡ Held i (y + 1) r → w ≡ z)
        mate_on z y e f = let t = c.mates x j y p (is ∙ ap (λ (n : ℕ). Held j n p) (sym f)) in (
          to_open y (λ (g : y ≡ x). not_open j m p (sym is ∙ ap stage (sym g) ∙ t.0)) t.0,
          λ w i r h. ⊎_elim (λ u. u.0 ∙ sym e) (λ u. t.1 w i r u.1 ∙ sym e) (back w i (y + 1) r h),
        )

        mate_other : (z i y : ℕ) (r : Progress) → z ≢ x → stage z ≡ Held i (y + 1) r → (stage' y ≡ Open) × ((w i : ℕ) (r : Progress) → stage' w ≡ Held i (y + 1) r → w ≡ z)
        mate_other z i y r n h = let t = c.mates z i y r h in (
          to_open y (λ (g : y ≡ x). not_open j m p (sym is ∙ ap stage (sym g) ∙ t.0)) t.0,
          λ w a b u. ⊎_elim (λ v. absurd (n (sym (t.1 x j p (is ∙ ap (λ (k : ℕ). Held j k p) (sym v.2)))))) (λ v. t.1 w a b v.1) (back w a (y + 1) b u),
        )

    -- the claim ends
    pub ends : (Precedes phase Closing → ⊥) → (head' : ℕ → Node) (born' : ℕ → ℕ) (life' : ℕ → Life)
        → ((z i k : ℕ) (r : Progress) → stage z ≡ Held i k r → z ≢ x → Shape round head born life z k r → Shape round head' born' life' z k r)
        → ((b y k : ℕ) → life' b ≡ Placed y k → born' b ≡ round + 1 → (phase ≡ Closing → ⊥) → (life b ≡ Placed y k) × (born b ≡ round + 1) × (p ≡ Living b → ⊥))
        → ((b y k : ℕ) → life' b ≡ Placed y k → born' b ≡ 0 → (life b ≡ Placed y k) × (born b ≡ 0) × (uses p ≡ b + 1 → ⊥))
        → ((b : ℕ) → life b ≡ Free → born b ≡ 0 → (life' b ≡ Free) × (born' b ≡ 0))
        → ClaimsRule s round cursor free phase row (update claimed x 0) head' born' life' (update stage x Open) (update claims j (ended (claims j) x))
    ends late head' born' life' other keep half free_on = let s' : ℕ → Stage = update stage x Open in
        let old : (z i k : ℕ) (r : Progress) → s' z ≡ Held i k r → (z ≢ x) × (stage z ≡ Held i k r) = λ z i k r h. dite (ℕ_discrete z x) (λ e. absurd (not_open i k r (sym h ∙ update_at stage x z Open e))) (λ n. (n, sym (update_other stage x z Open n) ∙ h)) in
        let to_open : (y : ℕ) → stage y ≡ Open → s' y ≡ Open = λ y e. dite (ℕ_discrete y x) (λ f. update_at stage x y Open f) (λ f. update_other stage x y Open f ∙ e) in
        record {
          held = update_cases (λ i cs. (z k : ℕ) (r : Progress) → HasEntry cs (claim z k r) → s' z ≡ Held i k r) claims j (ended (claims j) x)
              (λ z k r h. let t = ended_has (claims j) x z k r h in update_other stage x z Open t.0 ∙ c.held j z k r t.1)
              (λ i ne z k r h. update_other stage x z Open (λ (e : z ≡ x). ne (held_one i j k m r p (sym (c.held i z k r h) ∙ ap stage e ∙ is)).0) ∙ c.held i z k r h);
          holds = update_cases (λ i cs. (z k : ℕ) (r : Progress) → s' z ≡ Held i k r → HasEntry cs (claim z k r)) claims j (ended (claims j) x)
              (λ z k r h. let t = old z j k r h in ended_keeps (claims j) x z k r t.0 (c.holds j z k r t.1))
              (λ i ne z k r h. c.holds i z k r (old z i k r h).1);
          bits = λ z. dite (ℕ_discrete z x) (λ e. update_at claimed x z 0 e ∙ sym (ap bit_of (update_at stage x z Open e))) (λ n. update_other claimed x z 0 n ∙ c.bits z ∙ sym (ap bit_of (update_other stage x z Open n)));
          inside = λ z l. to_open z (c.inside z l);
          mates = λ z i y r h. let t = c.mates z i y r (old z i (y + 1) r h).1 in (to_open y t.0, λ a b u k. t.1 a b u (old a b (y + 1) u k).1);
          shape = λ z i k r h. let t = old z i k r h in other z i k r t.1 t.0 (c.shape z i k r t.1);
          kept = λ b y k u e l. let t = keep b y k u e l in let a = c.kept b y k t.0 t.1 l in (a.0, update_other stage x y Open (λ (h : y ≡ x). t.2 (held_one j a.0 m k p (Living b) (sym is ∙ ap stage (sym h) ∙ a.1)).2) ∙ a.1);
          half = λ b y k u e. let t = half b y k u e in let a = c.half b y k t.0 t.1 in (
            a.0,
            ⊎_elim
                (λ f. inl (update_other stage x y Open (λ (h : y ≡ x). t.2 (ap uses (held_one j a.0 m k p (Half b) (sym is ∙ ap stage (sym h) ∙ f)).2)) ∙ f))
                (λ f. inr (update_other stage x y Open (λ (h : y ≡ x). t.2 (ap uses (held_one j a.0 m k p (Whole b) (sym is ∙ ap stage (sym h) ∙ f)).2)) ∙ f)) a.1,
          );
          rows = λ i a l. let t = c.rows i a l in free_on (row i) t.0 t.1;
          apart = c.apart;
          drawn = λ e. absurd (late (omega (arith, ap order e)));
          living = λ z i k r h e. absurd (late (omega (arith, ap order e)));
          none = λ z e. absurd (late (omega (arith, ap order e)));
        }
