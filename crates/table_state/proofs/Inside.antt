-- What is named stays in the table, a member stands under the name of its place, and a claim is listed once.
use Rattle.std.proofs.Common.{◌≡◌, ◌≢◌, ℕ, zero, suc, ◌+◌, ◌<◌, ◌≤◌, cond, ◌==◌, Bool, true, false, List, [], ◌∷◌, ◌++◌, ◌⊎◌, refl, sym, ap, ◌∙◌, subst, inl, inr, ⊎_elim, arith, eq-eqb, ne_eqb}
use mathlib.Core.Logic.{dite}
use native.Mathlib.Decide.{ℕ_discrete, dec_lt}
use Rattle.table_words.specs.Setup.{Setup, places}
use Rattle.table_words.specs.Functions.{update}
use Rattle.table_words.specs.Words.{Node, Words}
use Rattle.table_words.specs.Views.{Views}
use Rattle.table_words.specs.Claims.{Progress, Claim, claim, moved_on, ended}
use Rattle.table_words.specs.Places.{member_of, child_place}
use Rattle.table_words.specs.Entries.{HasEntry}
use Rattle.table_words.proofs.Functions.{update_at, update_cases, update_other}
use Rattle.table_words.proofs.Entries.{entry_of_both}
use Rattle.table_words.proofs.PlaceNumbers.{member_one, child_one, child_outside}
use Rattle.table_state.specs.Ghosts.{chained, Stage, Open, Held, Life, Free, RolledBack, stands, Ghost}
use Rattle.table_state.specs.Chains.{IsPlace}
use Rattle.table_state.specs.Bisections.{IsPlaceOf, IsPatch, MayRead}
use Rattle.table_state.specs.Inside.{InsideRule, IsLabel, LabelRule, ListedOnce}
use Rattle.table_state.specs.Rule.{Rule}
use Rattle.table_state.proofs.FoundAgain.{chained_stands, standing}
use Rattle.table_state.proofs.HeldClaims.{not_open, held_one, moved_on_has, ended_has}
use Rattle.table_state.proofs.Across.{two}

-- a block that is not free is below the pool
pub below_pool : (s : Setup) (free : ℕ) (row : ℕ → ℕ) (life : ℕ → Life) (stage : ℕ → Stage) (hand retired : List ℕ) → InsideRule s free row life stage hand retired → (b : ℕ) → (life b ≡ Free → ⊥) → b < s.pool
below_pool s free row life stage hand retired r b not = elim (dec_lt b s.pool) [ yes l ↦ l | no o ↦ absurd (not (r.blocks b (omega arith))) ]

pub not_free : (l : Life) (t : Bool) (x : ℕ) → stands l t ≡ x + 1 → l ≡ Free → ⊥
not_free l t x st e = let z : 0 ≡ x + 1 = sym (ap (λ (i : Life). stands i t) e) ∙ st in omega arith

-- the children of a block of the pool have places of the table
pub child_below : (s : Setup) (b : ℕ) (t c : Bool) → b < s.pool → child_place s.elements b t c < places s
child_below s b true true l = omega arith
child_below s b true false l = omega arith
child_below s b false true l = omega arith
child_below s b false false l = omega arith

-- where a name stands is a place of the table
pub label_below : (s : Setup) (name : ℕ → ℕ) (free : ℕ) (row : ℕ → ℕ) (life : ℕ → Life) (stage : ℕ → Stage) (hand retired : List ℕ) → InsideRule s free row life stage hand retired → (x k : ℕ) → IsLabel s name life x k → x < places s
label_below s name free row life stage hand retired r x k (inl t) = let t0 = t.0 in omega arith
label_below s name free row life stage hand retired r x k (inr t) = subst (λ (y : ℕ). y < places s) (sym t.4) (child_below s t.0 t.1 t.2 (below_pool s free row life stage hand retired r t.0 (not_free (life t.0) t.1 t.3 t.5)))

-- where a name stands is a place at work
pub label_place : (s : Setup) (name : ℕ → ℕ) (life : ℕ → Life) (x k : ℕ) → IsLabel s name life x k → IsPlace s.elements life x
label_place s name life x k (inl t) = inl t.0
label_place s name life x k (inr t) = let f = first (life t.0) t.1 t.3 t.5 in inr (t.0, t.1, t.2, f.0, t.4, f.1)
  where
    first : (l : Life) (t : Bool) (y : ℕ) → stands l t ≡ y + 1 → (z : ℕ) × (stands l false ≡ z + 1)
    first l t y e = ⊎_elim (λ p. (p.0, ap (λ (k : Life). stands k false) p.2)) (λ p. (p.0, ap (λ (k : Life). stands k false) p.2)) (standing l t y e)

-- a place has one label
pub label_one : (s : Setup) (name : ℕ → ℕ) (life : ℕ → Life) (x k i : ℕ) → IsLabel s name life x k → IsLabel s name life x i → k ≡ i
label_one s name life x k i (inl a) (inl b) = a.1 ∙ sym b.1
label_one s name life x k i (inl a) (inr b) = absurd (child_outside s.elements b.0 b.1 b.2 (subst (λ (y : ℕ). y < s.elements) b.4 a.0))
label_one s name life x k i (inr a) (inl b) = absurd (child_outside s.elements a.0 a.1 a.2 (subst (λ (y : ℕ). y < s.elements) a.4 b.0))
label_one s name life x k i (inr a) (inr b) = let e = child_one s.elements a.0 b.0 a.1 a.2 b.1 b.2 (sym a.4 ∙ b.4) in a.6 ∙ ap (λ (y : ℕ × Bool × Bool). s.child (name (member_of y.0 y.1)) y.2) (λ t. (e.0 t, e.1 t, e.2 t)) ∙ sym b.6

-- what stood before stands, with the same names, so labels stay
pub label_on : (s : Setup) (name name' : ℕ → ℕ) (life life' : ℕ → Life) → ((b : ℕ) (t : Bool) (y : ℕ) → stands (life b) t ≡ y + 1 → (stands (life' b) t ≡ y + 1) × (name' (member_of b t) ≡ name (member_of b t))) → (x k : ℕ) → IsLabel s name life x k → IsLabel s name' life' x k
label_on s name name' life life' on x k (inl t) = inl t
label_on s name name' life life' on x k (inr t) = let u = on t.0 t.1 t.3 t.5 in inr (t.0, t.1, t.2, t.3, t.4, u.0, t.6 ∙ sym (ap (λ (i : ℕ). s.child i t.2) u.1))

-- where the same members stand, no more are in chains, and the words of chains are the same
pub labels_on : (s : Setup) (name name' : ℕ → ℕ) (head head' history history' : ℕ → Node) (life life' : ℕ → Life) → ((b : ℕ) (t : Bool) (y : ℕ) → stands (life b) t ≡ y + 1 → (stands (life' b) t ≡ y + 1) × (name' (member_of b t) ≡ name (member_of b t))) → ((b : ℕ) (t : Bool) (y : ℕ) → stands (life' b) t ≡ y + 1 → stands (life b) t ≡ y + 1)
    → ((b : ℕ) (t : Bool) (y : ℕ) → chained (life' b) t ≡ y + 1 → chained (life b) t ≡ y + 1) → ((x : ℕ) → IsPlace s.elements life x → (head' x).block ≡ (head x).block) → ((a : ℕ) (t : Bool) (x : ℕ) → stands (life a) t ≡ x + 1 → history' (member_of a t) ≡ history (member_of a t))
    → ((b x m : ℕ) → life' b ≡ RolledBack x m → IsPatch s name' b m) → LabelRule s name head history life → LabelRule s name' head' history' life'
labels_on s name name' head head' history history' life life' on back chain same_head same_history patch r = record {
  heads = λ x b t l e c. let h = chain b t x c in let a = live x l in subst (IsLabel s name' life' x) (sym (on b t x (chained_stands (life b) t x h)).1) (label_on s name name' life life' on x (name (member_of b t)) (r.heads x b t a (sym (same_head x a) ∙ e) h));
  histories = λ a c x t u st e ch. let h = chain c u x ch in let st0 = back a t x st in (on c u x (chained_stands (life c) u x h)).1 ∙ r.histories a c x t u st0 (sym (ap (λ (l : Node). l.block) (same_history a t x st0)) ∙ e) h ∙ sym (on a t x st0).1;
  patch = patch;
}
  where
    live : (x : ℕ) → IsPlace s.elements life' x → IsPlace s.elements life x
    live x (inl l) = inl l
    live x (inr k) = inr (k.0, k.1, k.2, k.3, k.4, back k.0 false k.3 k.5)

-- where LINK words name the same blocks
pub labels_heads : (s : Setup) (name : ℕ → ℕ) (head head' history : ℕ → Node) (life : ℕ → Life) → ((x : ℕ) → (head' x).block ≡ (head x).block) → LabelRule s name head history life → LabelRule s name head' history life
labels_heads s name head head' history life same r = record { heads = λ x b t l e c. r.heads x b t l (sym (same x) ∙ e) c; histories = r.histories; patch = r.patch }

-- where a LINK word is led on to what the HISTORY word of its member names
pub labels_skip : (s : Setup) (name : ℕ → ℕ) (head history : ℕ → Node) (life : ℕ → Life) (x b : ℕ) (t : Bool) (l : Node) → (head x).block ≡ b + 1 → chained (life b) t ≡ x + 1 → history (member_of b t) ≡ l → LabelRule s name head history life → LabelRule s name (update head x l) history life
labels_skip s name head history life x b t l named at is r = record {
  heads = λ z c u live e ch. dite (ℕ_discrete z x)
      (λ f. let el : l.block ≡ c + 1 = sym (ap (λ (k : Node). k.block) (update_at head x z l f)) ∙ e in let cx : chained (life c) u ≡ x + 1 = ch ∙ ap (λ (i : ℕ). i + 1) f in
      subst (IsLabel s name life z) (sym (r.histories b c x t u (chained_stands (life b) t x at) (ap (λ (k : Node). k.block) is ∙ el) cx)) (r.heads z b t live (ap (λ (i : ℕ). (head i).block) f ∙ named) (at ∙ ap (λ (i : ℕ). i + 1) (sym f))))
      (λ o. r.heads z c u live (sym (ap (λ (k : Node). k.block) (update_other head x z l o)) ∙ e) ch);
  histories = r.histories;
  patch = r.patch;
}

-- where a HISTORY word is
pub labels_skip_history : (s : Setup) (name : ℕ → ℕ) (head history : ℕ → Node) (life : ℕ → Life) (a x b : ℕ) (v t : Bool) (l : Node) → stands (life a) v ≡ x + 1 → (history (member_of a v)).block ≡ b + 1 → chained (life b) t ≡ x + 1 → history (member_of b t) ≡ l → LabelRule s name head history life → LabelRule s name head (update history (member_of a v) l) life
labels_skip_history s name head history life a x b v t l stood named at is r = record {
  heads = r.heads;
  histories = λ d c z w u st e ch. dite (ℕ_discrete (member_of d w) (member_of a v))
      (λ f. let m = member_one d a w v f in let el : l.block ≡ c + 1 = sym (ap (λ (k : Node). k.block) (update_at history (member_of a v) (member_of d w) l f)) ∙ e in
      let zx : z + 1 ≡ x + 1 = sym st ∙ (λ i. stands (life (m.0 i)) (m.1 i)) ∙ stood in
      r.histories b c x t u (chained_stands (life b) t x at) (ap (λ (k : Node). k.block) is ∙ el) (ch ∙ zx) ∙ r.histories a b x v t stood named at ∙ sym (ap name f))
      (λ o. r.histories d c z w u st (sym (ap (λ (k : Node). k.block) (update_other history (member_of a v) (member_of d w) l o)) ∙ e) ch);
  patch = r.patch;
}

-- where a claim goes on at the same places
pub inside_goes : (s : Setup) (free : ℕ) (row : ℕ → ℕ) (life : ℕ → Life) (stage : ℕ → Stage) (hand retired : List ℕ) (x j m : ℕ) (p : Progress) (i : ℕ) (q : Progress) → stage x ≡ Held j m p → InsideRule s free row life stage hand retired → InsideRule s free row life (update stage x (Held i m q)) hand retired
inside_goes s free row life stage hand retired x j m p i q is r = record {
  few = r.few;
  rows = r.rows;
  blocks = r.blocks;
  stand_in = r.stand_in;
  seconds = λ z a y o h. dite (ℕ_discrete z x)
      (λ e. r.seconds x j y p (is ∙ ap (λ (k : ℕ). Held j k p) (held_one i a m (y + 1) q o (sym (update_at stage x z (Held i m q) e) ∙ h)).1))
      (λ e. r.seconds z a y o (sym (update_other stage x z (Held i m q) e) ∙ h));
  hand_in = r.hand_in;
  retired_in = r.retired_in;
}

-- where a claim ends
pub inside_ends : (s : Setup) (free : ℕ) (row : ℕ → ℕ) (life : ℕ → Life) (stage : ℕ → Stage) (hand retired : List ℕ) (x : ℕ) → InsideRule s free row life stage hand retired → InsideRule s free row life (update stage x Open) hand retired
inside_ends s free row life stage hand retired x r = record {
  few = r.few;
  rows = r.rows;
  blocks = r.blocks;
  stand_in = r.stand_in;
  seconds = λ z a y o h. dite (ℕ_discrete z x) (λ e. absurd (not_open a (y + 1) o (sym h ∙ update_at stage x z Open e))) (λ e. r.seconds z a y o (sym (update_other stage x z Open e) ∙ h));
  hand_in = r.hand_in;
  retired_in = r.retired_in;
}

-- where lives change, of blocks of the pool
pub inside_life : (s : Setup) (free : ℕ) (row : ℕ → ℕ) (life life' : ℕ → Life) (stage : ℕ → Stage) (hand retired : List ℕ) → ((b : ℕ) → s.pool ≤ b → life' b ≡ Free) → ((b : ℕ) (t : Bool) (x : ℕ) → stands (life' b) t ≡ x + 1 → x < places s) → InsideRule s free row life stage hand retired → InsideRule s free row life' stage hand retired
inside_life s free row life life' stage hand retired blocks stand r = record { few = r.few; rows = r.rows; blocks = blocks; stand_in = stand; seconds = r.seconds; hand_in = r.hand_in; retired_in = r.retired_in }

-- where one block of the pool gets another life
pub inside_block : (s : Setup) (life : ℕ → Life) (b : ℕ) (l : Life) → b < s.pool → ((c : ℕ) → s.pool ≤ c → life c ≡ Free) → (c : ℕ) → s.pool ≤ c → update life b l c ≡ Free
inside_block s life b l low r c h = update_other life b c l (λ (e : c ≡ b). omega arith) ∙ r c h

-- at a round that may be read an element has the label of its place
pub label_of : (s : Setup) (w : Words) (n : ℕ) (v : Views) (g : Ghost) → Rule s w n v g → (q : ℕ) → MayRead w.round v.ruling.phase v.read q → (x k : ℕ) → IsPlaceOf s w.name (g.who q) x k → IsLabel s w.name g.life x k
label_of s w n v g r q may x k (inl t) = inl t
label_of s w n v g r q may x k (inr t) = let f = (r.names.fits q may).found (w.name (member_of t.0 t.1)) t.0 t.4 in
    let same = two s w n v g r q may t.0 t.1 f.0 t.4 (sym f.2) in
    inr (t.0, t.1, t.2, f.1, t.3, subst (λ (u : Bool). stands (g.life t.0) u ≡ f.1 + 1) (sym same) (chained_stands (g.life t.0) f.0 f.1 f.3), t.5)

-- lists of claims
pub once_more : (cs : List Claim) (x m : ℕ) (p : Progress) → ((k : ℕ) (q : Progress) → HasEntry cs (claim x k q) → ⊥) → ListedOnce cs → ListedOnce (claim x m p ∷ cs)
once_more cs x m p not r = (not, r)

pub once_moved : (cs : List Claim) (x : ℕ) (p : Progress) → ListedOnce cs → ListedOnce (moved_on cs x p)
once_moved [] x p r = tt
once_moved (c ∷ cs) x p r = (
  λ m q h. let f : (cond (c.place == x) (claim x c.mate p) c).place ≡ c.place = same in
      ⊎_elim (λ t. r.0 m t.2.0 (subst (λ (i : ℕ). HasEntry cs (claim i m t.2.0)) (sym t.0 ∙ f) t.2.1)) (λ t. r.0 m q (subst (λ (i : ℕ). HasEntry cs (claim i m q)) f t.1)) (moved_on_has cs x p (cond (c.place == x) (claim x c.mate p) c).place m q h),
  once_moved cs x p r.1,
)
  where
    same : (cond (c.place == x) (claim x c.mate p) c).place ≡ c.place
    same = dite (ℕ_discrete c.place x) (λ e. ap (λ (b : Bool). (cond b (claim x c.mate p) c).place) (eq-eqb c.place x e) ∙ sym e) (λ o. ap (λ (b : Bool). (cond b (claim x c.mate p) c).place) (ne_eqb c.place x o))

pub once_ended : (cs : List Claim) (x : ℕ) → ListedOnce cs → ListedOnce (ended cs x)
once_ended [] x r = tt
once_ended (c ∷ cs) x r = dite (ℕ_discrete c.place x)
    (λ e. subst ListedOnce (sym (ap (λ b. cond b (ended cs x) (c ∷ ended cs x)) (eq-eqb c.place x e))) (once_ended cs x r.1))
    (λ o. subst ListedOnce (sym (ap (λ b. cond b (ended cs x) (c ∷ ended cs x)) (ne_eqb c.place x o))) ((λ m q h. r.0 m q (ended_has cs x c.place m q h).1), once_ended cs x r.1))

pub once_both : (xs ys : List Claim) → ((x m k : ℕ) (p q : Progress) → HasEntry xs (claim x m p) → HasEntry ys (claim x k q) → ⊥) → ListedOnce xs → ListedOnce ys → ListedOnce (xs ++ ys)
once_both [] ys not a b = b
once_both (x ∷ xs) ys not a b = ((λ m q h. ⊎_elim (λ t. a.0 m q t) (λ t. not x.place x.mate m x.progress q (inl refl) t) (entry_of_both xs ys (claim x.place m q) h)), once_both xs ys (λ y m k p q h. not y m k p q (inr h)) a.1 b)

-- where one view's claims change
pub once_update : (claims : ℕ → List Claim) (cs : List Claim) → ListedOnce cs → ((j : ℕ) → ListedOnce (claims j)) → (j : ℕ) → ListedOnce (update claims 0 cs j)
once_update claims cs here others = update_cases (λ _ xs. ListedOnce xs) claims 0 cs here (λ j _. others j)

-- the last number takes the place of p
abbrev swapped : ℕ → ℕ → (ℕ → ℕ) → ℕ → ℕ
swapped k p f i = cond (f i == p) (f k) (f i)

-- as many different numbers are below p as there are below k
pub few_below : (k p : ℕ) (f : ℕ → ℕ) → ((i : ℕ) → i < k → f i < p) → ((i j : ℕ) → i < k → j < k → f i ≡ f j → i ≡ j) → k ≤ p
few_below zero p f low one = omega arith
few_below (suc k) zero f low one = let l = low 0 (omega arith) in absurd (omega arith)
few_below (suc k) (suc p) f low one = let h = few_below k p (swapped k p f) other_low other_one in omega arith
  where
    last : f k ≡ p → (i : ℕ) → i < k → f i ≡ p → ⊥
    last e i l h = let z = one i k (omega arith) (omega arith) (h ∙ sym e) in omega arith

    other_is : (i : ℕ) → ((f i ≡ p) × (swapped k p f i ≡ f k)) ⊎ ((f i ≢ p) × (swapped k p f i ≡ f i))
    other_is i = dite (ℕ_discrete (f i) p) (λ e. inl (e, ap (λ (b : Bool). cond b (f k) (f i)) (eq-eqb (f i) p e))) (λ o. inr (o, ap (λ (b : Bool). cond b (f k) (f i)) (ne_eqb (f i) p o)))

    other_low : (i : ℕ) → i < k → swapped k p f i < p
    other_low i l = let a = low i (omega arith) in let b = low k (omega arith) in ⊎_elim
        (λ t. let t1 = t.1 in dite (ℕ_discrete (f k) p) (λ e. absurd (last e i l t.0)) (λ o. strict (f k) p b o t.1))
        (λ t. strict (f i) p a t.0 t.1) (other_is i)
      where
        strict : (a p : ℕ) → a < suc p → a ≢ p → {c : ℕ} → c ≡ a → c < p
        strict a p l o e = elim (dec_lt a p) [ yes m ↦ omega arith | no m ↦ absurd (o (omega arith)) ]

    other_one : (i j : ℕ) → i < k → j < k → swapped k p f i ≡ swapped k p f j → i ≡ j
    other_one i j l m e = ⊎_elim
        (λ t. ⊎_elim (λ u. one i j (omega arith) (omega arith) (t.0 ∙ sym u.0)) (λ u. let z = one k j (omega arith) (omega arith) (sym t.1 ∙ e ∙ u.1) in absurd (omega arith)) (other_is j))
        (λ t. ⊎_elim (λ u. let z = one i k (omega arith) (omega arith) (sym t.1 ∙ e ∙ u.1) in absurd (omega arith)) (λ u. one i j (omega arith) (omega arith) (sym t.1 ∙ e ∙ u.1)) (other_is j))
        (other_is i)
