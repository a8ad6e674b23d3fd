-- From a valid and graded mesh to what its neighbours are.
use Rattle.std.proofs.Common.{◌≡◌, ℕ, zero, suc, ◌<◌, Bool, true, false, cond, eqb, ◌&&◌, refl, sym, ap, ◌∙◌, subst, arith, inl, inr, ⊎_elim, true≢false, eqb-true, eq-eqb}
use Rattle.std.specs.Prelude.{Option, Some, None, ◌≢◌}
use Rattle.std.proofs.lemmas.Bool.Decides.{eqb_tells}
use Rattle.mesh_names.specs.Triangles.{Vertex, Corner, Mid, Triple, Shape, size, level, triple_of, corner_of, top_triangle, top_of, triangle, middle}
use Rattle.mesh_names.specs.Partners.{Edge, Edge0, Edge1, Edge2, Tells, edge_at, edge_word, edge_middle, turned_by}
use Rattle.mesh_names.specs.Validity.{ends_of, IsSamePair, Shares, HasCorner, IsTwin, IsValid, IsGraded, match_pair, first_edge, edge_in, found_in, across_before, across_of, ValidTells}
use Rattle.mesh_names.proofs.Levels.{middle-same, not_mid}

abbrev in_some : {A : Type 0} → A → Option A → A
in_some a None = a
in_some a (Some b) = b

pub some_inj : {A : Type 0} (a b : A) → Some a ≡ Some b → a ≡ b
some_inj a b e = ap (in_some a) e

abbrev is_there : {A : Type 0} → Option A → Bool
is_there None = false
is_there (Some a) = true

pub none_some : {A : Type 0} (a : A) → None ≡ Some a → ⊥
none_some a e = true≢false (sym (ap is_there e))

and_both : (a b : Bool) → (a && b) ≡ true → (a ≡ true) × (b ≡ true)
and_both true b e = (refl, e)
and_both false b e = absurd (true≢false (sym e))

-- ---- pairs
pub pair-sym : (p q : ℕ × ℕ) → IsSamePair p q → IsSamePair q p
pair-sym p q s = ⊎_elim (λ (a : (p.0 ≡ q.0) × (p.1 ≡ q.1)). inl (sym a.0, sym a.1)) (λ (a : (p.0 ≡ q.1) × (p.1 ≡ q.0)). inr (sym a.1, sym a.0)) s

pub pair-trans : (p q r : ℕ × ℕ) → IsSamePair p q → IsSamePair q r → IsSamePair p r
pair-trans p q r s t = ⊎_elim
    (λ (a : (p.0 ≡ q.0) × (p.1 ≡ q.1)). ⊎_elim (λ (b : (q.0 ≡ r.0) × (q.1 ≡ r.1)). inl (a.0 ∙ b.0, a.1 ∙ b.1)) (λ (b : (q.0 ≡ r.1) × (q.1 ≡ r.0)). inr (a.0 ∙ b.0, a.1 ∙ b.1)) t)
    (λ (a : (p.0 ≡ q.1) × (p.1 ≡ q.0)). ⊎_elim (λ (b : (q.0 ≡ r.0) × (q.1 ≡ r.1)). inr (a.0 ∙ b.1, a.1 ∙ b.0)) (λ (b : (q.0 ≡ r.1) × (q.1 ≡ r.0)). inl (a.0 ∙ b.1, a.1 ∙ b.0)) t)
    s

abbrev Turns : Bool → ℕ × ℕ → ℕ × ℕ → Type 0
Turns t p q = (q.0 ≡ cond t p.1 p.0) × (q.1 ≡ cond t p.0 p.1)

turns-same : (t : Bool) (p q : ℕ × ℕ) → Turns t p q → IsSamePair p q
turns-same true p q h = inr (sym h.1, sym h.0)
turns-same false p q h = inl (sym h.0, sym h.1)

match-turns : (p q : ℕ × ℕ) (t : Bool) → match_pair p q ≡ Some t → Turns t p q
match-turns p q t e = by (eqb p.0 q.0 && eqb p.1 q.1) (eqb p.0 q.1 && eqb p.1 q.0)
    (λ h. let k = and_both (eqb p.0 q.0) (eqb p.1 q.1) h in (sym (eqb-true p.0 q.0 k.0), sym (eqb-true p.1 q.1 k.1)))
    (λ h. let k = and_both (eqb p.0 q.1) (eqb p.1 q.0) h in (sym (eqb-true p.1 q.0 k.1), sym (eqb-true p.0 q.1 k.0)))
    e
  where
    by : (a b : Bool) → (a ≡ true → Turns false p q) → (b ≡ true → Turns true p q) → cond a (Some false) (cond b (Some true) None) ≡ Some t → Turns t p q
    by true b f g h = subst (λ (u : Bool). Turns u p q) (some_inj false t h) (f refl)
    by false true f g h = subst (λ (u : Bool). Turns u p q) (some_inj true t h) (g refl)
    by false false f g h = absurd (none_some t h)

pub same-match : (p q : ℕ × ℕ) → IsSamePair p q → (t : Bool) × (match_pair p q ≡ Some t)
same-match p q s = ⊎_elim
    (λ (a : (p.0 ≡ q.0) × (p.1 ≡ q.1)). (false, λ i. cond (eq-eqb p.0 q.0 a.0 i && eq-eqb p.1 q.1 a.1 i) (Some false) (cond (eqb p.0 q.1 && eqb p.1 q.0) (Some true) None)))
    (λ (a : (p.0 ≡ q.1) × (p.1 ≡ q.0)).
    let b = one (eqb p.0 q.0 && eqb p.1 q.1) in
    (b.0, (λ i. cond (eqb p.0 q.0 && eqb p.1 q.1) (Some false) (cond (eq-eqb p.0 q.1 a.0 i && eq-eqb p.1 q.0 a.1 i) (Some true) None)) ∙ b.1))
    s
  where
    one : (a : Bool) → (t : Bool) × (cond a (Some false) (Some true) ≡ Some t)
    one true = (false, refl)
    one false = (true, refl)

-- pairs that the search tells apart are not the same
pub pairs_apart : (p q : ℕ × ℕ) → match_pair p q ≡ None → IsSamePair p q → ⊥
pairs_apart p q e h = let m = same-match p q h in none_some m.0 (sym e ∙ m.1)

-- ---- the edges of one element
abbrev pick : Edge → Option Bool → Option Bool → Option Bool → Option Bool
pick Edge0 a b c = a
pick Edge1 a b c = b
pick Edge2 a b c = c

pick_match : (p : ℕ × ℕ) (t : Triple) (f : Edge) → pick f (match_pair p (ends_of t Edge0)) (match_pair p (ends_of t Edge1)) (match_pair p (ends_of t Edge2)) ≡ match_pair p (ends_of t f)
pick_match p t Edge0 = refl
pick_match p t Edge1 = refl
pick_match p t Edge2 = refl

first-pick : (a b c : Option Bool) (f : Edge) (d : Bool) → first_edge a b c ≡ Some (f, d) → pick f a b c ≡ Some d
first-pick (Some t) b c f d e = let k = some_inj (Edge0, t) (f, d) e in (λ i. pick (sym k i).0 (Some t) b c) ∙ (λ i. Some (k i).1)
first-pick None (Some t) c f d e = let k = some_inj (Edge1, t) (f, d) e in (λ i. pick (sym k i).0 None (Some t) c) ∙ (λ i. Some (k i).1)
first-pick None None (Some t) f d e = let k = some_inj (Edge2, t) (f, d) e in (λ i. pick (sym k i).0 None None (Some t)) ∙ (λ i. Some (k i).1)
first-pick None None None f d e = absurd (none_some (f, d) e)

pick-first : (a b c : Option Bool) (f : Edge) (d : Bool) → pick f a b c ≡ Some d → (g : Edge × Bool) × (first_edge a b c ≡ Some g)
pick-first (Some t) b c f d e = ((Edge0, t), refl)
pick-first None (Some t) c f d e = ((Edge1, t), refl)
pick-first None None (Some t) f d e = ((Edge2, t), refl)
pick-first None None None Edge0 d e = absurd (none_some d e)
pick-first None None None Edge1 d e = absurd (none_some d e)
pick-first None None None Edge2 d e = absurd (none_some d e)

edge_in-match : (p : ℕ × ℕ) (t : Triple) (f : Edge) (d : Bool) → edge_in p t ≡ Some (f, d) → match_pair p (ends_of t f) ≡ Some d
edge_in-match p t f d e = sym (pick_match p t f) ∙ first-pick _ _ _ f d e

edge_in_there : (p : ℕ × ℕ) (t : Triple) (f : Edge) → IsSamePair p (ends_of t f) → (g : Edge × Bool) × (edge_in p t ≡ Some g)
edge_in_there p t f s = let m = same-match p (ends_of t f) s in pick-first _ _ _ f m.0 (pick_match p t f ∙ m.1)

-- ---- the search
module _ (mesh : Shape) (r : ℕ) (p : ℕ × ℕ) where
  abbrev Found : ℕ → ℕ × Edge × Bool → Type 0
  Found k a = (a.0 < k) × (a.0 ≡ r → ⊥) × (match_pair p (ends_of (triple_of mesh a.0) a.1) ≡ Some a.2)

  later : (k : ℕ) (a : ℕ × Edge × Bool) → Found k a → Found (suc k) a
  later k a h = (omega (arith, h.0), h.1, h.2)

  at_next : (k : ℕ) (b : Bool) → eqb k r ≡ b → across_before mesh r p (suc k) ≡ cond b (across_before mesh r p k) (found_in k (edge_in p (triple_of mesh k)) (across_before mesh r p k))
  at_next k b e = ap (λ (c : Bool). cond c (across_before mesh r p k) (found_in k (edge_in p (triple_of mesh k)) (across_before mesh r p k))) e

  pub found : (k : ℕ) (a : ℕ × Edge × Bool) → across_before mesh r p k ≡ Some a → Found k a
  found zero a e = absurd (none_some a e)
  found (suc k) a e = ⊎_elim
      (λ (t : (eqb k r ≡ true) × (k ≡ r)). later k a (found k a (sym (at_next k true t.0) ∙ e)))
      (λ (t : (eqb k r ≡ false) × (k ≢ r)). by t.1 (found k a) (edge_in p (triple_of mesh k)) refl (sym (at_next k false t.0) ∙ e))
      (eqb_tells k r)
    where
      by : k ≢ r → (across_before mesh r p k ≡ Some a → Found k a) → (o : Option (Edge × Bool)) → edge_in p (triple_of mesh k) ≡ o → found_in k o (across_before mesh r p k) ≡ Some a → Found (suc k) a
      by n ih (Some b) h q = subst (λ (c : ℕ × Edge × Bool). Found (suc k) c) (some_inj (k, b.0, b.1) a q) (omega arith, n, edge_in-match p (triple_of mesh k) b.0 b.1 h)
      by n ih None h q = later k a (ih q)

  pub there : (k s : ℕ) (f : Edge) → s < k → (s ≡ r → ⊥) → IsSamePair p (ends_of (triple_of mesh s) f) → (a : ℕ × Edge × Bool) × (across_before mesh r p k ≡ Some a)
  there zero s f h n same = absurd (omega arith)
  there (suc k) s f h n same = ⊎_elim
      (λ (t : (eqb k r ≡ true) × (k ≡ r)). let rest = there k s f (below_k t.1) n same in (rest.0, at_next k true t.0 ∙ rest.1))
      (λ (t : (eqb k r ≡ false) × (k ≢ r)). let rest = by (λ m. there k s f m n same) (edge_in p (triple_of mesh k)) refl in (rest.0, at_next k false t.0 ∙ rest.1))
      (eqb_tells k r)
    where
      apart_k : (s ≡ k → ⊥) → s < k
      apart_k m = ⊎_elim (λ (t : (eqb s k ≡ true) × (s ≡ k)). absurd (m t.1)) (λ (t : (eqb s k ≡ false) × (s ≢ k)). omega (arith, h, t.1)) (eqb_tells s k)

      below_k : k ≡ r → s < k
      below_k e = apart_k (λ q. n (q ∙ e))

      by : (s < k → (a : ℕ × Edge × Bool) × (across_before mesh r p k ≡ Some a)) → (o : Option (Edge × Bool)) → edge_in p (triple_of mesh k) ≡ o → (a : ℕ × Edge × Bool) × (found_in k o (across_before mesh r p k) ≡ Some a)
      by ih (Some b) e = ((k, b.0, b.1), refl)
      by ih None e = ih (apart_k (λ q. let g = edge_in_there p (triple_of mesh k) f (subst (λ (y : ℕ). IsSamePair p (ends_of (triple_of mesh y) f)) q same) in none_some g.0 (sym e ∙ g.1)))

-- ---- triangles
abbrev number : Vertex → ℕ
number (Corner i) = i
number (Mid a b) = 0

pub corner-inj : (i j : ℕ) → Corner i ≡ Corner j → i ≡ j
corner-inj i j e = ap number e

middle-pair : (p q : ℕ × ℕ) → middle (Corner p.0) (Corner p.1) ≡ middle (Corner q.0) (Corner q.1) → IsSamePair p q
middle-pair p q e = ⊎_elim
    (λ (a : (Corner p.0 ≡ Corner q.0) × (Corner p.1 ≡ Corner q.1)). inl (corner-inj p.0 q.0 a.0, corner-inj p.1 q.1 a.1))
    (λ (a : (Corner p.0 ≡ Corner q.1) × (Corner p.1 ≡ Corner q.0)). inr (corner-inj p.0 q.1 a.0, corner-inj p.1 q.0 a.1))
    (middle-same (Corner p.0) (Corner p.1) (Corner q.0) (Corner q.1) e)

edge-corners : (t : Triple) (e : Edge) → edge_at e (top_triangle t) ≡ (Corner (ends_of t e).0, Corner (ends_of t e).1)
edge-corners t Edge0 = refl
edge-corners t Edge1 = refl
edge-corners t Edge2 = refl

ends_in : (t : Triple) (e : Edge) → HasCorner t (ends_of t e).0 × HasCorner t (ends_of t e).1
ends_in t Edge0 = (inr (inl refl), inr (inr refl))
ends_in t Edge1 = (inr (inr refl), inl refl)
ends_in t Edge2 = (inl refl, inr (inl refl))

abbrev NumbersDistinct : Triple → Type 0
NumbersDistinct t = (corner_of t 0 ≡ corner_of t 1 → ⊥) × (corner_of t 1 ≡ corner_of t 2 → ⊥) × (corner_of t 0 ≡ corner_of t 2 → ⊥)

same_edge : (t : Triple) → NumbersDistinct t → (e f : Edge) → IsSamePair (ends_of t e) (ends_of t f) → e ≡ f
same_edge t d Edge0 Edge0 s = refl
same_edge t d Edge1 Edge1 s = refl
same_edge t d Edge2 Edge2 s = refl
same_edge t d Edge0 Edge1 s = absurd (⊎_elim (λ p. d.1 p.0) (λ p. d.0 (sym p.0)) s)
same_edge t d Edge0 Edge2 s = absurd (⊎_elim (λ p. d.0 (sym p.0)) (λ p. d.2 (sym p.1)) s)
same_edge t d Edge1 Edge0 s = absurd (⊎_elim (λ p. d.1 (sym p.0)) (λ p. d.0 p.1) s)
same_edge t d Edge1 Edge2 s = absurd (⊎_elim (λ p. d.2 (sym p.0)) (λ p. d.1 (sym p.0)) s)
same_edge t d Edge2 Edge0 s = absurd (⊎_elim (λ p. d.0 p.0) (λ p. d.2 p.0) s)
same_edge t d Edge2 Edge1 s = absurd (⊎_elim (λ p. d.2 p.0) (λ p. d.1 p.1) s)

module _ (mesh : Shape) (valid : IsValid mesh) where
  tr : ℕ → Triple
  tr r = triple_of mesh r

  edge-middle : (r : ℕ) (e : Edge) → edge_middle mesh r e ≡ middle (Corner (ends_of (triple_of mesh r) e).0) (Corner (ends_of (triple_of mesh r) e).1)
  edge-middle r Edge0 = refl
  edge-middle r Edge1 = refl
  edge-middle r Edge2 = refl

  shares_of : (r s : ℕ) (e f : Edge) → edge_middle mesh r e ≡ edge_middle mesh s f → Shares mesh r e s f
  shares_of r s e f h = middle-pair (ends_of (triple_of mesh r) e) (ends_of (triple_of mesh s) f) (sym (edge-middle r e) ∙ h ∙ edge-middle s f)

  -- both ends of a shared edge are corners of the other element
  both_in : (r s : ℕ) (e f : Edge) → Shares mesh r e s f → HasCorner (triple_of mesh s) (ends_of (triple_of mesh r) e).0 × HasCorner (triple_of mesh s) (ends_of (triple_of mesh r) e).1
  both_in r s e f h =
      let p = ends_of (triple_of mesh r) e in
      let q = ends_of (triple_of mesh s) f in
      let k = ends_in (triple_of mesh s) f in
      ⊎_elim
      (λ (a : (p.0 ≡ q.0) × (p.1 ≡ q.1)). (subst (HasCorner (triple_of mesh s)) (sym a.0) k.0, subst (HasCorner (triple_of mesh s)) (sym a.1) k.1))
      (λ (a : (p.0 ≡ q.1) × (p.1 ≡ q.0)). (subst (HasCorner (triple_of mesh s)) (sym a.0) k.1, subst (HasCorner (triple_of mesh s)) (sym a.1) k.0))
      h

  one_apex : (r s : ℕ) (e f : Edge) → Shares mesh r e s f → (triangle mesh (r, edge_word e)).2 ≡ (triangle mesh (s, edge_word f)).2 → IsTwin (triple_of mesh r) (triple_of mesh s)
  one_apex r s Edge2 Edge2 h q = let b = both_in r s Edge2 Edge2 h in (b.0, b.1, inr (inr (corner-inj _ _ q)))
  one_apex r s Edge2 Edge0 h q = absurd (not_mid mesh _ (top_of mesh s).0 (top_of mesh s).1 q)
  one_apex r s Edge2 Edge1 h q = absurd (not_mid mesh _ (top_of mesh s).0 (top_of mesh s).1 q)
  one_apex r s Edge0 Edge2 h q = absurd (not_mid mesh _ (top_of mesh r).0 (top_of mesh r).1 (sym q))
  one_apex r s Edge1 Edge2 h q = absurd (not_mid mesh _ (top_of mesh r).0 (top_of mesh r).1 (sym q))
  one_apex r s Edge0 Edge0 h q = let b = both_in r s Edge2 Edge2 (shares_of r s Edge2 Edge2 q) in (b.0, b.1, (both_in r s Edge0 Edge0 h).1)
  one_apex r s Edge0 Edge1 h q = let b = both_in r s Edge2 Edge2 (shares_of r s Edge2 Edge2 q) in (b.0, b.1, (both_in r s Edge0 Edge1 h).1)
  one_apex r s Edge1 Edge0 h q = let b = both_in r s Edge2 Edge2 (shares_of r s Edge2 Edge2 q) in (b.0, b.1, (both_in r s Edge1 Edge0 h).0)
  one_apex r s Edge1 Edge1 h q = let b = both_in r s Edge2 Edge2 (shares_of r s Edge2 Edge2 q) in (b.0, b.1, (both_in r s Edge1 Edge1 h).0)

  one_edge : (r s : ℕ) (e f : Edge) → r < size mesh → r ≡ s → Shares mesh r e s f → e ≡ f
  one_edge r s e f hr p h = same_edge (triple_of mesh r) (valid.distinct r hr) e f (subst (λ (y : ℕ). Shares mesh r e y f) (sym p) h)

  shares : (r s : ℕ) (e f : Edge) (t : Bool) → across_of mesh r e ≡ Some (s, f, t) → (s < size mesh) × (s ≡ r → ⊥) × Turns t (ends_of (triple_of mesh r) e) (ends_of (triple_of mesh s) f)
  shares r s e f t h =
      let a = found mesh r (ends_of (triple_of mesh r) e) (size mesh) (s, f, t) h in
      (a.0, a.1, match-turns (ends_of (triple_of mesh r) e) (ends_of (triple_of mesh s) f) t a.2)

  module _ (graded : IsGraded mesh) where
    levels_fit : (r s : ℕ) (e f : Edge) → r < size mesh → s < size mesh → (r ≡ s → ⊥) → Shares mesh r e s f → level mesh (r, edge_word e) ≡ level mesh (s, edge_word f)
    levels_fit r s Edge2 Edge2 hr hs n h = omega (arith, graded.equal r s Edge2 Edge2 hr hs n h refl)
    levels_fit r s Edge0 Edge0 hr hs n h = omega (arith, graded.equal r s Edge0 Edge0 hr hs n h refl)
    levels_fit r s Edge0 Edge1 hr hs n h = omega (arith, graded.equal r s Edge0 Edge1 hr hs n h refl)
    levels_fit r s Edge1 Edge0 hr hs n h = omega (arith, graded.equal r s Edge1 Edge0 hr hs n h refl)
    levels_fit r s Edge1 Edge1 hr hs n h = omega (arith, graded.equal r s Edge1 Edge1 hr hs n h refl)
    levels_fit r s Edge2 Edge0 hr hs n h = omega (arith, graded.more r s Edge2 Edge0 hr hs n h refl refl)
    levels_fit r s Edge2 Edge1 hr hs n h = omega (arith, graded.more r s Edge2 Edge1 hr hs n h refl refl)
    levels_fit r s Edge0 Edge2 hr hs n h = omega (arith, graded.more s r Edge2 Edge0 hs hr (λ q. n (sym q)) (pair-sym (ends_of (triple_of mesh r) Edge0) (ends_of (triple_of mesh s) Edge2) h) refl refl)
    levels_fit r s Edge1 Edge2 hr hs n h = omega (arith, graded.more s r Edge2 Edge1 hs hr (λ q. n (sym q)) (pair-sym (ends_of (triple_of mesh r) Edge1) (ends_of (triple_of mesh s) Edge2) h) refl refl)

    turned : (r s : ℕ) (e f : Edge) (t : Bool) → Turns t (ends_of (triple_of mesh r) e) (ends_of (triple_of mesh s) f) → edge_at f (top_of mesh s) ≡ turned_by t (edge_at e (top_of mesh r))
    turned r s e f true h = edge-corners (triple_of mesh s) f ∙ (λ i. (Corner (h.0 i), Corner (h.1 i))) ∙ ap (turned_by true) (sym (edge-corners (triple_of mesh r) e))
    turned r s e f false h = edge-corners (triple_of mesh s) f ∙ (λ i. (Corner (h.0 i), Corner (h.1 i))) ∙ ap (turned_by false) (sym (edge-corners (triple_of mesh r) e))

    complete : (r s : ℕ) (e f : Edge) → r < size mesh → s < size mesh → r ≢ s → Shares mesh r e s f → (t : Bool) × (across_of mesh r e ≡ Some (s, f, t))
    complete r s e f hr hs n h =
        let p = ends_of (triple_of mesh r) e in
        let a = there mesh r p (size mesh) s f hs (λ q. n (sym q)) h in
        let b = shares r a.0.0 e a.0.1 a.0.2 a.1 in
        let k : Shares mesh r e a.0.0 a.0.1 = turns-same a.0.2 p (ends_of (triple_of mesh a.0.0) a.0.1) b.2 in
        let at : s ≡ a.0.0 = valid.no_third r s a.0.0 e f a.0.1 hr hs b.0 n (λ q. b.1 (sym q)) h k in
        let by : f ≡ a.0.1 = one_edge s a.0.0 f a.0.1 hs at (pair-trans (ends_of (triple_of mesh s) f) p (ends_of (triple_of mesh a.0.0) a.0.1) (pair-sym p (ends_of (triple_of mesh s) f) h) k) in
        (a.0.2, a.1 ∙ (λ i. Some (sym at i, sym by i, a.0.2)))

    tells : Tells mesh (across_of mesh)
    tells = record {
      distinct = λ r hr. let d = valid.distinct r hr in ((λ e. d.0 (corner-inj _ _ e)), (λ e. d.1 (corner-inj _ _ e)), λ e. d.2 (corner-inj _ _ e));
      same = λ r s e f t h. turned r s e f t (shares r s e f t h).2;
      within = λ r s e f t h. (shares r s e f t h).0;
      apexes = λ r s e f t hr h q.
          let a = shares r s e f t h in
          valid.no_twins r s hr a.0 (λ p. a.1 (sym p)) (one_apex r s e f (turns-same t (ends_of (triple_of mesh r) e) (ends_of (triple_of mesh s) f) a.2) q);
      graded = λ r s e f hr hs h. ⊎_elim
          (λ (p : (eqb r s ≡ true) × (r ≡ s)). let q = one_edge r s e f hr p.1 (shares_of r s e f h) in λ i. level mesh (p.1 i, edge_word (q i)))
          (λ (p : (eqb r s ≡ false) × (r ≢ s)). levels_fit r s e f hr hs p.1 (shares_of r s e f h))
          (eqb_tells r s);
      all = λ r s e f hr hs h. ⊎_elim
          (λ (p : (eqb r s ≡ true) × (r ≡ s)). inl (p.1, one_edge r s e f hr p.1 (shares_of r s e f h)))
          (λ (p : (eqb r s ≡ false) × (r ≢ s)). inr (complete r s e f hr hs p.1 (shares_of r s e f h)))
          (eqb_tells r s);
    }

pub valid_tells : ValidTells
valid_tells mesh valid graded = tells mesh valid graded
