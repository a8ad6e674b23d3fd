-- What lies across the edges of a valid mesh, whether it has grades or not.
use Rattle.std.proofs.Common.{◌≡◌, ℕ, ◌<◌, Bool, true, false, cond, eqb, ◌&&◌, refl, sym, ap, ◌∙◌, subst, inl, inr, ⊎_elim, eqb-true}
use Rattle.std.specs.Prelude.{Option, Some, None, option_map}
use Rattle.mesh_names.specs.Triangles.{Triple, Shape, size, triple_of, corner_of}
use Rattle.mesh_names.specs.Partners.{Edge, Edge0, Edge1, Edge2}
use Rattle.mesh_names.specs.Validity.{IsValid, Shares, IsSamePair, across_of, ends_of, match_pair}
use Rattle.compat_check.specs.Partnership.{IsNeighbour}
use Rattle.mesh_names.proofs.Neighbours.{found, there}
use Rattle.compat_check.proofs.Links.{same_some}
use Rattle.compat_check.proofs.Numbers.{pair_trans}
use Rattle.compat_check.proofs.Pairings.{same_pair_back}

-- q is p, the other way round where t is true
abbrev pub Turns : Bool → ℕ × ℕ → ℕ × ℕ → Type 0
Turns t p q = (q.0 ≡ cond t p.1 p.0) × (q.1 ≡ cond t p.0 p.1)

pub turns_same : (t : Bool) (p q : ℕ × ℕ) → Turns t p q → IsSamePair p q
turns_same true p q h = inr (sym h.1, sym h.0)
turns_same false p q h = inl (sym h.0, sym h.1)

both_true : (a b : Bool) → (a && b) ≡ true → (a ≡ true) × (b ≡ true)
both_true true b e = (refl, e)
both_true false b e = absurd (cc)

match_by : (p q : ℕ × ℕ) (t a b : Bool) → (a ≡ true → Turns false p q) → (b ≡ true → Turns true p q) → cond a (Some false) (cond b (Some true) None) ≡ Some t → Turns t p q
match_by p q t true b f g h = subst (λ (u : Bool). Turns u p q) (same_some false t (Some t) (sym h) refl) (f refl)
match_by p q t false true f g h = subst (λ (u : Bool). Turns u p q) (same_some true t (Some t) (sym h) refl) (g refl)
match_by p q t false false f g h = absurd (cc)

match_turns : (p q : ℕ × ℕ) (t : Bool) → match_pair p q ≡ Some t → Turns t p q
match_turns p q t e = match_by p q t (eqb p.0 q.0 && eqb p.1 q.1) (eqb p.0 q.1 && eqb p.1 q.0)
    (λ h. let k = both_true (eqb p.0 q.0) (eqb p.1 q.1) h in (sym (eqb-true p.0 q.0 k.0), sym (eqb-true p.1 q.1 k.1)))
    (λ h. let k = both_true (eqb p.0 q.1) (eqb p.1 q.0) h in (sym (eqb-true p.1 q.0 k.1), sym (eqb-true p.0 q.1 k.0)))
    e

abbrev pub NumbersDistinct : Triple → Type 0
NumbersDistinct t = (corner_of t 0 ≡ corner_of t 1 → ⊥) × (corner_of t 1 ≡ corner_of t 2 → ⊥) × (corner_of t 0 ≡ corner_of t 2 → ⊥)

-- two edges of one element have different ends
pub one_edge : (t : Triple) → NumbersDistinct t → (e f : Edge) → IsSamePair (ends_of t e) (ends_of t f) → e ≡ f
one_edge t d Edge0 Edge0 s = refl
one_edge t d Edge1 Edge1 s = refl
one_edge t d Edge2 Edge2 s = refl
one_edge t d Edge0 Edge1 s = absurd (⊎_elim (λ p. d.1 p.0) (λ p. d.0 (sym p.0)) s)
one_edge t d Edge0 Edge2 s = absurd (⊎_elim (λ p. d.0 (sym p.0)) (λ p. d.2 (sym p.1)) s)
one_edge t d Edge1 Edge0 s = absurd (⊎_elim (λ p. d.1 (sym p.0)) (λ p. d.0 p.1) s)
one_edge t d Edge1 Edge2 s = absurd (⊎_elim (λ p. d.2 (sym p.0)) (λ p. d.1 (sym p.0)) s)
one_edge t d Edge2 Edge0 s = absurd (⊎_elim (λ p. d.0 p.0) (λ p. d.2 p.0) s)
one_edge t d Edge2 Edge1 s = absurd (⊎_elim (λ p. d.2 p.0) (λ p. d.1 p.1) s)

module _ (mesh : Shape) (valid : IsValid mesh) where
  pub across_found : (r s : ℕ) (e f : Edge) (t : Bool) → across_of mesh r e ≡ Some (s, f, t) → (s < size mesh) × (s ≡ r → ⊥) × Turns t (ends_of (triple_of mesh r) e) (ends_of (triple_of mesh s) f)
  across_found r s e f t h =
      let a = found mesh r (ends_of (triple_of mesh r) e) (size mesh) (s, f, t) h in
      (a.0, a.1, match_turns (ends_of (triple_of mesh r) e) (ends_of (triple_of mesh s) f) t a.2)

  pub across_all : (r s : ℕ) (e f : Edge) → r < size mesh → s < size mesh → (r ≡ s → ⊥) → Shares mesh r e s f → (t : Bool) × (across_of mesh r e ≡ Some (s, f, t))
  across_all r s e f hr hs n h =
      let p = ends_of (triple_of mesh r) e in
      let a = there mesh r p (size mesh) s f hs (λ q. n (sym q)) h in
      let b = across_found r a.0.0 e a.0.1 a.0.2 a.1 in
      let k : Shares mesh r e a.0.0 a.0.1 = turns_same a.0.2 p (ends_of (triple_of mesh a.0.0) a.0.1) b.2 in
      let at : s ≡ a.0.0 = valid.no_third r s a.0.0 e f a.0.1 hr hs b.0 n (λ q. b.1 (sym q)) h k in
      let both : Shares mesh s f a.0.0 a.0.1 = pair_trans (ends_of (triple_of mesh s) f) p (ends_of (triple_of mesh a.0.0) a.0.1) (same_pair_back p (ends_of (triple_of mesh s) f) h) k in
      let by : f ≡ a.0.1 = one_edge (triple_of mesh s) (valid.distinct s hs) f a.0.1 (subst (λ (y : ℕ). Shares mesh s f y a.0.1) (sym at) both) in
      (a.0.2, a.1 ∙ (λ i. Some (sym at i, sym by i, a.0.2)))

-- the element that lies across an edge has the edge, and is the only one
pub neighbour_shares : (mesh : Shape) → IsValid mesh → (r : ℕ) (e : Edge) (a : ℕ × Edge × Bool) → across_of mesh r e ≡ Some a → IsNeighbour mesh r e a.0
neighbour_shares mesh valid r e a is =
    let h = across_found mesh valid r a.0 e a.1 a.2 is in
    record { inside = h.0; other = h.1; edge = a.1; shares = turns_same a.2 (ends_of (triple_of mesh r) e) (ends_of (triple_of mesh a.0) a.1) h.2 }

pub only_neighbour : (mesh : Shape) → IsValid mesh → (r : ℕ) (e : Edge) → r < size mesh → (s : ℕ) → IsNeighbour mesh r e s → (o : Option ℕ) → o ≡ option_map (λ (a : ℕ × Edge × Bool). a.0) (across_of mesh r e) → o ≡ Some s
only_neighbour mesh valid r e hr s n o is =
    let a = across_all mesh valid r s e n.edge hr n.inside (λ h. n.other (sym h)) n.shares in
    is ∙ ap (option_map (λ (a : ℕ × Edge × Bool). a.0)) a.1
