-- A name has at most one other name with its refinement edge.
use Rattle.std.proofs.Common.{◌≡◌, ◌⊎◌, ℕ, suc, ◌+◌, ◌<◌, Bool, true, false, cond, not, refl, sym, ap, ◌∙◌, subst, List, [], ◌∷◌, length, arith, inl, inr, ⊎_elim}
use Rattle.std.specs.Prelude.{Option, Some, None}
use Rattle.mesh_names.specs.Names.{Name}
use Rattle.mesh_names.specs.Triangles.{Vertex, Corner, Triangle, Shape, size, level, triangle, child_triangle, middle, midpoint}
use Rattle.mesh_names.specs.Partners.{Edge, Edge0, Edge1, Edge2, Across, Tells, Distinct, PartnerIsOnly, partner, half_partner, top_partner, edge_at, edge_word, turned_by}
use Rattle.mesh_names.proofs.Middles.{middle-swap}
use Rattle.mesh_names.proofs.Partners.{Same, partners}
use Rattle.mesh_names.proofs.Levels.{middle-same, From, corners-from, not_mid, levels_apart, crossed, Short, short_0, short_1, short_long}

-- the older end of the edge of a name two letters below t
abbrev older : Bool → Bool → Triangle → Vertex
older false false t = t.2
older true false t = t.0
older false true t = t.1
older true true t = t.2

older-ends : (mesh : Shape) (r : ℕ) (c a : Bool) (w : List Bool) → midpoint (triangle mesh (r, c ∷ a ∷ w)) ≡ middle (older c a (triangle mesh (r, w))) (midpoint (triangle mesh (r, w)))
older-ends mesh r false false w = let t = triangle mesh (r, w) in middle-swap (midpoint t) t.2
older-ends mesh r true false w = refl
older-ends mesh r false true w = let t = triangle mesh (r, w) in middle-swap (midpoint t) t.1
older-ends mesh r true true w = refl

-- one triangle: the older end says the letters, or those of the other inner one
abbrev InOne : Bool → Bool → Bool → Bool → Type 0
InOne c a d b = ((c ≡ d) × (a ≡ b)) ⊎ ((c ≡ a) × (d ≡ not c) × (b ≡ not c))

in_one : (c a d b : Bool) (t : Triangle) → Distinct t → older c a t ≡ older d b t → InOne c a d b
in_one false false false false t h e = inl (refl, refl)
in_one false false true true t h e = inr (refl, refl, refl)
in_one true true false false t h e = inr (refl, refl, refl)
in_one true true true true t h e = inl (refl, refl)
in_one true false true false t h e = inl (refl, refl)
in_one false true false true t h e = inl (refl, refl)
in_one false false true false t h e = absurd (h.2 (sym e))
in_one false false false true t h e = absurd (h.1 (sym e))
in_one true true true false t h e = absurd (h.2 (sym e))
in_one true true false true t h e = absurd (h.1 (sym e))
in_one true false false false t h e = absurd (h.2 e)
in_one true false true true t h e = absurd (h.2 e)
in_one true false false true t h e = absurd (h.0 e)
in_one false true false false t h e = absurd (h.1 e)
in_one false true true true t h e = absurd (h.1 e)
in_one false true true false t h e = absurd (h.0 (sym e))

-- two partners: the older end is an end of their edge
abbrev InTwo : Bool → Bool → Bool → Bool → Bool → Type 0
InTwo t c a d b = (a ≡ not c) × (d ≡ cond t (not c) c) × (b ≡ cond t c (not c))

in_two : (t c a d b : Bool) (u v : Triangle) → Distinct u → Distinct v → (u.2 ≡ v.2 → ⊥) → edge_at Edge2 v ≡ turned_by t (edge_at Edge2 u) → older c a u ≡ older d b v → InTwo t c a d b
in_two t false false false false u v h k n e q = absurd (n q)
in_two t false false true true u v h k n e q = absurd (n q)
in_two t true true false false u v h k n e q = absurd (n q)
in_two t true true true true u v h k n e q = absurd (n q)
in_two true false false true false u v h k n e q = absurd (h.1 (sym (q ∙ (λ i. (e i).0))))
in_two false false false true false u v h k n e q = absurd (h.2 (sym (q ∙ (λ i. (e i).0))))
in_two true false false false true u v h k n e q = absurd (h.2 (sym (q ∙ (λ i. (e i).1))))
in_two false false false false true u v h k n e q = absurd (h.1 (sym (q ∙ (λ i. (e i).1))))
in_two true true true true false u v h k n e q = absurd (h.1 (sym (q ∙ (λ i. (e i).0))))
in_two false true true true false u v h k n e q = absurd (h.2 (sym (q ∙ (λ i. (e i).0))))
in_two true true true false true u v h k n e q = absurd (h.2 (sym (q ∙ (λ i. (e i).1))))
in_two false true true false true u v h k n e q = absurd (h.1 (sym (q ∙ (λ i. (e i).1))))
in_two true true false false false u v h k n e q = absurd (k.1 ((λ i. (e i).1) ∙ q))
in_two false true false false false u v h k n e q = absurd (k.2 ((λ i. (e i).0) ∙ q))
in_two true true false true true u v h k n e q = absurd (k.1 ((λ i. (e i).1) ∙ q))
in_two false true false true true u v h k n e q = absurd (k.2 ((λ i. (e i).0) ∙ q))
in_two true false true false false u v h k n e q = absurd (k.2 ((λ i. (e i).0) ∙ q))
in_two false false true false false u v h k n e q = absurd (k.1 ((λ i. (e i).1) ∙ q))
in_two true false true true true u v h k n e q = absurd (k.2 ((λ i. (e i).0) ∙ q))
in_two false false true true true u v h k n e q = absurd (k.1 ((λ i. (e i).1) ∙ q))
in_two true true false true false u v h k n e q = absurd (h.0 (q ∙ (λ i. (e i).0)))
in_two false true false true false u v h k n e q = (refl, refl, refl)
in_two true true false false true u v h k n e q = (refl, refl, refl)
in_two false true false false true u v h k n e q = absurd (h.0 (q ∙ (λ i. (e i).1)))
in_two true false true true false u v h k n e q = (refl, refl, refl)
in_two false false true true false u v h k n e q = absurd (h.0 (sym (q ∙ (λ i. (e i).0))))
in_two true false true false true u v h k n e q = absurd (h.0 (sym (q ∙ (λ i. (e i).1))))
in_two false false true false true u v h k n e q = (refl, refl, refl)

module _ (mesh : Shape) (x : Across) (all : Tells mesh x) where
  -- the corners of an element are three
  new_mid : (r : ℕ) (w : List Bool) (v : Vertex) → r < size mesh → From mesh r w v → v ≡ midpoint (triangle mesh (r, w)) → ⊥
  new_mid r w v hr f e =
      let t = triangle mesh (r, w) in
      ⊎_elim (λ (p : (i : ℕ) × (v ≡ Corner i)). not_mid mesh p.0 t.0 t.1 (sym p.1 ∙ e))
      (λ (p : (u : List Bool) × (length u < length w) × (v ≡ midpoint (triangle mesh (r, u)))). let same : level mesh (r, p.0) ≡ level mesh (r, w) = levels_apart mesh x all (r, p.0) (r, w) hr hr (sym p.2 ∙ e) in absurd (omega (arith, p.1)))
      f

  distinct : (r : ℕ) (w : List Bool) → r < size mesh → Distinct (triangle mesh (r, w))
  distinct r [] hr = all.distinct r hr
  distinct r (false ∷ w) hr = let d = distinct r w hr in let f = corners-from mesh r w in ((λ e. d.2 (sym e)), new_mid r w _ hr f.0, new_mid r w _ hr f.2)
  distinct r (true ∷ w) hr = let d = distinct r w hr in let f = corners-from mesh r w in (d.1, new_mid r w _ hr f.2, new_mid r w _ hr f.1)

  -- a partner is of the mesh, and has another apex
  abbrev pub Far : ℕ → List Bool → Option (Name × Bool) → Type 0
  Far r w None = Unit {0}
  Far r w (Some m) = (m.0.0 < size mesh) × ((triangle mesh (r, w)).2 ≡ (triangle mesh m.0).2 → ⊥)

  far_lows : (r : ℕ) (e : Edge) (o : Option (ℕ × Edge × Bool)) → r < size mesh → x r e ≡ o → Far r (edge_word e) (top_partner o)
  far_lows r e None hr h = tt
  far_lows r e (Some a) hr h = (all.within r a.0 e a.1 a.2 h, all.apexes r a.0 e a.1 a.2 hr h)

  far_inner : (r : ℕ) (w : List Bool) → r < size mesh → let t = triangle mesh (r, w) in middle t.2 t.0 ≡ middle t.1 t.2 → ⊥
  far_inner r w hr e = let t = triangle mesh (r, w) in let d = distinct r w hr in ⊎_elim (λ p. d.1 (sym p.0)) (λ p. d.0 p.1) (middle-same t.2 t.0 t.1 t.2 e)

  far_halves : (r : ℕ) (c : Bool) (w : List Bool) (o : Option (Name × Bool)) → r < size mesh → Same mesh r w o → Far r w o → Far r (c ∷ not c ∷ w) (half_partner c o)
  far_halves r c w None hr h f = tt
  far_halves r c w (Some m) hr h f = (f.0, by c m.1 (triangle mesh (r, w)) (triangle mesh m.0) (distinct r w hr) h f.1)
    where
      by : (c t : Bool) (u v : Triangle) → Distinct u → edge_at Edge2 v ≡ turned_by t (edge_at Edge2 u) → (u.2 ≡ v.2 → ⊥) →
          (child_triangle (child_triangle u (not c)) c).2 ≡ (child_triangle (child_triangle v (cond t c (not c))) (cond t (not c) c)).2 → ⊥
      by true true u v d e n q = ⊎_elim (λ p. d.2 (sym (p.0 ∙ (λ i. (e i).1)))) (λ p. n p.0) (middle-same u.2 u.0 v.1 v.2 q)
      by true false u v d e n q = ⊎_elim (λ p. n p.0) (λ p. d.2 (sym (p.0 ∙ (λ i. (e i).0)))) (middle-same u.2 u.0 v.2 v.0 q)
      by false true u v d e n q = ⊎_elim (λ p. d.1 (sym (p.1 ∙ (λ i. (e i).0)))) (λ p. n p.1) (middle-same u.1 u.2 v.2 v.0 q)
      by false false u v d e n q = ⊎_elim (λ p. n p.1) (λ p. d.1 (sym (p.1 ∙ (λ i. (e i).1)))) (middle-same u.1 u.2 v.1 v.2 q)

  pub far : (r : ℕ) (w : List Bool) → r < size mesh → Far r w (partner x r w)
  far r [] hr = far_lows r Edge2 (x r Edge2) hr refl
  far r (true ∷ []) hr = far_lows r Edge0 (x r Edge0) hr refl
  far r (false ∷ []) hr = far_lows r Edge1 (x r Edge1) hr refl
  far r (false ∷ false ∷ w) hr = (hr, far_inner r w hr)
  far r (true ∷ true ∷ w) hr = (hr, λ e. far_inner r w hr (sym e))
  far r (true ∷ false ∷ w) hr = far_halves r true w (partner x r w) hr (partners mesh x all r w) (far r w hr)
  far r (false ∷ true ∷ w) hr = far_halves r false w (partner x r w) hr (partners mesh x all r w) (far r w hr)

  abbrev Only : ℕ → ℕ → List Bool → List Bool → Type 0
  Only r s v w = ((r ≡ s) × (v ≡ w)) ⊎ ((t : Bool) × (partner x r v ≡ Some ((s, w), t)))

  inner_partner : (r : ℕ) (c : Bool) (w : List Bool) → partner x r (c ∷ c ∷ w) ≡ Some ((r, not c ∷ not c ∷ w), true)
  inner_partner r true w = refl
  inner_partner r false w = refl

  pub half_step : (r : ℕ) (c : Bool) (w : List Bool) → partner x r (c ∷ not c ∷ w) ≡ half_partner c (partner x r w)
  half_step r true w = refl
  half_step r false w = refl

  older_from : (r : ℕ) (c a : Bool) (w : List Bool) → From mesh r w (older c a (triangle mesh (r, w)))
  older_from r false false w = (corners-from mesh r w).2
  older_from r true false w = (corners-from mesh r w).0
  older_from r false true w = (corners-from mesh r w).1
  older_from r true true w = (corners-from mesh r w).2

  step_same : (r s : ℕ) (c a d b : Bool) (v w : List Bool) → r < size mesh → (r ≡ s) × (v ≡ w) → older c a (triangle mesh (r, v)) ≡ older d b (triangle mesh (s, w)) → Only r s (c ∷ a ∷ v) (d ∷ b ∷ w)
  step_same r s c a d b v w hr same e = ⊎_elim
      (λ (p : (c ≡ d) × (a ≡ b)). inl (same.0, λ i. p.0 i ∷ p.1 i ∷ same.1 i))
      (λ (p : (c ≡ a) × (d ≡ not c) × (b ≡ not c)). inr (true, (λ i. partner x r (c ∷ sym p.0 i ∷ v)) ∙ inner_partner r c v ∙ (λ i. Some ((same.0 i, sym p.1 i ∷ sym p.2 i ∷ same.1 i), true))))
      (in_one c a d b (triangle mesh (r, v)) (distinct r v hr) (e ∙ (λ i. older d b (triangle mesh (sym same.0 i, sym same.1 i)))))

  step_partner : (r s : ℕ) (c a d b : Bool) (v w : List Bool) → r < size mesh → s < size mesh → (m : (t : Bool) × (partner x r v ≡ Some ((s, w), t))) → older c a (triangle mesh (r, v)) ≡ older d b (triangle mesh (s, w)) → Only r s (c ∷ a ∷ v) (d ∷ b ∷ w)
  step_partner r s c a d b v w hr hs m e =
      let edge : Same mesh r v (Some ((s, w), m.0)) = subst (Same mesh r v) m.1 (partners mesh x all r v) in
      let apart : Far r v (Some ((s, w), m.0)) = subst (Far r v) m.1 (far r v hr) in
      let p = in_two m.0 c a d b (triangle mesh (r, v)) (triangle mesh (s, w)) (distinct r v hr) (distinct s w hs) apart.1 edge e in
      inr (m.0, (λ i. partner x r (c ∷ p.0 i ∷ v)) ∙ half_step r c v ∙ ap (half_partner c) m.1 ∙ (λ i. Some ((s, sym p.1 i ∷ sym p.2 i ∷ w), m.0)))

  partner_word : (r : ℕ) (e : Edge) → partner x r (edge_word e) ≡ top_partner (x r e)
  partner_word r Edge0 = refl
  partner_word r Edge1 = refl
  partner_word r Edge2 = refl

  short_only : (r s : ℕ) (v w : List Bool) → Short mesh v → Short mesh w → r < size mesh → s < size mesh → midpoint (triangle mesh (r, v)) ≡ midpoint (triangle mesh (s, w)) → Only r s v w
  short_only r s v w h k hr hs =
      subst (λ (y : List Bool). midpoint (triangle mesh (r, y)) ≡ midpoint (triangle mesh (s, w)) → Only r s y w) h.1
      (subst (λ (z : List Bool). midpoint (triangle mesh (r, edge_word h.0)) ≡ midpoint (triangle mesh (s, z)) → Only r s (edge_word h.0) z) k.1
      (λ e. ⊎_elim
      (λ (p : (r ≡ s) × (h.0 ≡ k.0)). inl (p.0, ap edge_word p.1))
      (λ (p : (t : Bool) × (x r h.0 ≡ Some (s, k.0, t))). inr (p.0, partner_word r h.0 ∙ ap top_partner p.1))
      (all.all r s h.0 k.0 hr hs e)))

  pub only : (r s : ℕ) (v w : List Bool) → r < size mesh → s < size mesh → midpoint (triangle mesh (r, v)) ≡ midpoint (triangle mesh (s, w)) → Only r s v w
  only r s [] [] hr hs e = short_only r s [] [] (short_0 mesh) (short_0 mesh) hr hs e
  only r s [] (d ∷ []) hr hs e = short_only r s [] (d ∷ []) (short_0 mesh) (short_1 mesh d) hr hs e
  only r s [] (d ∷ b ∷ w) hr hs e = absurd (short_long mesh r s [] d b w (short_0 mesh) e)
  only r s (c ∷ []) [] hr hs e = short_only r s (c ∷ []) [] (short_1 mesh c) (short_0 mesh) hr hs e
  only r s (c ∷ []) (d ∷ []) hr hs e = short_only r s (c ∷ []) (d ∷ []) (short_1 mesh c) (short_1 mesh d) hr hs e
  only r s (c ∷ []) (d ∷ b ∷ w) hr hs e = absurd (short_long mesh r s (c ∷ []) d b w (short_1 mesh c) e)
  only r s (c ∷ a ∷ v) [] hr hs e = absurd (short_long mesh s r [] c a v (short_0 mesh) (sym e))
  only r s (c ∷ a ∷ v) (d ∷ []) hr hs e = absurd (short_long mesh s r (d ∷ []) c a v (short_1 mesh d) (sym e))
  only r s (c ∷ a ∷ v) (d ∷ b ∷ w) hr hs e = ⊎_elim
      (λ (p : (older c a (triangle mesh (r, v)) ≡ older d b (triangle mesh (s, w))) × (midpoint (triangle mesh (r, v)) ≡ midpoint (triangle mesh (s, w)))).
      ⊎_elim (λ same. step_same r s c a d b v w hr same p.0) (λ m. step_partner r s c a d b v w hr hs m p.0) (only r s v w hr hs p.1))
      (λ (p : (older c a (triangle mesh (r, v)) ≡ midpoint (triangle mesh (s, w))) × (midpoint (triangle mesh (r, v)) ≡ older d b (triangle mesh (s, w)))).
      absurd (crossed mesh (suc (length v + length w)) r s v w (omega arith) (λ f g l q. levels_apart mesh x all (r, f) (s, g) hr hs q) (older c a (triangle mesh (r, v))) (older d b (triangle mesh (s, w))) (older_from r c a v) (older_from s d b w) p.0 p.1))
      (middle-same (older c a (triangle mesh (r, v))) (midpoint (triangle mesh (r, v))) (older d b (triangle mesh (s, w))) (midpoint (triangle mesh (s, w))) (sym (older-ends mesh r c a v) ∙ e ∙ older-ends mesh s d b w))

pub far_within : (mesh : Shape) (x : Across) (all : Tells mesh x) (r : ℕ) (w : List Bool) (m : Name) (t : Bool) → r < size mesh → partner x r w ≡ Some (m, t) → m.0 < size mesh
far_within mesh x all r w m t hr e = let far_m : Far mesh x all r w (Some (m, t)) = subst (Far mesh x all r w) e (far mesh x all r w hr) in far_m.0

pub partner_is_only : PartnerIsOnly
partner_is_only mesh x all r s v w hr hs e = only mesh x all r s v w hr hs e
