-- Conforming, by partners.
use Rattle.std.proofs.Common.{◌≡◌, ◌⊎◌, ℕ, zero, suc, ◌+◌, ◌<◌, ◌≤◌, Bool, true, false, cond, not, true≢false, refl, sym, ap, ◌∙◌, subst, List, [], ◌∷◌, length, arith, inl, inr, ⊎_elim}
use Rattle.std.specs.Prelude.{Option, Some, None}
use Rattle.std.specs.FinSet.{contains}
use Rattle.mesh_names.specs.Names.{Name}
use Rattle.mesh_names.specs.Triangles.{Vertex, Corner, Triangle, Shape, size, level, triangle, middle, midpoint, IsCorner}
use Rattle.mesh_names.specs.Forests.{Names, Has, IsForest, IsLeaf, Conforms, HangsNone}
use Rattle.mesh_names.specs.Partners.{Edge, Edge0, Edge1, Edge2, Across, Tells, partner, half_partner, top_partner, edge_word}
use Rattle.mesh_names.specs.Conformity.{HoldsPartners, ConformsByPartners}
use Rattle.mesh_names.proofs.Levels.{not_mid}
use Rattle.mesh_names.proofs.Partners.{partners_share}
use Rattle.mesh_names.proofs.Only.{only, far_within, half_step}

is_or_not : (b : Bool) → (b ≡ true) ⊎ (b ≡ false)
is_or_not true = inl refl
is_or_not false = inr refl

both : (b : Bool) → b ≡ true → b ≡ false → ⊥
both b p q = true≢false (sym p ∙ q)

module _ (mesh : Shape) (x : Across) (all : Tells mesh x) (f : Names) (forest : IsForest mesh f) where
  -- a corner of an element is a macro vertex, or the middle of a member
  abbrev In : Vertex → Type 0
  In v = ((i : ℕ) × (v ≡ Corner i)) ⊎ ((s : ℕ) × (u : List Bool) × Has f (s, u) × (v ≡ midpoint (triangle mesh (s, u))))

  abbrev Born : ℕ → List Bool → Type 0
  Born s w = (b : Bool) (u : List Bool) → w ≡ b ∷ u → Has f (s, u)

  parents : (s : ℕ) (w : List Bool) → Has f (s, w) → Born s w
  parents s w h b u e = forest.closed s b u (subst (λ (y : List Bool). Has f (s, y)) e h)

  corners-in : (s : ℕ) (w : List Bool) → Born s w → let t = triangle mesh (s, w) in In t.0 × In t.1 × In t.2
  corners-in s [] born = (inl (_, refl), inl (_, refl), inl (_, refl))
  corners-in s (false ∷ w) born = let h : Has f (s, w) = born false w refl in let c = corners-in s w (parents s w h) in (c.2, c.0, inr (s, w, h, refl))
  corners-in s (true ∷ w) born = let h : Has f (s, w) = born true w refl in let c = corners-in s w (parents s w h) in (c.1, c.2, inr (s, w, h, refl))

  -- ---- closed, so conforming
  module _ (closed : HoldsPartners x f) where
    met : (r : ℕ) (w : List Bool) → r < size mesh → (contains f (r, w) ≡ false) → (s : ℕ) (u : List Bool) → Has f (s, u) → midpoint (triangle mesh (r, w)) ≡ midpoint (triangle mesh (s, u)) → ⊥
    met r w hr out s u h e = ⊎_elim
        (λ (p : (s ≡ r) × (u ≡ w)). both (contains f (r, w)) (subst (λ (y : Name). Has f y) (λ i. (p.0 i, p.1 i)) h) out)
        (λ (p : (t : Bool) × (partner x s u ≡ Some ((r, w), t))). both (contains f (r, w)) (closed s u (r, w) p.0 h p.1) out)
        (only mesh x all s r u w (forest.rooted (s, u) h) hr (sym e))

    no_child : (r : ℕ) (b : Bool) (w : List Bool) → contains f (r, w) ≡ false → contains f (r, b ∷ w) ≡ false
    no_child r b w out = ⊎_elim (λ ins. absurd (both (contains f (r, w)) (forest.closed r b w ins) out)) (λ n. n) (is_or_not (contains f (r, b ∷ w)))

    hangs_not : (r : ℕ) (w : List Bool) → r < size mesh → contains f (r, w) ≡ false → (n : Name) → IsLeaf mesh f n → (a b : Vertex) → middle a b ≡ midpoint (triangle mesh (r, w)) → IsCorner (middle a b) (triangle mesh n) → ⊥
    hangs_not r w hr out n leaf a b e corner =
        let t = triangle mesh n in
        let c = corners-in n.0 n.1 leaf.born in
        let at : (v : Vertex) → In v → middle a b ≡ v → ⊥ = λ v i q. ⊎_elim
        (λ (p : (i : ℕ) × (v ≡ Corner i)). not_mid mesh p.0 a b (sym p.1 ∙ sym q))
        (λ (p : (s : ℕ) × (u : List Bool) × Has f (s, u) × (v ≡ midpoint (triangle mesh (s, u)))). met r w hr out p.0 p.1 p.2 (sym e ∙ q ∙ p.3))
        i in
        ⊎_elim (λ q. at t.0 c.0 q) (λ r. ⊎_elim (λ q. at t.1 c.1 q) (λ q. at t.2 c.2 q) r) corner

    conforms : Conforms mesh f
    conforms = record {
      no_hanging = λ m n lm ln. let t = triangle mesh m in (
        hangs_not m.0 m.1 lm.rooted lm.unsplit n ln t.0 t.1 refl,
        hangs_not m.0 (true ∷ m.1) lm.rooted (no_child m.0 true m.1 lm.unsplit) n ln t.1 t.2 refl,
        hangs_not m.0 (false ∷ m.1) lm.rooted (no_child m.0 false m.1 lm.unsplit) n ln t.2 t.0 refl,
      );
    }

  -- ---- conforming, so closed
  abbrev Found : Vertex → Type 0
  Found v = (n : Name) × IsLeaf mesh f n × IsCorner v (triangle mesh n)

  leaf_at : (r : ℕ) (w : List Bool) → r < size mesh → Born r w → contains f (r, w) ≡ false → IsLeaf mesh f (r, w)
  leaf_at r w hr born out = record { rooted = hr; unsplit = out; born = born }

  born_of : (r : ℕ) (b : Bool) (w : List Bool) → Has f (r, w) → Born r (b ∷ w)
  born_of r b w h c u e = let same : w ≡ u = cc in subst (λ (y : List Bool). Has f (r, y)) same h

  -- below an element with a corner there is a leaf with it
  find_leaf : (k r : ℕ) (w : List Bool) → 24 ≤ length w + k → r < size mesh → Born r w → (v : Vertex) → IsCorner v (triangle mesh (r, w)) → Found v
  find_leaf zero r w long hr born v c = ⊎_elim
      (λ ins. let low : level mesh (r, w) ≤ 23 = forest.shallow (r, w) ins in absurd (omega arith))
      (λ out. ((r, w), leaf_at r w hr born out, c))
      (is_or_not (contains f (r, w)))
  find_leaf (suc k) r w long hr born v c = ⊎_elim
      (λ ins. ⊎_elim
      (λ q. find_leaf k r (false ∷ w) (omega arith) hr (born_of r false w ins) v (inr (inl q)))
      (λ d. ⊎_elim
      (λ q. find_leaf k r (true ∷ w) (omega arith) hr (born_of r true w ins) v (inl q))
      (λ q. find_leaf k r (false ∷ w) (omega arith) hr (born_of r false w ins) v (inl q))
      d)
      c)
      (λ out. ((r, w), leaf_at r w hr born out, c))
      (is_or_not (contains f (r, w)))

  module _ (conform : Conforms mesh f) where
    below : (r : ℕ) (w : List Bool) → Has f (r, w) → Found (midpoint (triangle mesh (r, w)))
    below r w h = find_leaf 24 r (false ∷ w) (omega arith) (forest.rooted (r, w) h) (born_of r false w h) (midpoint (triangle mesh (r, w))) (inr (inr refl))

    corner_as : (a b : Vertex) (t : Triangle) → a ≡ b → IsCorner a t → IsCorner b t
    corner_as a b t e c = subst (λ (y : Vertex). IsCorner y t) e c

    -- an element of a member's edge, whose parent's parent is a member, is a member
    grown : (r : ℕ) (w : List Bool) → Has f (r, w) → (s : ℕ) (d : Bool) (u : List Bool) → s < size mesh → Born s u → midpoint (triangle mesh (s, d ∷ u)) ≡ midpoint (triangle mesh (r, w)) → Has f (s, d ∷ u)
    grown r w h s d u hs born e =
        let n = below r w h in
        let hung : IsCorner (midpoint (triangle mesh (s, d ∷ u))) (triangle mesh n.0) = corner_as _ _ _ (sym e) n.2 in
        ⊎_elim
        (λ up. ⊎_elim (λ ins. ins) (λ out. absurd ((conform.no_hanging (s, d ∷ u) n.0 (leaf_at s (d ∷ u) hs (born_of s d u up) out) n.1).0 hung)) (is_or_not (contains f (s, d ∷ u))))
        (λ out. absurd (side d (conform.no_hanging (s, u) n.0 (leaf_at s u hs born out) n.1) hung))
        (is_or_not (contains f (s, u)))
      where
        side : (d : Bool) {t : Triangle} → HangsNone (triangle mesh (s, u)) t → IsCorner (midpoint (triangle mesh (s, d ∷ u))) t → ⊥
        side true n c = n.1 c
        side false n c = n.2 c

    top_grown : (r : ℕ) (w : List Bool) → Has f (r, w) → (s : ℕ) → s < size mesh → midpoint (triangle mesh (s, [])) ≡ midpoint (triangle mesh (r, w)) → Has f (s, [])
    top_grown r w h s hs e =
        let n = below r w h in
        ⊎_elim (λ ins. ins) (λ out. absurd ((conform.no_hanging (s, []) n.0 (leaf_at s [] hs (λ b u q. absurd (cc)) out) n.1).0 (corner_as _ _ _ (sym e) n.2))) (is_or_not (contains f (s, [])))

    -- what a partner has to be for the claim
    abbrev Held : ℕ → List Bool → Option (Name × Bool) → Type 0
    Held r w None = Unit {0}
    Held r w (Some m) = Has f (r, w) → Has f m.0

    low_grown : (r : ℕ) (w : List Bool) → Has f (r, w) → (s : ℕ) (e : Edge) → s < size mesh → midpoint (triangle mesh (s, edge_word e)) ≡ midpoint (triangle mesh (r, w)) → Has f (s, edge_word e)
    low_grown r w h s Edge0 hs e = grown r w h s true [] hs (λ b u q. absurd (cc)) e
    low_grown r w h s Edge1 hs e = grown r w h s false [] hs (λ b u q. absurd (cc)) e
    low_grown r w h s Edge2 hs e = top_grown r w h s hs e

    held_low : (r : ℕ) (w : List Bool) (o : Option (ℕ × Edge × Bool)) → partner x r w ≡ top_partner o → Held r w (top_partner o)
    held_low r w None e = tt
    held_low r w (Some a) e = λ h. low_grown r w h a.0 a.1 (far_within mesh x all r w (a.0, edge_word a.1) a.2 (forest.rooted (r, w) h) e) (partners_share mesh x all r w (a.0, edge_word a.1) a.2 e)

    held_inner : (r : ℕ) (c : Bool) (w : List Bool) → partner x r (c ∷ c ∷ w) ≡ Some ((r, not c ∷ not c ∷ w), true) → Has f (r, c ∷ c ∷ w) → Has f (r, not c ∷ not c ∷ w)
    held_inner r c w is h =
        let up : Has f (r, w) = forest.closed r c w (forest.closed r c (c ∷ w) h) in
        grown r (c ∷ c ∷ w) h r (not c) (not c ∷ w) (forest.rooted (r, w) up) (born_of r (not c) w up) (partners_share mesh x all r (c ∷ c ∷ w) (r, not c ∷ not c ∷ w) true is)

    held_half : (r : ℕ) (c : Bool) (w : List Bool) (o : Option (Name × Bool)) → partner x r w ≡ o → Held r w o → Held r (c ∷ not c ∷ w) (half_partner c o)
    held_half r c w None e up = tt
    held_half r c w (Some m) e up = λ h.
        let t = m.1 in
        let is : partner x r (c ∷ not c ∷ w) ≡ Some ((m.0.0, cond t (not c) c ∷ cond t c (not c) ∷ m.0.1), t) = half_step mesh x all r c w ∙ ap (half_partner c) e in
        let hr = forest.rooted (r, c ∷ not c ∷ w) h in
        let above : Has f (r, w) = forest.closed r (not c) w (forest.closed r c (not c ∷ w) h) in
        let beside : Has f m.0 = up above in
        grown r (c ∷ not c ∷ w) h m.0.0 (cond t (not c) c) (cond t c (not c) ∷ m.0.1) (far_within mesh x all r (c ∷ not c ∷ w) (m.0.0, cond t (not c) c ∷ cond t c (not c) ∷ m.0.1) t hr is)
        (born_of m.0.0 (cond t c (not c)) m.0.1 beside) (partners_share mesh x all r (c ∷ not c ∷ w) (m.0.0, cond t (not c) c ∷ cond t c (not c) ∷ m.0.1) t is)

    held : (r : ℕ) (w : List Bool) → Held r w (partner x r w)
    held r [] = held_low r [] (x r Edge2) refl
    held r (true ∷ []) = held_low r (true ∷ []) (x r Edge0) refl
    held r (false ∷ []) = held_low r (false ∷ []) (x r Edge1) refl
    held r (false ∷ false ∷ w) = held_inner r false w refl
    held r (true ∷ true ∷ w) = held_inner r true w refl
    held r (true ∷ false ∷ w) = held_half r true w (partner x r w) refl (held r w)
    held r (false ∷ true ∷ w) = held_half r false w (partner x r w) refl (held r w)

    holds : HoldsPartners x f
    holds r w m t h e = let k : Held r w (Some (m, t)) = subst (Held r w) e (held r w) in k h

pub conforms_by_partners : ConformsByPartners
conforms_by_partners mesh x all f forest = (λ c. holds mesh x all f forest c, λ h. conforms mesh x all f forest h)
