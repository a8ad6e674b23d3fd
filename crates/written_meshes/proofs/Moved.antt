-- The triangles of a written mesh are those of the mesh that it was written from, with every vertex renamed; and vertices of edges that differ stay different.
use Rattle.std.proofs.Common.{◌≡◌, ◌⊎◌, ℕ, zero, suc, ◌<◌, ◌≤◌, Bool, true, false, cond, refl, sym, ap, subst, ◌∙◌, List, [], ◌∷◌, length, arith, inl, inr, ⊎_elim}
use Rattle.std.specs.Prelude.{All, Some, slice_index_or}
use Rattle.std.proofs.lemmas.List.{get_or-map, length-map}
use Rattle.mesh_names.specs.Names.{Name}
use Rattle.mesh_names.specs.Triangles.{Shape, Triple, Triangle, Vertex, Corner, Mid, before, size, triple_of, corner_of, triangle, middle, midpoint}
use Rattle.mesh_names.specs.Forests.{Names, Has, IsLeaf}
use Rattle.mesh_names.specs.Partners.{Across, partner}
use Rattle.mesh_names.proofs.Middles.{middle-swap}
use Rattle.mesh_names.proofs.Levels.{middle-same, not_mid}
use Rattle.mesh_names.proofs.Only.{partner_is_only}
use Rattle.mesh_writer.specs.Numbering.{vertices}
use Rattle.mesh_writer.specs.Numbers.{IsWritten}
use Rattle.mesh_writer.specs.Triples.{numbers}
use Rattle.written_meshes.specs.Renaming.{AreWritten, leaf_at, renamed, renamed_vertex}
use Rattle.written_meshes.proofs.WrittenVertices.{vertex_at, at_number, all_own, own_place, vertices_all, all_written}
use Rattle.written_meshes.proofs.LeafNames.{leaf, each, below}

tail_is : {a b : Bool} {v w : List Bool} → a ∷ v ≡ b ∷ w → v ≡ w
tail_is e = cc

module _ (mesh other : Shape) (x : Across) (count : ℕ) (members : Names) (list : List Name) (is : AreWritten mesh x count members list other) where
  abbrev pub written : List Vertex
  written = vertices mesh count list

  abbrev pub moved : Vertex → Vertex
  moved = renamed_vertex written

  abbrev name : Name → Name
  name = renamed list

  sized : size other ≡ length list
  sized = ap length is.triples ∙ length-map list (numbers mesh written)

  pub inside : (r : ℕ) → r < size other → r < length list
  inside r h = subst (λ (n : ℕ). r < n) sized h

  pub outside : (r : ℕ) → r < length list → r < size other
  outside r h = subst (λ (n : ℕ). r < n) (sym sized) h

  pub leaf_of : (r : ℕ) → r < size other → IsLeaf mesh members (leaf_at list r)
  leaf_of r h = leaf mesh members is.forest list is.is_list r (inside r h)

  pub not_member : (n : Name) → n.0 < size other → Has members (name n) → ⊥
  not_member n h = below mesh members is.forest list is.is_list n (inside n.0 h)

  triple : (r : ℕ) → r < size other → triple_of other r ≡ numbers mesh written (leaf_at list r)
  triple r h = ap (λ (ts : List Triple). slice_index_or ts r []) is.triples ∙ get_or-map (numbers mesh written) list r (0, []) [] (inside r h)

  in_written : (r : ℕ) → r < size other → IsWritten mesh written (leaf_at list r)
  in_written r h = all_written mesh count list r (0, []) (inside r h)

  -- a corner of a macro element of the written mesh has the number of a vertex, which it stands for
  pub first : (r : ℕ) → r < size other → (corner_of (triple_of other r) 0 < length written) × (vertex_at written (corner_of (triple_of other r) 0) ≡ (triangle mesh (leaf_at list r)).0)
  first r h = let t = ap (λ (u : Triple). corner_of u 0) (triple r h) in let a = at_number (triangle mesh (leaf_at list r)).0 written (in_written r h).first in (omega (arith, t, a.0), ap (vertex_at written) t ∙ a.1)

  pub second : (r : ℕ) → r < size other → (corner_of (triple_of other r) 1 < length written) × (vertex_at written (corner_of (triple_of other r) 1) ≡ (triangle mesh (leaf_at list r)).1)
  second r h = let t = ap (λ (u : Triple). corner_of u 1) (triple r h) in let a = at_number (triangle mesh (leaf_at list r)).1 written (in_written r h).second in (omega (arith, t, a.0), ap (vertex_at written) t ∙ a.1)

  pub third : (r : ℕ) → r < size other → (corner_of (triple_of other r) 2 < length written) × (vertex_at written (corner_of (triple_of other r) 2) ≡ (triangle mesh (leaf_at list r)).2)
  third r h = let t = ap (λ (u : Triple). corner_of u 2) (triple r h) in let a = at_number (triangle mesh (leaf_at list r)).2 written (in_written r h).third in (omega (arith, t, a.0), ap (vertex_at written) t ∙ a.1)

  -- ---- triangles
  pub middle-moved : (a b : Vertex) → moved (middle a b) ≡ middle (moved a) (moved b)
  middle-moved a b = by (before b a)
    where
      by : (p : Bool) → moved (cond p (Mid b a) (Mid a b)) ≡ middle (moved a) (moved b)
      by true = middle-swap (moved b) (moved a)
      by false = refl

  abbrev MovesTo : Triangle → Triangle → Type 0
  MovesTo t u = (moved t.0 ≡ u.0) × (moved t.1 ≡ u.1) × (moved t.2 ≡ u.2)

  middle_to : (t u : Triangle) → MovesTo t u → moved (middle t.0 t.1) ≡ middle u.0 u.1
  middle_to t u e = middle-moved t.0 t.1 ∙ (λ i. middle (e.0 i) (e.1 i))

  pub triangle-moved : (r : ℕ) (w : List Bool) → r < size other → MovesTo (triangle other (r, w)) (triangle mesh (name (r, w)))
  triangle-moved r [] h = ((first r h).1, (second r h).1, (third r h).1)
  triangle-moved r (false ∷ w) h = let e = triangle-moved r w h in (e.2, e.0, middle_to (triangle other (r, w)) (triangle mesh (name (r, w))) e)
  triangle-moved r (true ∷ w) h = let e = triangle-moved r w h in (e.1, e.2, middle_to (triangle other (r, w)) (triangle mesh (name (r, w))) e)

  pub midpoint-moved : (n : Name) → n.0 < size other → moved (midpoint (triangle other n)) ≡ midpoint (triangle mesh (name n))
  midpoint-moved n h = middle_to (triangle other n) (triangle mesh (name n)) (triangle-moved n.0 n.1 h)

  -- ---- corners
  abbrev pub IsAt : ℕ → Vertex → Type 0
  IsAt k v = ((j : ℕ) × (j < length written) × (v ≡ Corner j)) ⊎ ((n : Name) × (n.0 < size other) × (length n.1 < k) × (v ≡ midpoint (triangle other n)))

  pub higher : (k m : ℕ) (v : Vertex) → k ≤ m → IsAt k v → IsAt m v
  higher k m v l a = ⊎_elim (λ p. inl p) (λ (p : (n : Name) × (n.0 < size other) × (length n.1 < k) × (v ≡ midpoint (triangle other n))). inr (p.0, p.1, omega (arith, l, p.2), p.3)) a

  pub corners-at : (r : ℕ) (w : List Bool) → r < size other → let t = triangle other (r, w) in IsAt (length w) t.0 × IsAt (length w) t.1 × IsAt (length w) t.2
  corners-at r [] h = (inl (_, (first r h).0, refl), inl (_, (second r h).0, refl), inl (_, (third r h).0, refl))
  corners-at r (false ∷ w) h = let c = corners-at r w h in (higher _ _ _ (omega arith) c.2, higher _ _ _ (omega arith) c.0, inr ((r, w), h, omega arith, refl))
  corners-at r (true ∷ w) h = let c = corners-at r w h in (higher _ _ _ (omega arith) c.1, higher _ _ _ (omega arith) c.2, inr ((r, w), h, omega arith, refl))

  -- ---- each written vertex is a macro vertex, or the middle of a member
  abbrev IsOld : Vertex → Type 0
  IsOld v = ((i : ℕ) × (v ≡ Corner i)) ⊎ ((g : Name) × Has members g × (v ≡ midpoint (triangle mesh g)))

  abbrev IsBorn : ℕ → List Bool → Type 0
  IsBorn r w = (b : Bool) (u : List Bool) → w ≡ b ∷ u → Has members (r, u)

  above : (r : ℕ) (w : List Bool) → Has members (r, w) → IsBorn r w
  above r w h b u e = is.forest.closed r b u (subst (λ (y : List Bool). Has members (r, y)) e h)

  old_corners : (r : ℕ) (w : List Bool) → IsBorn r w → let t = triangle mesh (r, w) in IsOld t.0 × IsOld t.1 × IsOld t.2
  old_corners r [] born = (inl (_, refl), inl (_, refl), inl (_, refl))
  old_corners r (false ∷ w) born = let h : Has members (r, w) = born false w refl in let c = old_corners r w (above r w h) in (c.2, c.0, inr ((r, w), h, refl))
  old_corners r (true ∷ w) born = let h : Has members (r, w) = born true w refl in let c = old_corners r w (above r w h) in (c.1, c.2, inr ((r, w), h, refl))

  all_old : All IsOld written
  all_old = vertices_all IsOld mesh count list (λ i. inl (i, refl)) (λ i d h. let l = each mesh members is.forest list is.is_list i d h in old_corners (slice_index_or list i d).0 (slice_index_or list i d).1 l.born)

  -- a member and a name at or below a leaf have different refinement edges
  pub apart : (g n : Name) → Has members g → n.0 < size other → midpoint (triangle mesh g) ≡ midpoint (triangle mesh (name n)) → ⊥
  apart g n has h e = ⊎_elim
      (λ (p : (g.0 ≡ (name n).0) × (g.1 ≡ (name n).1)). not_member n h (subst (Has members) (λ i. (p.0 i, p.1 i)) has))
      (λ (p : (t : Bool) × (partner x g.0 g.1 ≡ Some (name n, t))). not_member n h (is.partners g.0 g.1 (name n) p.0 has p.1))
      (partner_is_only mesh x is.tells g.0 (name n).0 g.1 (name n).1 (is.forest.rooted g has) (leaf_of n.0 h).rooted e)

  corner_apart : (j : ℕ) (n : Name) → j < length written → n.0 < size other → vertex_at written j ≡ moved (midpoint (triangle other n)) → ⊥
  corner_apart j n hj h e =
      let t = triangle mesh (name n) in
      ⊎_elim
      (λ (p : (i : ℕ) × (vertex_at written j ≡ Corner i)). not_mid mesh p.0 t.0 t.1 (sym p.1 ∙ e ∙ midpoint-moved n h))
      (λ (p : (g : Name) × Has members g × (vertex_at written j ≡ midpoint (triangle mesh g))). apart p.0 n p.1 h (sym p.2 ∙ e ∙ midpoint-moved n h))
      (all_old j (Corner 0) hj)

  -- ---- no two vertices stand for one
  numbered : (m : ℕ) (v u : Vertex) → (j : ℕ) × (j < length written) × (v ≡ Corner j) → IsAt m u → moved v ≡ moved u → v ≡ u
  numbered m v u p b e = ⊎_elim
      (λ (q : (j : ℕ) × (j < length written) × (u ≡ Corner j)). p.2 ∙ ap Corner (own_place written (all_own mesh count list) p.0 q.0 p.1 q.1 (ap moved (sym p.2) ∙ e ∙ ap moved q.2)) ∙ sym q.2)
      (λ (q : (n : Name) × (n.0 < size other) × (length n.1 < m) × (u ≡ midpoint (triangle other n))). absurd (corner_apart p.0 q.0 p.1 q.1 (ap moved (sym p.2) ∙ e ∙ ap moved q.3)))
      b

  pub distinct : (k m : ℕ) (v u : Vertex) → IsAt k v → IsAt m u → moved v ≡ moved u → v ≡ u
  distinct zero m v u a b e = ⊎_elim
      (λ p. numbered m v u p b e)
      (λ (p : (n : Name) × (n.0 < size other) × (length n.1 < 0) × (v ≡ midpoint (triangle other n))). absurd (omega (arith, p.2)))
      a
  distinct (suc k) m v u a b e = ⊎_elim
      (λ p. numbered m v u p b e)
      (λ (p : (n : Name) × (n.0 < size other) × (length n.1 < suc k) × (v ≡ midpoint (triangle other n))). ⊎_elim
      (λ (q : (j : ℕ) × (j < length written) × (u ≡ Corner j)). absurd (corner_apart q.0 p.0 q.1 p.1 (ap moved (sym q.2) ∙ sym e ∙ ap moved p.3)))
      (λ (q : (n : Name) × (n.0 < size other) × (length n.1 < m) × (u ≡ midpoint (triangle other n))).
      let t = triangle other p.0 in
      let s = triangle other q.0 in
      let c = corners-at p.0.0 p.0.1 p.1 in
      let d = corners-at q.0.0 q.0.1 q.1 in
      let low : length p.0.1 ≤ k = omega (arith, p.2) in
      let ends : middle (moved t.0) (moved t.1) ≡ middle (moved s.0) (moved s.1) = sym (middle-moved t.0 t.1) ∙ ap moved (sym p.3) ∙ e ∙ ap moved q.3 ∙ middle-moved s.0 s.1 in
      ⊎_elim
      (λ (z : (moved t.0 ≡ moved s.0) × (moved t.1 ≡ moved s.1)).
      let f : t.0 ≡ s.0 = distinct k (length q.0.1) t.0 s.0 (higher _ _ _ low c.0) d.0 z.0 in
      let g : t.1 ≡ s.1 = distinct k (length q.0.1) t.1 s.1 (higher _ _ _ low c.1) d.1 z.1 in
      p.3 ∙ (λ i. middle (f i) (g i)) ∙ sym q.3)
      (λ (z : (moved t.0 ≡ moved s.1) × (moved t.1 ≡ moved s.0)).
      let f : t.0 ≡ s.1 = distinct k (length q.0.1) t.0 s.1 (higher _ _ _ low c.0) d.1 z.0 in
      let g : t.1 ≡ s.0 = distinct k (length q.0.1) t.1 s.0 (higher _ _ _ low c.1) d.0 z.1 in
      p.3 ∙ (λ i. middle (f i) (g i)) ∙ middle-swap s.1 s.0 ∙ sym q.3)
      (middle-same (moved t.0) (moved t.1) (moved s.0) (moved s.1) ends))
      b)
      a

  pub one_middle : (n m : Name) → n.0 < size other → m.0 < size other → midpoint (triangle mesh (name n)) ≡ midpoint (triangle mesh (name m)) → midpoint (triangle other n) ≡ midpoint (triangle other m)
  one_middle n m hn hm e = distinct (suc (length n.1)) (suc (length m.1)) (midpoint (triangle other n)) (midpoint (triangle other m)) (inr (n, hn, omega arith, refl)) (inr (m, hm, omega arith, refl)) (midpoint-moved n hn ∙ e ∙ sym (midpoint-moved m hm))
