-- The elements of a written mesh are valid, and the levels of its leaves fit as their grades.
use Rattle.std.proofs.Common.{◌≡◌, ℕ, ◌+◌, ◌<◌, Bool, true, false, refl, sym, ap, subst, ◌∙◌, List, [], ◌∷◌, map, length, arith, inl, inr, ⊎_elim, true≢false}
use Rattle.std.specs.Prelude.{Some}
use Rattle.std.proofs.lemmas.List.{get_or-map}
use Rattle.mesh_names.specs.Names.{Name}
use Rattle.mesh_names.specs.Triangles.{Shape, Triple, Triangle, Vertex, Corner, size, level, grade_of, triple_of, corner_of, triangle, midpoint}
use Rattle.mesh_names.specs.Forests.{Names}
use Rattle.mesh_names.specs.Partners.{Across, Distinct, Edge, Edge0, Edge1, Edge2, Tells, edge_word, partner}
use Rattle.mesh_names.specs.Validity.{HasCorner, IsGraded, IsTwin, IsValid, Shares, is_refined}
use Rattle.mesh_names.proofs.Levels.{From, corners-from, levels_apart, not_mid}
use Rattle.mesh_names.proofs.Only.{Far, far, partner_is_only}
use Rattle.mesh_names.proofs.Neighbours.{some_inj}
use Rattle.written_meshes.specs.Renaming.{AreWritten, WrittenFits, leaf_at, renamed}
use Rattle.written_meshes.proofs.LeafNames.{one}
use Rattle.written_meshes.proofs.WrittenVertices.{vertex_at}
use Rattle.written_meshes.proofs.Moved.{first, second, third, inside, leaf_of, moved, midpoint-moved, written}
use Rattle.written_meshes.proofs.SharedEdges.{shared_middle}

-- ---- the corners of a name are three
module _ (mesh : Shape) (x : Across) (tells : Tells mesh x) where
  newer : (r : ℕ) (w : List Bool) (v : Vertex) → r < size mesh → From mesh r w v → v ≡ midpoint (triangle mesh (r, w)) → ⊥
  newer r w v hr f e =
      let t = triangle mesh (r, w) in
      ⊎_elim (λ (p : (i : ℕ) × (v ≡ Corner i)). not_mid mesh p.0 t.0 t.1 (sym p.1 ∙ e))
      (λ (p : (u : List Bool) × (length u < length w) × (v ≡ midpoint (triangle mesh (r, u)))). let same : level mesh (r, p.0) ≡ level mesh (r, w) = levels_apart mesh x tells (r, p.0) (r, w) hr hr (sym p.2 ∙ e) in absurd (omega (arith, p.1)))
      f

  three : (r : ℕ) (w : List Bool) → r < size mesh → Distinct (triangle mesh (r, w))
  three r [] hr = tells.distinct r hr
  three r (false ∷ w) hr = let d = three r w hr in let f = corners-from mesh r w in ((λ e. d.2 (sym e)), newer r w _ hr f.0, newer r w _ hr f.2)
  three r (true ∷ w) hr = let d = three r w hr in let f = corners-from mesh r w in (d.1, newer r w _ hr f.2, newer r w _ hr f.1)

-- the vertex across an edge
abbrev facing : Edge → Triple → ℕ
facing Edge0 t = corner_of t 0
facing Edge1 t = corner_of t 1
facing Edge2 t = corner_of t 2

which : (t : Triple) (v : ℕ) → HasCorner t v → (e : Edge) × (v ≡ facing e t)
which t v h = ⊎_elim (λ a. (Edge0, a)) (λ b. ⊎_elim (λ a. (Edge1, a)) (λ a. (Edge2, a)) b) h

module _ (mesh other : Shape) (x : Across) (count : ℕ) (members : Names) (list : List Name) (is : AreWritten mesh x count members list other) where
  abbrev name : Name → Name
  name = renamed list

  abbrev top : ℕ → ℕ
  top r = level mesh (leaf_at list r)

  abbrev at : ℕ → Triangle
  at r = triangle mesh (leaf_at list r)

  -- vertices of one number are one
  one_vertex : {j k : ℕ} → j ≡ k → vertex_at (written mesh other x count members list is) j ≡ vertex_at (written mesh other x count members list is) k
  one_vertex e = ap (vertex_at (written mesh other x count members list is)) e

  apart : (r : ℕ) → r < size other → let t = triple_of other r in (corner_of t 0 ≡ corner_of t 1 → ⊥) × (corner_of t 1 ≡ corner_of t 2 → ⊥) × (corner_of t 0 ≡ corner_of t 2 → ⊥)
  apart r h =
      let l = leaf_of mesh other x count members list is r h in
      let d = three mesh x is.tells (leaf_at list r).0 (leaf_at list r).1 l.rooted in
      let a = first mesh other x count members list is r h in
      let b = second mesh other x count members list is r h in
      let c = third mesh other x count members list is r h in
      ((λ e. d.0 (sym a.1 ∙ one_vertex e ∙ b.1)), (λ e. d.1 (sym b.1 ∙ one_vertex e ∙ c.1)), (λ e. d.2 (sym a.1 ∙ one_vertex e ∙ c.1)))

  -- ---- shared edges
  rooted : (r : ℕ) (w : List Bool) → r < size other → (name (r, w)).0 < size mesh
  rooted r w h = (leaf_of mesh other x count members list is r h).rooted

  same_edge : (r s : ℕ) (e f : Edge) → r < size other → s < size other → Shares other r e s f → midpoint (triangle mesh (name (r, edge_word e))) ≡ midpoint (triangle mesh (name (s, edge_word f)))
  same_edge r s e f hr hs h =
      sym (midpoint-moved mesh other x count members list is (r, edge_word e) hr) ∙ ap (moved mesh other x count members list is) (shared_middle other r s e f h) ∙ midpoint-moved mesh other x count members list is (s, edge_word f) hs

  pub heights : (r s : ℕ) (e f : Edge) → r < size other → s < size other → Shares other r e s f → top r + length (edge_word e) ≡ top s + length (edge_word f)
  heights r s e f hr hs h =
      let same = levels_apart mesh x is.tells (name (r, edge_word e)) (name (s, edge_word f)) (rooted r (edge_word e) hr) (rooted s (edge_word f) hs) (same_edge r s e f hr hs h) in
      let a = deep r e in
      let b = deep s f in
      omega (arith, same, a, b)
    where
      deep : (r : ℕ) (e : Edge) → level mesh (name (r, edge_word e)) ≡ top r + length (edge_word e)
      deep r Edge0 = omega arith
      deep r Edge1 = omega arith
      deep r Edge2 = omega arith

  partners : (r s : ℕ) (e f : Edge) → r < size other → s < size other → (r ≡ s → ⊥) → Shares other r e s f → (t : Bool) × (partner x (name (r, edge_word e)).0 (name (r, edge_word e)).1 ≡ Some (name (s, edge_word f), t))
  partners r s e f hr hs n h = ⊎_elim
      (λ (p : ((name (r, edge_word e)).0 ≡ (name (s, edge_word f)).0) × ((name (r, edge_word e)).1 ≡ (name (s, edge_word f)).1)). absurd (n (alone r s (edge_word e) (edge_word f) hr hs (λ i. (p.0 i, p.1 i)))))
      (λ (p : (t : Bool) × (partner x (name (r, edge_word e)).0 (name (r, edge_word e)).1 ≡ Some (name (s, edge_word f), t))). p)
      (partner_is_only mesh x is.tells (name (r, edge_word e)).0 (name (s, edge_word f)).0 (name (r, edge_word e)).1 (name (s, edge_word f)).1 (rooted r (edge_word e) hr) (rooted s (edge_word f) hs) (same_edge r s e f hr hs h))
    where
      alone : (r s : ℕ) (v w : List Bool) → r < size other → s < size other → name (r, v) ≡ name (s, w) → r ≡ s
      alone r s v w hr hs e = ap (λ (q : Name). q.0) (one mesh members is.forest list is.is_list (r, v) (s, w) (inside mesh other x count members list is r hr) (inside mesh other x count members list is s hs) e)

  no_third : (r s q : ℕ) (e f g : Edge) → r < size other → s < size other → q < size other → (r ≡ s → ⊥) → (r ≡ q → ⊥) → Shares other r e s f → Shares other r e q g → s ≡ q
  no_third r s q e f g hr hs hq ns nq hf hg =
      let a = partners r s e f hr hs ns hf in
      let b = partners r q e g hr hq nq hg in
      let same : name (s, edge_word f) ≡ name (q, edge_word g) = λ i. (some_inj (name (s, edge_word f), a.0) (name (q, edge_word g), b.0) (sym a.1 ∙ b.1) i).0 in
      ap (λ (m : Name). m.0) (one mesh members is.forest list is.is_list (s, edge_word f) (q, edge_word g) (inside mesh other x count members list is s hs) (inside mesh other x count members list is q hq) same)

  -- ---- twins: their refinement edges would be one, and so would their third vertices
  module _ (r s : ℕ) (hr : r < size other) (hs : s < size other) (n : r ≡ s → ⊥) where
    one_apex : Shares other r Edge2 s Edge2 → corner_of (triple_of other r) 2 ≡ corner_of (triple_of other s) 2 → ⊥
    one_apex h e =
        let p = partners r s Edge2 Edge2 hr hs n h in
        let apexes : Far mesh x is.tells (name (r, [])).0 (name (r, [])).1 (Some (name (s, []), p.0)) = subst (Far mesh x is.tells (name (r, [])).0 (name (r, [])).1) p.1 (far mesh x is.tells (name (r, [])).0 (name (r, [])).1 (rooted r [] hr)) in
        apexes.1 (sym (third mesh other x count members list is r hr).1 ∙ ap (vertex_at (written mesh other x count members list is)) e ∙ (third mesh other x count members list is s hs).1)

    uneven : (e f : Edge) → length (edge_word e) ≡ 1 → length (edge_word f) ≡ 1 → Shares other r Edge2 s f → Shares other r e s Edge2 → ⊥
    uneven e f le lf h k = let a = heights r s Edge2 f hr hs h in let b = heights r s e Edge2 hr hs k in omega (arith, a, b, le, lf)

    abbrev a : Triple
    a = triple_of other r

    abbrev b : Triple
    b = triple_of other s

    clash : (i j k : Edge) → corner_of a 0 ≡ facing i b → corner_of a 1 ≡ facing j b → corner_of a 2 ≡ facing k b → ⊥
    clash Edge0 Edge0 k p q z = (apart r hr).0 (p ∙ sym q)
    clash Edge1 Edge1 k p q z = (apart r hr).0 (p ∙ sym q)
    clash Edge2 Edge2 k p q z = (apart r hr).0 (p ∙ sym q)
    clash Edge0 Edge1 Edge0 p q z = (apart r hr).2 (p ∙ sym z)
    clash Edge0 Edge1 Edge1 p q z = (apart r hr).1 (q ∙ sym z)
    clash Edge0 Edge1 Edge2 p q z = one_apex (inl (p, q)) z
    clash Edge1 Edge0 Edge0 p q z = (apart r hr).1 (q ∙ sym z)
    clash Edge1 Edge0 Edge1 p q z = (apart r hr).2 (p ∙ sym z)
    clash Edge1 Edge0 Edge2 p q z = one_apex (inr (p, q)) z
    clash Edge0 Edge2 Edge0 p q z = (apart r hr).2 (p ∙ sym z)
    clash Edge0 Edge2 Edge1 p q z = uneven Edge1 Edge1 refl refl (inr (p, q)) (inr (z, p))
    clash Edge0 Edge2 Edge2 p q z = (apart r hr).1 (q ∙ sym z)
    clash Edge2 Edge0 Edge0 p q z = (apart r hr).1 (q ∙ sym z)
    clash Edge2 Edge0 Edge1 p q z = uneven Edge0 Edge1 refl refl (inl (p, q)) (inl (q, z))
    clash Edge2 Edge0 Edge2 p q z = (apart r hr).2 (p ∙ sym z)
    clash Edge1 Edge2 Edge0 p q z = uneven Edge1 Edge0 refl refl (inl (p, q)) (inl (z, p))
    clash Edge1 Edge2 Edge1 p q z = (apart r hr).2 (p ∙ sym z)
    clash Edge1 Edge2 Edge2 p q z = (apart r hr).1 (q ∙ sym z)
    clash Edge2 Edge1 Edge0 p q z = uneven Edge0 Edge0 refl refl (inr (p, q)) (inr (q, z))
    clash Edge2 Edge1 Edge1 p q z = (apart r hr).1 (q ∙ sym z)
    clash Edge2 Edge1 Edge2 p q z = (apart r hr).2 (p ∙ sym z)

    no_twins : IsTwin a b → ⊥
    no_twins t =
        let i = which b (corner_of a 0) t.0 in
        let j = which b (corner_of a 1) t.1 in
        let k = which b (corner_of a 2) t.2 in
        clash i.0 j.0 k.0 i.1 j.1 k.1

  pub valid : IsValid other
  valid = record {
    distinct = apart;
    no_twins = λ r s hr hs n t. no_twins r s hr hs n t;
    no_third = no_third;
  }

  -- ---- levels as grades
  abbrev leveled : Shape
  leveled = record { triples = other.triples; grades = map (level mesh) list }

  grade : (r : ℕ) → r < size other → grade_of leveled r ≡ top r
  grade r h = get_or-map (level mesh) list r (0, []) 0 (inside mesh other x count members list is r h)

  even : (e f : Edge) → is_refined e ≡ is_refined f → length (edge_word e) ≡ length (edge_word f)
  even Edge0 Edge0 h = refl
  even Edge0 Edge1 h = refl
  even Edge0 Edge2 h = absurd (true≢false (sym h))
  even Edge1 Edge0 h = refl
  even Edge1 Edge1 h = refl
  even Edge1 Edge2 h = absurd (true≢false (sym h))
  even Edge2 Edge0 h = absurd (true≢false h)
  even Edge2 Edge1 h = absurd (true≢false h)
  even Edge2 Edge2 h = refl

  short : (e : Edge) → is_refined e ≡ true → length (edge_word e) ≡ 0
  short Edge0 h = absurd (true≢false (sym h))
  short Edge1 h = absurd (true≢false (sym h))
  short Edge2 h = refl

  long : (e : Edge) → is_refined e ≡ false → length (edge_word e) ≡ 1
  long Edge0 h = refl
  long Edge1 h = refl
  long Edge2 h = absurd (true≢false h)

  graded : IsGraded leveled
  graded = record {
    equal = λ r s e f hr hs n h k. let a = grade r hr in let b = grade s hs in let c = heights r s e f hr hs h in let d = even e f k in omega (arith, a, b, c, d);
    more = λ r s e f hr hs n h k l. let a = grade r hr in let b = grade s hs in let c = heights r s e f hr hs h in let d = short e k in let g = long f l in omega (arith, a, b, c, d, g);
  }

pub written_fits : WrittenFits
written_fits mesh x count members list other is = (valid mesh other x count members list is, graded mesh other x count members list is)
