-- The written neighbours of a leaf are what lies across its edges.
use Rattle.std.proofs.Common.{◌≡◌, ◌⊎◌, ℕ, zero, suc, ◌+◌, ◌<◌, Bool, true, false, cond, not, ◌&&◌, ◌||◌, eqb, eqb-true, refl, sym, ap, subst, ◌∙◌, List, [], ◌∷◌, map, length, arith, inl, inr, ⊎_elim, true≢false}
use Rattle.std.specs.Prelude.{ℤ, pos, Option, Some, None, slice_get, slice_index_or}
use Rattle.std.specs.List.{position_from}
use Rattle.std.proofs.lemmas.Bool.{false_from_ne_true}
use Rattle.std.proofs.lemmas.List.{get_or-map, length-map}
use Rattle.macro_file.specs.declared.text.MacroText.{MacroText}
use Rattle.macro_file.specs.declared.text.MacroElem.{MacroElem}
use Rattle.mesh_names.specs.Names.{Name, name_eq}
use Rattle.mesh_names.specs.Triangles.{Shape, Triple, Triangle, Vertex, same, size, triple_of, corner_of, triangle}
use Rattle.mesh_names.specs.Forests.{Names}
use Rattle.mesh_names.specs.Partners.{Edge, Edge0, Edge1, Edge2, edge_at}
use Rattle.mesh_names.specs.Validity.{HasCorner, IsSamePair, IsValid, Shares, across_of, ends_of, match_pair}
use Rattle.mesh_names.proofs.Middles.{same_self, same-is}
use Rattle.mesh_names.proofs.Neighbours.{found, none_some, there}
use Rattle.mesh_names.proofs.Booleans.{and_both}
use Rattle.mesh_names.proofs.Sets.{or_either, or-left, or-right, same-tied, tied-same}
use Rattle.compat_check.specs.Checks.{NeighbourDiffers, bare, neighbour_number, neighbours_of, triples_of}
use Rattle.compat_check.specs.Meshes.{Mesh, across_in, edge_of, shape_of}
use Rattle.mesh_writer.specs.Neighbours.{has_corner, is_across, neighbours, number_or_none}
use Rattle.mesh_writer.specs.Numbering.{vertices}
use Rattle.written_meshes.specs.Renaming.{AreWritten, leaf_at}
use Rattle.written_meshes.specs.WrittenTexts.{IsWrittenText}
use Rattle.written_meshes.proofs.WrittenVertices.{vertex_at, all_own, own_place}
use Rattle.written_meshes.proofs.LeafNames.{one}
use Rattle.written_meshes.proofs.TextFacts.{text_neighbours, text_written}
use Rattle.written_meshes.proofs.Moved.{first, second, third, inside, outside}
use Rattle.written_meshes.proofs.WrittenFits.{valid}

-- ---- the first place where a test passes
first_is : {X : Type 0} → (p : X → Bool) (start : ℕ) (xs : List X) (i : ℕ) (d : X) → i < length xs → p (slice_index_or xs i d) ≡ true → ((k : ℕ) → k < i → p (slice_index_or xs k d) ≡ false) → position_from p start xs ≡ Some (start + i)
first_is p start [] i d inside h none = absurd (omega (arith, inside))
first_is p start (x ∷ xs) zero d inside h none = ap (λ (b : Bool). cond b (Some start) (position_from p (start + 1) xs)) h ∙ ap Some (omega arith)
first_is p start (x ∷ xs) (suc i) d inside h none = ap (λ (b : Bool). cond b (Some start) (position_from p (start + 1) xs)) (none zero (omega arith)) ∙ first_is p (start + 1) xs i d (omega (arith, inside)) h (λ k l. none (suc k) (omega (arith, l))) ∙ ap Some (omega arith)

nowhere : {X : Type 0} → (p : X → Bool) (start : ℕ) (xs : List X) (d : X) → ((k : ℕ) → k < length xs → p (slice_index_or xs k d) ≡ false) → position_from p start xs ≡ None
nowhere p start [] d none = refl
nowhere p start (x ∷ xs) d none = ap (λ (b : Bool). cond b (Some start) (position_from p (start + 1) xs)) (none zero (omega arith)) ∙ nowhere p (start + 1) xs d (λ k l. none (suc k) (omega (arith, l)))

rows_at : (items : List MacroElem) (rows : List (List ℤ)) → map (λ (e : MacroElem). e.neighbours) items ≡ rows → (r : ℕ) → r < length rows → neighbours_of (slice_get items r) ≡ slice_index_or rows r []
rows_at [] [] e r h = absurd (omega (arith, h))
rows_at [] (p ∷ ps) e r h = absurd (cc)
rows_at (v ∷ items) [] e r h = absurd (cc)
rows_at (v ∷ items) (p ∷ ps) e zero h = ap (λ (l : List (List ℤ)). slice_index_or l 0 []) e
rows_at (v ∷ items) (p ∷ ps) e (suc r) h = rows_at items ps (rest e) r (omega (arith, h))
  where
    rest : {a b : List ℤ} {l m : List (List ℤ)} → a ∷ l ≡ b ∷ m → l ≡ m
    rest e = cc

matched : (p q : ℕ × ℕ) (t : Bool) → match_pair p q ≡ Some t → IsSamePair p q
matched p q t e = by (eqb p.0 q.0 && eqb p.1 q.1) (eqb p.0 q.1 && eqb p.1 q.0) refl refl e
  where
    by : (a b : Bool) → (eqb p.0 q.0 && eqb p.1 q.1) ≡ a → (eqb p.0 q.1 && eqb p.1 q.0) ≡ b → cond a (Some false) (cond b (Some true) None) ≡ Some t → IsSamePair p q
    by true b f g h = let c = and_both (eqb p.0 q.0) (eqb p.1 q.1) f in inl (eqb-true p.0 q.0 c.0, eqb-true p.1 q.1 c.1)
    by false true f g h = let c = and_both (eqb p.0 q.1) (eqb p.1 q.0) g in inr (eqb-true p.0 q.1 c.0, eqb-true p.1 q.0 c.1)
    by false false f g h = absurd (none_some t h)

-- ---- two different corners have an edge
edge_between : (t : Triple) (i j : ℕ) → (i ≡ j → ⊥) → HasCorner t i → HasCorner t j → (g : Edge) × IsSamePair (i, j) (ends_of t g)
edge_between t i j n a b = ⊎_elim
    (λ p. ⊎_elim (λ q. absurd (n (p ∙ sym q))) (λ c. ⊎_elim (λ q. (Edge2, inl (p, q))) (λ q. (Edge1, inr (p, q))) c) b)
    (λ d. ⊎_elim
    (λ p. ⊎_elim (λ q. (Edge2, inr (p, q))) (λ c. ⊎_elim (λ q. absurd (n (p ∙ sym q))) (λ q. (Edge0, inl (p, q))) c) b)
    (λ p. ⊎_elim (λ q. (Edge1, inl (p, q))) (λ c. ⊎_elim (λ q. (Edge0, inr (p, q))) (λ q. absurd (n (p ∙ sym q))) c) b)
    d)
    a

has_ends : (t : Triangle) (e : Edge) → (has_corner t (edge_at e t).0 ≡ true) × (has_corner t (edge_at e t).1 ≡ true)
has_ends t Edge0 = (or-left _ _ (or-right _ _ (same_self t.1)), or-right _ _ (same_self t.2))
has_ends t Edge1 = (or-right _ _ (same_self t.2), or-left _ _ (or-left _ _ (same_self t.0)))
has_ends t Edge2 = (or-left _ _ (or-left _ _ (same_self t.0)), or-left _ _ (or-right _ _ (same_self t.1)))

corner_is : (t : Triangle) (a : Vertex) → has_corner t a ≡ true → (a ≡ t.0) ⊎ (a ≡ t.1) ⊎ (a ≡ t.2)
corner_is t a h = ⊎_elim
    (λ x. ⊎_elim (λ y. inl (same-is a t.0 y)) (λ y. inr (inl (same-is a t.1 y))) (or_either (same a t.0) (same a t.1) x))
    (λ x. inr (inr (same-is a t.2 x)))
    (or_either (same a t.0 || same a t.1) (same a t.2) h)

all_three : (a b c : Bool) → (a && b && c) ≡ true → (a ≡ true) × (b ≡ true) × (c ≡ true)
all_three true true true h = (refl, refl, refl)
all_three true true false h = absurd (true≢false (sym h))
all_three true false c h = absurd (true≢false (sym h))
all_three false b c h = absurd (true≢false (sym h))

both_and : (a b c : Bool) → a ≡ true → b ≡ true → c ≡ true → (a && b && c) ≡ true
both_and true true true ha hb hc = refl
both_and true true false ha hb hc = absurd (true≢false (sym hc))
both_and true false c ha hb hc = absurd (true≢false (sym hb))
both_and false b c ha hb hc = absurd (true≢false (sym ha))

other_name : (b : Bool) → (b ≡ true → ⊥) → not b ≡ true
other_name true h = absurd (h refl)
other_name false h = refl

not_other : (b : Bool) → not b ≡ true → b ≡ true → ⊥
not_other true h e = true≢false (sym h)
not_other false h e = true≢false (sym e)

module _ (mesh : Mesh) (members : Names) (list : List Name) (vertex_values element_values : List ℤ) (text : MacroText) (is : IsWrittenText mesh members list vertex_values element_values text) where
  abbrev other : Shape
  other = bare (triples_of text)

  abbrev written : List Vertex
  written = vertices (shape_of mesh) (length mesh.vertices) list

  abbrev at : ℕ → Triangle
  at r = triangle (shape_of mesh) (leaf_at list r)

  are : AreWritten (shape_of mesh) (across_in mesh) (length mesh.vertices) members list (bare (triples_of text))
  are = text_written mesh members list vertex_values element_values text is

  is_valid : IsValid (bare (triples_of text))
  is_valid = valid (shape_of mesh) other (across_in mesh) (length mesh.vertices) members list are

  abbrev Stands : ℕ → Vertex → Type 0
  Stands j v = (j < length written) × (vertex_at written j ≡ v)

  corner_0 : (r : ℕ) → r < size other → Stands (corner_of (triple_of other r) 0) (at r).0
  corner_0 r h = first (shape_of mesh) other (across_in mesh) (length mesh.vertices) members list are r h

  corner_1 : (r : ℕ) → r < size other → Stands (corner_of (triple_of other r) 1) (at r).1
  corner_1 r h = second (shape_of mesh) other (across_in mesh) (length mesh.vertices) members list are r h

  corner_2 : (r : ℕ) → r < size other → Stands (corner_of (triple_of other r) 2) (at r).2
  corner_2 r h = third (shape_of mesh) other (across_in mesh) (length mesh.vertices) members list are r h

  abbrev ends : ℕ → Edge → ℕ × ℕ
  ends r e = ends_of (triple_of other r) e

  ends_stand : (r : ℕ) (e : Edge) → r < size other → Stands (ends r e).0 (edge_at e (at r)).0 × Stands (ends r e).1 (edge_at e (at r)).1
  ends_stand r Edge0 h = (corner_1 r h, corner_2 r h)
  ends_stand r Edge1 h = (corner_2 r h, corner_0 r h)
  ends_stand r Edge2 h = (corner_0 r h, corner_1 r h)

  ends_apart : (r : ℕ) (e : Edge) → r < size other → (ends r e).0 ≡ (ends r e).1 → ⊥
  ends_apart r Edge0 h = (is_valid.distinct r h).1
  ends_apart r Edge1 h = λ e. (is_valid.distinct r h).2 (sym e)
  ends_apart r Edge2 h = (is_valid.distinct r h).0

  -- a vertex that is a corner of a leaf has one of the numbers of its corners
  numbered : (k j : ℕ) (v : Vertex) → k < size other → Stands j v → has_corner (at k) v ≡ true → HasCorner (triple_of other k) j
  numbered k j v hk s h = ⊎_elim
      (λ p. inl (one_number j (corner_of (triple_of other k) 0) s (corner_0 k hk) p))
      (λ q. ⊎_elim
      (λ p. inr (inl (one_number j (corner_of (triple_of other k) 1) s (corner_1 k hk) p)))
      (λ p. inr (inr (one_number j (corner_of (triple_of other k) 2) s (corner_2 k hk) p)))
      q)
      (corner_is (at k) v h)
    where
      one_number : (i j : ℕ) {v u : Vertex} → Stands i v → Stands j u → v ≡ u → i ≡ j
      one_number i j s t e = own_place written (all_own (shape_of mesh) (length mesh.vertices) list) i j s.0 t.0 (s.1 ∙ e ∙ sym t.1)

  abbrev test : ℕ → Edge → Name → Bool
  test r e = is_across (shape_of mesh) (leaf_at list r) (edge_at e (at r)).0 (edge_at e (at r)).1

  test_shares : (r k : ℕ) (e : Edge) → r < size other → k < size other → test r e (leaf_at list k) ≡ true → (k ≡ r → ⊥) × ((g : Edge) × Shares other r e k g)
  test_shares r k e hr hk h =
      let t = all_three (not (name_eq (leaf_at list k) (leaf_at list r))) (has_corner (at k) (edge_at e (at r)).0) (has_corner (at k) (edge_at e (at r)).1) h in
      let s = ends_stand r e hr in (
        (λ same. not_other (name_eq (leaf_at list k) (leaf_at list r)) t.0 (same-tied (leaf_at list k) (leaf_at list r) (ap (leaf_at list) same))),
        edge_between (triple_of other k) (ends r e).0 (ends r e).1 (ends_apart r e hr) (numbered k (ends r e).0 (edge_at e (at r)).0 hk s.0 t.1) (numbered k (ends r e).1 (edge_at e (at r)).1 hk s.1 t.2),
      )

  shares_test : (r k : ℕ) (e g : Edge) → r < size other → k < size other → (k ≡ r → ⊥) → Shares other r e k g → test r e (leaf_at list k) ≡ true
  shares_test r k e g hr hk n h =
      let a = ends_stand r e hr in
      let b = ends_stand k g hk in
      let has = has_ends (at k) g in
      let same_vertex = λ (i j : ℕ) (v u : Vertex) (s : Stands i v) (t : Stands j u) (q : i ≡ j) (c : has_corner (at k) u ≡ true). subst (λ (w : Vertex). has_corner (at k) w ≡ true) (sym t.1 ∙ ap (vertex_at written) (sym q) ∙ s.1) c in
      let both : (has_corner (at k) (edge_at e (at r)).0 ≡ true) × (has_corner (at k) (edge_at e (at r)).1 ≡ true) = ⊎_elim
      (λ (p : ((ends r e).0 ≡ (ends k g).0) × ((ends r e).1 ≡ (ends k g).1)). (same_vertex _ _ _ _ a.0 b.0 p.0 has.0, same_vertex _ _ _ _ a.1 b.1 p.1 has.1))
      (λ (p : ((ends r e).0 ≡ (ends k g).1) × ((ends r e).1 ≡ (ends k g).0)). (same_vertex _ _ _ _ a.0 b.1 p.0 has.1, same_vertex _ _ _ _ a.1 b.0 p.1 has.0))
      h in
      both_and (not (name_eq (leaf_at list k) (leaf_at list r))) (has_corner (at k) (edge_at e (at r)).0) (has_corner (at k) (edge_at e (at r)).1)
      (other_name (name_eq (leaf_at list k) (leaf_at list r)) (λ q. n (one_leaf_place k r hk hr (tied-same (leaf_at list k) (leaf_at list r) q)))) both.0 both.1
    where
      one_leaf_place : (k r : ℕ) → k < size other → r < size other → leaf_at list k ≡ leaf_at list r → k ≡ r
      one_leaf_place k r hk hr e = ap (λ (q : Name). q.0) (one (shape_of mesh) members is.writing.forest list is.writing.is_list (k, []) (r, []) (inside (shape_of mesh) other (across_in mesh) (length mesh.vertices) members list are k hk) (inside (shape_of mesh) other (across_in mesh) (length mesh.vertices) members list are r hr) e)

  -- what the writer finds is what lies across the edge
  told : (r : ℕ) (e : Edge) → r < size other → number_or_none (position_from (test r e) 0 list) ≡ neighbour_number (across_of other r e)
  told r e hr = by (across_of other r e) refl
    where
      in_mesh : (k : ℕ) → k < length list → k < size other
      in_mesh k h = outside (shape_of mesh) other (across_in mesh) (length mesh.vertices) members list are k h

      by : (o : Option (ℕ × Edge × Bool)) → across_of other r e ≡ o → number_or_none (position_from (test r e) 0 list) ≡ neighbour_number (across_of other r e)
      by None h = ap number_or_none (nowhere (test r e) 0 list (0, []) (λ k hk. false_from_ne_true (test r e (leaf_at list k)) (λ yes.
          let s = test_shares r k e hr (in_mesh k hk) yes in
          let a = there other r (ends r e) (size other) k s.1.0 (in_mesh k hk) s.0 s.1.1 in
          none_some a.0 (sym h ∙ a.1)))) ∙ sym (ap neighbour_number h)
      by (Some a) h =
          let f = found other r (ends r e) (size other) a h in
          let shares : Shares other r e a.0 a.1 = matched (ends r e) (ends a.0 a.1) a.2 f.2 in
          ap number_or_none (first_is (test r e) 0 list a.0 (0, []) (inside (shape_of mesh) other (across_in mesh) (length mesh.vertices) members list are a.0 f.0) (shares_test r a.0 e a.1 hr f.0 f.1 shares) (λ k lower. false_from_ne_true (test r e (leaf_at list k)) (λ yes.
          let hk : k < size other = omega (arith, lower, f.0) in
          let s = test_shares r k e hr hk yes in
          let same = is_valid.no_third r a.0 k e a.1 s.1.0 hr f.0 hk (λ q. f.1 (sym q)) (λ q. s.0 (sym q)) shares s.1.1 in
          omega (arith, lower, same))))
          ∙ ap pos (omega arith) ∙ sym (ap neighbour_number h)

  written_row : (r : ℕ) → r < size other → neighbours_of (slice_get text.elements.items r) ≡ neighbours (shape_of mesh) list (leaf_at list r)
  written_row r h =
      let hl = inside (shape_of mesh) other (across_in mesh) (length mesh.vertices) members list are r h in
      rows_at text.elements.items (map (neighbours (shape_of mesh) list) list) (text_neighbours mesh members list vertex_values element_values text is) r (subst (λ (n : ℕ). r < n) (sym (length-map list (neighbours (shape_of mesh) list))) hl)
      ∙ get_or-map (neighbours (shape_of mesh) list) list r (0, []) [] hl

  row_at : (r k : ℕ) → k < 3 → slice_index_or (neighbours (shape_of mesh) list (leaf_at list r)) k (pos 0) ≡ number_or_none (position_from (test r (edge_of k)) 0 list)
  row_at r zero h = refl
  row_at r (suc zero) h = refl
  row_at r (suc (suc zero)) h = refl
  row_at r (suc (suc (suc k))) h = absurd (omega (arith, h))

  pub beside : (r k : ℕ) → r < size other → k < 3 → NeighbourDiffers text.elements.items (triples_of text) r k → ⊥
  beside r k hr hk differs = differs (ap (λ (row : List ℤ). slice_index_or row k (pos 0)) (written_row r hr) ∙ row_at r k hk ∙ told r (edge_of k) hr)
