-- The check refuses no written text in which no leaf is flat.
use Rattle.std.proofs.Common.{◌≡◌, ℕ, ◌+◌, ◌<◌, ◌≤◌, Bool, true, false, refl, sym, ap, ◌∙◌, List, [], ◌∷◌, length, arith, ⊎_elim, true≢false}
use Rattle.std.specs.Prelude.{ℤ, pos, slice_index_or}
use Rattle.macro_file.specs.declared.text.MacroText.{MacroText}
use Rattle.mesh_names.specs.Names.{Name}
use Rattle.mesh_names.specs.Triangles.{Shape, Vertex, size, level, grade_of, triple_of, corner_of, triangle}
use Rattle.mesh_names.specs.Forests.{Names, IsLeaf}
use Rattle.mesh_names.specs.Partners.{Across, Edge, Edge0, Edge1, Edge2, Tells, edge_word}
use Rattle.mesh_names.specs.Validity.{IsValid, IsWalk, Shares, across_of, is_refined}
use Rattle.mesh_names.proofs.Neighbours.{valid_tells}
use Rattle.compat_check.specs.Checks.{AreGradesOf, Fits, HasNoArea, HasOutside, HasRepeated, HasTwinBefore, IsCheckRefusal, IsEdgeOfThree, IsTooHigh, IsUngradable, NeighbourDiffers, bare, triples_of}
use Rattle.compat_check.specs.declared.refusal.CheckRefusal.{CheckRefusal}
use Rattle.compat_check.specs.declared.refusal.CheckRefusal.TheVariants.{VertexRange, RepeatedVertex, Flat, TwinElements, EdgeOfThree, NeighboursDiffer, Incompatible, GradeTooHigh, Memory}
use Rattle.compat_check.specs.Faults.{doubled_area, point_at}
use Rattle.compat_check.specs.Meshes.{Mesh, across_in, edge_of, shape_of}
use Rattle.mesh_writer.specs.Numbering.{vertices}
use Rattle.written_meshes.specs.Renaming.{AreWritten, leaf_at}
use Rattle.written_meshes.specs.WrittenTexts.{IsWrittenText, area}
use Rattle.written_meshes.specs.Passing.{NoLeafIsFlat, WrittenPasses}
use Rattle.written_meshes.proofs.WrittenVertices.{vertex_at}
use Rattle.written_meshes.proofs.TextFacts.{spot_at, text_written, vertex_count}
use Rattle.written_meshes.proofs.Beside.{beside}
use Rattle.written_meshes.proofs.SharedEdges.{shared_middle}
use Rattle.written_meshes.proofs.Moved.{first, second, third, inside, leaf_of}
use Rattle.written_meshes.proofs.WrittenFits.{heights, valid}

-- ---- grades, however great
module _ (mesh other : Shape) (x : Across) (count : ℕ) (members : Names) (list : List Name) (is : AreWritten mesh x count members list other) where
  abbrev top : ℕ → ℕ
  top r = level mesh (leaf_at list r)

  -- the levels fit
  pub levels_fit : (q s : ℕ) (e f : Edge) → q < size other → s < size other → Shares other q e s f → Fits (λ r. pos (top r)) q e s f
  levels_fit q s e f hq hs h =
      let same = heights mesh other x count members list is q s e f hq hs h in
      record {
        equal = λ k. ap pos (let d = even e f k in omega (arith, same, d));
        more = λ k l. ap pos (let a = short e k in let b = long f l in omega (arith, same, a, b));
        less = λ k l. ap pos (let a = long e k in let b = short f l in omega (arith, same, a, b));
      }
    where
      even : (e f : Edge) → is_refined e ≡ is_refined f → length (edge_word e) ≡ length (edge_word f)
      even Edge0 Edge0 h = refl
      even Edge0 Edge1 h = refl
      even Edge0 Edge2 h = absurd (true≢false (sym h))
      even Edge1 Edge0 h = refl
      even Edge1 Edge1 h = refl
      even Edge1 Edge2 h = absurd (true≢false (sym h))
      even Edge2 Edge0 h = absurd (true≢false h)
      even Edge2 Edge1 h = absurd (true≢false h)
      even Edge2 Edge2 h = refl

      short : (e : Edge) → is_refined e ≡ true → length (edge_word e) ≡ 0
      short Edge0 h = absurd (true≢false (sym h))
      short Edge1 h = absurd (true≢false (sym h))
      short Edge2 h = refl

      long : (e : Edge) → is_refined e ≡ false → length (edge_word e) ≡ 1
      long Edge0 h = refl
      long Edge1 h = refl
      long Edge2 h = absurd (true≢false h)

  module _ (grades : List ℕ) (are : AreGradesOf other.triples grades) where
    abbrev graded : Shape
    graded = record { triples = other.triples; grades = grades }

    graded_valid : IsValid graded
    graded_valid = let v = valid mesh other x count members list is in record { distinct = v.distinct; no_twins = v.no_twins; no_third = v.no_third }

    step : (r q : ℕ) (e f : Edge) → r < size other → q < size other → Shares other r e q f → top r + grade_of graded q ≡ top q + grade_of graded r
    step r q e f hr hq h =
        let tells : Tells graded (across_of graded) = valid_tells graded graded_valid are.graded in
        let here : level graded (r, edge_word e) ≡ level graded (q, edge_word f) = tells.graded r q e f hr hq (shared_middle graded r q e f h) in
        let there = heights mesh other x count members list is r q e f hr hq h in
        omega (arith, here, there)

    walked : (r : ℕ) (qs : List ℕ) (s : ℕ) → r < size other → IsWalk (bare other.triples) r qs s → top r + grade_of graded s ≡ top s + grade_of graded r
    walked r [] s h w = λ i. top (w i) + grade_of graded (sym w i)
    walked r (q ∷ qs) s h w =
        let one_step = step r q w.1.0 w.1.1 h w.0 w.1.2 in
        let rest = walked q qs s w.0 w.2 in
        omega (arith, one_step, rest)

    -- no grade is above the leaf's level
    pub low : (r : ℕ) → r < size other → slice_index_or grades r 0 ≤ top r
    low r h = let l = are.least r h in let far = walked r l.0 l.1 h l.3 in let none = l.4 in omega (arith, far, none)

module _ (mesh : Mesh) (members : Names) (list : List Name) (vertex_values element_values : List ℤ) (text : MacroText) (is : IsWrittenText mesh members list vertex_values element_values text) where
  abbrev other : Shape
  other = bare (triples_of text)

  abbrev written : List Vertex
  written = vertices (shape_of mesh) (length mesh.vertices) list

  are : AreWritten (shape_of mesh) (across_in mesh) (length mesh.vertices) members list (bare (triples_of text))
  are = text_written mesh members list vertex_values element_values text is

  is_valid : IsValid (bare (triples_of text))
  is_valid = valid (shape_of mesh) other (across_in mesh) (length mesh.vertices) members list are

  -- ---- no single element is at fault
  abbrev Stands : ℕ → ℕ → Vertex → Type 0
  Stands r k v = (corner_of (triple_of other r) k < length written) × (vertex_at written (corner_of (triple_of other r) k) ≡ v)

  corner_0 : (r : ℕ) → r < size other → Stands r 0 (triangle (shape_of mesh) (leaf_at list r)).0
  corner_0 r h = first (shape_of mesh) other (across_in mesh) (length mesh.vertices) members list are r h

  corner_1 : (r : ℕ) → r < size other → Stands r 1 (triangle (shape_of mesh) (leaf_at list r)).1
  corner_1 r h = second (shape_of mesh) other (across_in mesh) (length mesh.vertices) members list are r h

  corner_2 : (r : ℕ) → r < size other → Stands r 2 (triangle (shape_of mesh) (leaf_at list r)).2
  corner_2 r h = third (shape_of mesh) other (across_in mesh) (length mesh.vertices) members list are r h

  none_outside : (r : ℕ) → r < size other → HasOutside text r → ⊥
  none_outside r h out =
      let a = (corner_0 r h).0 in
      let b = (corner_1 r h).0 in
      let c = (corner_2 r h).0 in
      let n = vertex_count mesh members list vertex_values element_values text is in
      ⊎_elim (λ p. omega (arith, p, a, n)) (λ q. ⊎_elim (λ p. omega (arith, p, b, n)) (λ p. omega (arith, p, c, n)) q) out

  none_repeated : (r : ℕ) → r < size other → HasRepeated text r → ⊥
  none_repeated r h twice = let d = is_valid.distinct r h in ⊎_elim d.0 (λ q. ⊎_elim d.1 d.2 q) twice

  none_flat : NoLeafIsFlat mesh list → (r : ℕ) → r < size other → HasNoArea text r → ⊥
  none_flat thick r h flat =
      let a = corner_0 r h in
      let b = corner_1 r h in
      let c = corner_2 r h in
      let spot = spot_at mesh members list vertex_values element_values text is in
      let same : doubled_area (point_at text.vertices.items (corner_of (triple_of other r) 0)) (point_at text.vertices.items (corner_of (triple_of other r) 1)) (point_at text.vertices.items (corner_of (triple_of other r) 2)) ≡ area mesh (leaf_at list r) =
      λ i. doubled_area (spot _ _ a.0 a.1 i) (spot _ _ b.0 b.1 i) (spot _ _ c.0 c.1 i) in
      thick r (inside (shape_of mesh) other (across_in mesh) (length mesh.vertices) members list are r h) (sym same ∙ flat)

  -- ---- no two elements, and no three
  none_twin : (b : ℕ) → b < size other → HasTwinBefore (triples_of text) b → ⊥
  none_twin b h twin = is_valid.no_twins twin.0 b (omega (arith, h, twin.1)) h (λ e. omega (arith, e, twin.1)) twin.2

  none_third : (r k : ℕ) → r < size other → IsEdgeOfThree (triples_of text) r k → ⊥
  none_third r k h t =
      let below = t.before in
      let first_one = t.apart in
      let same = is_valid.no_third r t.one t.two (edge_of k) t.edge_one t.edge_two h (omega (arith, h, below, first_one)) (omega (arith, h, below)) (λ e. omega (arith, e, below, first_one)) (λ e. omega (arith, e, below)) t.shares_one t.shares_two in
      omega (arith, same, first_one)

  -- ---- grades
  some_grades : (r k : ℕ) → IsUngradable (triples_of text) r k → ⊥
  some_grades r k u = u.none (λ q. pos (level (shape_of mesh) (leaf_at list q))) (λ q j s f hq hj hs n h b. levels_fit (shape_of mesh) other (across_in mesh) (length mesh.vertices) members list are q s (edge_of j) f hq hs h)

  leaf_low : (r : ℕ) → r < size other → level (shape_of mesh) (leaf_at list r) ≤ 24
  leaf_low r h = by (leaf_at list r).1 refl
    where
      leaf : IsLeaf (shape_of mesh) members (leaf_at list r)
      leaf = leaf_of (shape_of mesh) other (across_in mesh) (length mesh.vertices) members list are r h

      by : (w : List Bool) → (leaf_at list r).1 ≡ w → level (shape_of mesh) (leaf_at list r) ≤ 24
      by [] e = let l = is.writing.checked.low (leaf_at list r).0 leaf.rooted in let n = ap length e in omega (arith, l, n)
      by (b ∷ w) e = let l = is.writing.forest.shallow ((leaf_at list r).0, w) (leaf.born b w e) in let n = ap length e in omega (arith, l, n)

  none_high : (r grade : ℕ) → IsTooHigh (triples_of text) r grade → ⊥
  none_high r grade t =
      let h = t.first.0 in
      let up = t.first.1 in
      let l = low (shape_of mesh) other (across_in mesh) (length mesh.vertices) members list are t.grades t.are r h in
      let top = leaf_low r h in
      omega (arith, up, l, top)

  passes : NoLeafIsFlat mesh list → ((r k : ℕ) → r < size other → k < 3 → NeighbourDiffers text.elements.items (triples_of text) r k → ⊥) → (refusal : CheckRefusal) → IsCheckRefusal text refusal → refusal ≡ Memory
  passes thick others (VertexRange r) h = absurd (none_outside r h.0 h.1)
  passes thick others (RepeatedVertex r) h = absurd (none_repeated r h.1.0 h.1.1)
  passes thick others (Flat r) h = absurd (none_flat thick r h.2.0 h.2.1)
  passes thick others (TwinElements a b) h = absurd (none_twin b h.1.second.0 h.1.second.1)
  passes thick others (EdgeOfThree r k) h = absurd (none_third r k h.2.element h.2.holds)
  passes thick others (NeighboursDiffer r k) h = absurd (others r k h.2.element h.2.edge h.2.holds)
  passes thick others (Incompatible r k) h = absurd (some_grades r k h.1.holds)
  passes thick others (GradeTooHigh r grade) h = absurd (none_high r grade h.1)
  passes thick others Memory h = refl

pub written_passes : WrittenPasses
written_passes mesh members list vertex_values element_values text is thick refusal h = passes mesh members list vertex_values element_values text is thick (beside mesh members list vertex_values element_values text is) refusal h
