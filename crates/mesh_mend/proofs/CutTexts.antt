-- A text that says what the mended one says.
use Rattle.std.proofs.Common.{◌≡◌, ℕ, zero, suc, ◌+◌, ◌*◌, ◌/◌, ◌%◌, ◌<◌, ◌≤◌, true, false, List, [], ◌∷◌, ◌++◌, map, length, get_or, refl, sym, ap, ◌∙◌, subst, arith, true≢false}
use Rattle.std.specs.Prelude.{ℤ, pos, ◌+ℤ◌, slice_index_or}
use Rattle.std.specs.List.{range_with_len}
use Rattle.std.proofs.Math.ListN.{get_or-append, get_or-map}
use Rattle.std.proofs.lemmas.List.{length-append, length-map, get_or-append-add}
use Rattle.std.proofs.lemmas.List.FromFn.{get_or-map-range_with_len, length-map-range_with_len}
use Rattle.macro_file.specs.declared.text.MacroElem.{MacroElem}
use Rattle.macro_file.specs.declared.text.MacroVertex.{MacroVertex}
use Rattle.macro_file.specs.declared.text.MacroText.{MacroText}
use Rattle.macro_file.specs.Meaning.{Vertex, Element, Macro}
use Rattle.macro_file.specs.Text.{element_of, macro_of, vertex_of}
use Rattle.mesh_names.specs.Triangles.{Triple, Shape, size, grade_of, corner_of}
use Rattle.mesh_names.specs.Partners.{Edge, Edge0, Edge1, Edge2}
use Rattle.mesh_names.specs.Validity.{IsWalk, ends_of}
use Rattle.compat_check.specs.Meshes.{Mesh, edge_of}
use Rattle.compat_check.specs.Checks.{IsCheckRefusal, IsMeshOf, bare, count_of, triples_of}
use Rattle.compat_check.specs.Faults.{IsFlat, doubled_area, point_at, triple_in}
use Rattle.compat_check.specs.declared.refusal.CheckRefusal.{CheckRefusal}
use Rattle.compat_check.specs.declared.refusal.CheckRefusal.TheVariants.{VertexRange, RepeatedVertex, Flat, TwinElements, EdgeOfThree, NeighboursDiffer, Incompatible, GradeTooHigh, Memory}
use Rattle.mesh_mend.specs.Centres.{centre_at, centre_point}
use Rattle.mesh_mend.specs.Mended.{mended, piece, share, value_in}
use Rattle.mesh_mend.specs.Promises.{GradesAreZero, HasNoGrades, KeepsSums, MendedPasses, Passes, PiecesSum, area_in, sum_of_pieces}
use Rattle.mesh_mend.specs.Refusals.{IsMendable, piece_area}
use Rattle.mesh_mend.proofs.Sums.{areas_sum, values_sum}
use Rattle.mesh_mend.proofs.CutEdges.{Below, cut}
use Rattle.mesh_mend.proofs.Cuts.{AreCuts, AreSplit, ends_below, grade_along, gradable, low_grades, no_third, no_twins, none_outside, none_repeated}

corners_in : (items : List MacroElem) → map (λ (e : MacroElem). e.corners) items ≡ map (λ (e : Element). e.corners) (map element_of items)
corners_in [] = refl
corners_in (e ∷ es) = ap (λ (ts : List Triple). e.corners ∷ ts) (corners_in es)

values_in : (items : List MacroElem) → map (λ (e : MacroElem). e.value) items ≡ map (λ (e : Element). e.value) (map element_of items)
values_in [] = refl
values_in (e ∷ es) = ap (λ (zs : List ℤ). e.value ∷ zs) (values_in es)

by_number : {B : Type 0} (f : Element → B) (g : ℕ → Element) (ns : List ℕ) → map f (map g ns) ≡ map (λ n. f (g n)) ns
by_number f g [] = refl
by_number f g (n ∷ ns) = ap (λ ys. f (g n) ∷ ys) (by_number f g ns)

-- where a vertex of the meaning lies
abbrev place : Vertex → ℤ × ℤ
place v = (v.x, v.y)

abbrev nowhere : Vertex
nowhere = record { x = pos 0; y = pos 0; value = pos 0 }

point_is : (vs : List MacroVertex) (i : ℕ) → point_at vs i ≡ place (get_or (map vertex_of vs) i nowhere)
point_is [] i = refl
point_is (v ∷ vs) zero = refl
point_is (v ∷ vs) (suc i) = point_is vs i

abbrev sum_of : ℤ → ℤ → ℤ → ℤ
sum_of a b c = (a +ℤ b) +ℤ c

walk_bare : (triples : List Triple) (grades : List ℕ) (r : ℕ) (qs : List ℕ) (s : ℕ) → IsWalk (record { triples = triples; grades = grades }) r qs s → IsWalk (bare triples) r qs s
walk_bare triples grades r [] s w = w
walk_bare triples grades r (q ∷ qs) s w = (w.0, w.1, walk_bare triples grades q qs s w.2)

module _ (text made : MacroText) (ok : IsMendable text) (is : macro_of made ≡ mended text) where
  abbrev old : List Triple
  old = triples_of text

  abbrev v : ℕ
  v = length text.vertices.items

  elements_are : map element_of made.elements.items ≡ map (piece text) (range_with_len 0 (count_of text * 3))
  elements_are = ap (λ (m : Macro). m.elements) is

  triples_are : triples_of made ≡ map (λ n. (piece text n).corners) (range_with_len 0 (count_of text * 3))
  triples_are = corners_in made.elements.items ∙ ap (map (λ (e : Element). e.corners)) elements_are ∙ by_number (λ (e : Element). e.corners) (piece text) (range_with_len 0 (count_of text * 3))

  cuts : AreCuts v old (triples_of made)
  cuts = record {
    count = ap length triples_are ∙ length-map-range_with_len (λ n. (piece text n).corners) 0 (count_of text * 3);
    triple = λ n less. ap (λ (ts : List Triple). slice_index_or ts n []) triples_are ∙ get_or-map-range_with_len (λ m. (piece text m).corners) 0 (count_of text * 3) n n [] less (omega arith);
  }

  split : AreSplit v old
  split = record { inside = ok.faultless.valid.sound.inside; distinct = ok.faultless.valid.sound.distinct; two_at_most = ok.faultless.valid.two_at_most }

  vertices_are : map vertex_of made.vertices.items ≡ map vertex_of text.vertices.items ++ map (centre_at text.vertices.items) old
  vertices_are = ap (λ (m : Macro). m.vertices) is

  vertex_count : length made.vertices.items ≡ v + length old
  vertex_count = sym (length-map made.vertices.items vertex_of) ∙ ap length vertices_are ∙ length-append (map vertex_of text.vertices.items) (map (centre_at text.vertices.items) old)
      ∙ (λ i. length-map text.vertices.items vertex_of i + length-map old (centre_at text.vertices.items) i)

  old_point : (i : ℕ) → i < v → point_at made.vertices.items i ≡ point_at text.vertices.items i
  old_point i less =
      let within : i < length (map vertex_of text.vertices.items) = omega (arith, less, length-map text.vertices.items vertex_of) in
      point_is made.vertices.items i ∙ ap place (ap (λ (vs : List Vertex). get_or vs i nowhere) vertices_are ∙ get_or-append (map vertex_of text.vertices.items) (map (centre_at text.vertices.items) old) nowhere i within)
      ∙ sym (point_is text.vertices.items i)

  new_point : (r : ℕ) → r < length old → point_at made.vertices.items (v + r) ≡ centre_point text.vertices.items (triple_in old r)
  new_point r less =
      point_is made.vertices.items (v + r)
      ∙ ap place (ap (λ (vs : List Vertex). get_or vs (v + r) nowhere) vertices_are
      ∙ ap (λ n. get_or (map vertex_of text.vertices.items ++ map (centre_at text.vertices.items) old) (n + r) nowhere) (sym (length-map text.vertices.items vertex_of))
      ∙ get_or-append-add (map vertex_of text.vertices.items) (map (centre_at text.vertices.items) old) r nowhere
      ∙ centre_got old r less)
    where
      centre_got : (ts : List Triple) (i : ℕ) → i < length ts → get_or (map (centre_at text.vertices.items) ts) i nowhere ≡ centre_at text.vertices.items (get_or ts i [])
      centre_got [] i h = absurd (omega arith)
      centre_got (t ∷ ts) zero h = refl
      centre_got (t ∷ ts) (suc i) h = centre_got ts i (omega arith)

  -- the area of a piece, by the vertices of the mended text
  area_is : (n : ℕ) → n < length (triples_of made) → area_in made n ≡ piece_area text.vertices.items (triple_in old (n / 3)) (edge_of (n % 3))
  area_is n less =
      let r = n / 3 in
      let within : r < length old = omega (arith, less, cuts.count) in
      let ends = ends_of (triple_in old r) (edge_of (n % 3)) in
      let below = ends_below v (triple_in old r) (split.inside r within) (edge_of (n % 3)) in
      let here : triple_in (triples_of made) n ≡ cut ends (v + r) = cuts.triple n (omega (arith, less, cuts.count)) in
      ap (λ (t : Triple). doubled_area (point_at made.vertices.items (corner_of t 0)) (point_at made.vertices.items (corner_of t 1)) (point_at made.vertices.items (corner_of t 2))) here
      ∙ (λ i. doubled_area (old_point ends.0 below.0 i) (old_point ends.1 below.1 i) (new_point r within i))

  none_flat : (n : ℕ) → n < length (triples_of made) → IsFlat made.vertices.items (triple_in (triples_of made) n) → ⊥
  none_flat n less h = ok.thick (n / 3) (n % 3) (omega (arith, less, cuts.count)) (omega arith) (sym (area_is n less) ∙ h)

  not_given : made.neighbours_given ≡ false
  not_given = ap (λ (m : Macro). m.neighbours_given) is

  passes : Passes made
  passes (VertexRange r) h = absurd (none_outside v old split (triples_of made) cuts (length made.vertices.items) vertex_count r h.0 h.1)
  passes (RepeatedVertex r) h = absurd (none_repeated v old split (triples_of made) cuts r h.1.0 h.1.1)
  passes (Flat r) h = absurd (none_flat r h.2.0 h.2.1)
  passes (TwinElements a b) h = absurd (no_twins v old split (triples_of made) cuts a b h.1)
  passes (EdgeOfThree r k) h = absurd (no_third v old split (triples_of made) cuts r k h.2.element h.2.holds)
  passes (NeighboursDiffer r k) h = absurd (true≢false (sym h.1 ∙ not_given))
  passes (Incompatible r k) h = absurd (gradable v old split (triples_of made) cuts r k h.1.holds)
  passes (GradeTooHigh r grade) h = absurd (low_grades v old split (triples_of made) cuts r grade h.1)
  passes Memory h = refl

  no_grades : HasNoGrades made
  no_grades mesh of r less =
      let shape = mesh.shape in
      let own : AreCuts v old shape.triples = subst (AreCuts v old) (sym of.triples) cuts in
      let way = of.compatible.least r less in
      grade_along v old split shape.triples own shape.grades of.compatible.graded r way.0 way.1 less (walk_bare shape.triples shape.grades r way.0 way.1 way.3) ∙ way.4

  -- the numbers of the pieces of an element
  third : (r k : ℕ) → r < count_of text → k < 3 → (r * 3 + k < length (triples_of made)) × ((r * 3 + k) / 3 ≡ r) × ((r * 3 + k) % 3 ≡ k)
  third r k hr hk = (omega (arith, hr, hk, cuts.count), omega (arith, hk), omega (arith, hk))

  area_at : (r k : ℕ) → r < count_of text → k < 3 → area_in made (r * 3 + k) ≡ piece_area text.vertices.items (triple_in old r) (edge_of k)
  area_at r k hr hk = let t = third r k hr hk in area_is (r * 3 + k) t.0 ∙ (λ i. piece_area text.vertices.items (triple_in old (t.1 i)) (edge_of (t.2 i)))

  value_at : (r k : ℕ) → r < count_of text → k < 3 → value_in made (r * 3 + k) ≡ (piece text (r * 3 + k)).value
  value_at r k hr hk =
      let less : r * 3 + k < count_of text * 3 = omega (arith, hr, hk) in
      ap (λ (zs : List ℤ). slice_index_or zs (r * 3 + k) (pos 0)) (values_in made.elements.items ∙ ap (map (λ (e : Element). e.value)) elements_are ∙ by_number (λ (e : Element). e.value) (piece text) (range_with_len 0 (count_of text * 3)))
      ∙ get_or-map-range_with_len (λ m. (piece text m).value) 0 (count_of text * 3) (r * 3 + k) (r * 3 + k) (pos 0) less (omega arith)

  first_number : (r : ℕ) → r * 3 ≡ r * 3 + 0
  first_number r = omega arith

  piece_value : (r k : ℕ) → r < count_of text → k < 3 → value_in made (r * 3 + k) ≡ share (value_in text r) (edge_of k)
  piece_value r k hr hk = let t = third r k hr hk in value_at r k hr hk ∙ (λ i. share (value_in text (t.1 i)) (edge_of (t.2 i)))

  sums : KeepsSums text made
  sums = record {
    areas = λ r hr.
        let vs = text.vertices.items in
        let t = triple_in old r in
        (λ i. sum_of (ap (area_in made) (first_number r) i) (area_in made (r * 3 + 1)) (area_in made (r * 3 + 2)))
        ∙ (λ i. sum_of (area_at r 0 hr (omega arith) i) (area_at r 1 hr (omega arith) i) (area_at r 2 hr (omega arith) i))
        ∙ areas_sum (point_at vs (corner_of t 0)) (point_at vs (corner_of t 1)) (point_at vs (corner_of t 2)) (centre_point vs t);
    values = λ r hr.
        (λ i. sum_of (ap (value_in made) (first_number r) i) (value_in made (r * 3 + 1)) (value_in made (r * 3 + 2)))
        ∙ (λ i. sum_of (piece_value r 0 hr (omega arith) i) (piece_value r 1 hr (omega arith) i) (piece_value r 2 hr (omega arith) i))
        ∙ values_sum (value_in text r);
  }

pub mended_passes : MendedPasses
mended_passes text made ok is = passes text made ok is

pub grades_are_zero : GradesAreZero
grades_are_zero text made ok is = no_grades text made ok is

pub pieces_sum : PiecesSum
pieces_sum text made ok is = sums text made ok is
