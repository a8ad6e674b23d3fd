-- The bytes of a mesh that is written are read as the same text, and the check accepts it.
use Rattle.std.proofs.Common.{◌≡◌, zero-le, ℕ, zero, suc, ◌+◌, ◌<◌, ◌≤◌, Bool, true, false, cond, refl, sym, ap, subst, List, [], ◌∷◌, map, length, arith, true≢false, ⊎_elim}
use Rattle.std.specs.Prelude.{ℤ, pos, All, Option, Some, None, slice_get, slice_index_or, zip}
use Rattle.std.specs.List.{position_from}
use Rattle.std.proofs.lemmas.Int.{ints}
use Rattle.std.proofs.lemmas.List.Elements.{All-nil, All-cons}
use Rattle.macro_file.specs.declared.keyword.Keyword.TheVariants.{Labels as LabelValues, Neighbours, Triples}
use Rattle.macro_file.specs.declared.text.MacroText.{MacroText}
use Rattle.macro_file.specs.declared.text.MacroElem.{MacroElem}
use Rattle.macro_file.specs.declared.text.MacroVertex.{MacroVertex}
use Rattle.macro_file.specs.Limits.{InRange}
use Rattle.macro_file.specs.ReadBack.{IsElement, IsMacro, IsVertex, WrittenIsRead}
use Rattle.mesh_names.specs.Names.{Name}
use Rattle.mesh_names.specs.Triangles.{Vertex, Corner, Mid, size, triangle}
use Rattle.mesh_names.specs.Forests.{Names, Has, IsLeaf}
use Rattle.compat_check.specs.Checks.{IsMeshOf, made_label}
use Rattle.compat_check.specs.Meshes.{Mesh, across_in, edge_of, label_of, shape_of}
use Rattle.compat_check.specs.Points.{Labels, MidpointsExact, labels, labels_below, point}
use Rattle.compat_check.specs.Faults.{point_of}
use Rattle.compat_check.specs.Within.{IsWithin}
use Rattle.compat_check.proofs.Halving.{between_within}
use Rattle.mesh_writer.specs.MeshText.{macro_element, macro_vertex, written_mesh}
use Rattle.mesh_writer.specs.Neighbours.{is_across, neighbour, number_or_none}
use Rattle.mesh_writer.specs.Numbering.{number_of, vertices}
use Rattle.written_meshes.specs.Accepted.{FitsText, IsThick, WrittenAccepted, WrittenMeshIsRead}
use Rattle.written_meshes.specs.Passing.{NoLeafIsFlat}
use Rattle.written_meshes.specs.Renaming.{leaf_at}
use Rattle.written_meshes.specs.WrittenTexts.{IsWriting}
use Rattle.written_meshes.proofs.LeafNames.{all, each, leaf}
use Rattle.written_meshes.proofs.WrittenVertices.{all_written, at_number}
use Rattle.written_meshes.proofs.FlatNames.{no_name_is_flat}
use Rattle.written_meshes.proofs.Passing.{written_passes}
use Rattle.written_meshes.proofs.ReadAgain.{from}
use Rattle.written_meshes.proofs.Renaming.{grades_differ}

-- ---- points
told_within : (told : Option MacroVertex) → IsWithin (point_of told)
told_within None = (zero-le, zero-le)
told_within (Some v) = (v.in_range.0, v.in_range.1)

point_within : (vertices : List MacroVertex) (v : Vertex) → IsWithin (point vertices v)
point_within vertices (Corner i) = told_within (slice_get vertices i)
point_within vertices (Mid a b) = between_within (point vertices a) (point vertices b) (point_within vertices a) (point_within vertices b)

-- ---- lists
row_at : (P : ℤ → Type 0) → P (pos 0) → (zs : List ℤ) → All P zs → (k : ℕ) → P (slice_index_or zs k (pos 0))
row_at P z [] h k = z
row_at P z (x ∷ zs) h zero = h zero x (omega arith)
row_at P z (x ∷ zs) h (suc k) = row_at P z zs (λ i d l. h (suc i) d (omega (arith, l))) k

rows_at : (P : ℤ → Type 0) → P (pos 0) → (items : List MacroElem) → ((e : MacroElem) → All P e.labels) → (r k : ℕ) → P (slice_index_or (slice_index_or (map (λ (e : MacroElem). e.labels) items) r []) k (pos 0))
rows_at P z [] h r k = z
rows_at P z (e ∷ items) h zero k = row_at P z e.labels (h e) k
rows_at P z (e ∷ items) h (suc r) k = rows_at P z items h r k

zip-all : {A B C : Type 0} (P : C → Type 0) (f : A × B → C) (xs : List A) (ys : List B) → ((i : ℕ) (d : A) (c : B) → i < length xs → i < length ys → P (f (slice_index_or xs i d, slice_index_or ys i c))) → All P (map f (zip xs ys))
zip-all P f [] ys h = All-nil P
zip-all P f (x ∷ xs) [] h = All-nil P
zip-all P f (x ∷ xs) (y ∷ ys) h = All-cons P (f (x, y)) (map f (zip xs ys)) (h zero x y (omega arith) (omega arith)) (zip-all P f xs ys (λ i d c a b. h (suc i) d c (omega (arith, a)) (omega (arith, b))))

zip-length : {A B C : Type 0} (f : A × B → C) (xs : List A) (ys : List B) → length ys ≡ length xs → length (map f (zip xs ys)) ≡ length xs
zip-length f [] [] e = refl
zip-length f [] (y ∷ ys) e = absurd (omega (arith, e))
zip-length f (x ∷ xs) [] e = absurd (omega (arith, e))
zip-length f (x ∷ xs) (y ∷ ys) e = ap suc (zip-length f xs ys (omega (arith, e)))

found_below : {X : Type 0} (p : X → Bool) (start : ℕ) (xs : List X) (k : ℕ) → position_from p start xs ≡ Some k → k < start + length xs
found_below p start [] k e = absurd (cc)
found_below p start (x ∷ xs) k e = by (p x) e (found_below p (start + 1) xs k)
  where
    some : {a b : ℕ} → Some a ≡ Some b → a ≡ b
    some e = cc

    by : (b : Bool) → cond b (Some start) (position_from p (start + 1) xs) ≡ Some k → (position_from p (start + 1) xs ≡ Some k → k < start + 1 + length xs) → k < start + suc (length xs)
    by true h ih = let s = some h in omega (arith, s)
    by false h ih = let l = ih h in omega (arith, l)

three : {A : Type 0} (P : A → Type 0) (a b c : A) → P a → P b → P c → All P (a ∷ b ∷ c ∷ [])
three P a b c x y z = All-cons P a (b ∷ c ∷ []) x (All-cons P b (c ∷ []) y (All-cons P c [] z (All-nil P)))

module _ (mesh : Mesh) (members : Names) (list : List Name) (vertex_values element_values : List ℤ) (is : IsWriting mesh members list vertex_values element_values) where
  abbrev written : List Vertex
  written = vertices (shape_of mesh) (length mesh.vertices) list

  -- ---- there is a leaf
  low_letters : (n : Name) → Has members n → length n.1 ≤ 23
  low_letters n h = let l = is.forest.shallow n h in omega (arith, l)

  some_leaf : 1 ≤ length list
  some_leaf = ⊎_elim
      (λ h. let l = low_letters (0, word) h in absurd (omega (arith, l)))
      (λ m. let l = m.1 in omega (arith, l))
      (all (shape_of mesh) members is.forest list is.is_list 0 word is.checked.some)
    where
      word : List Bool
      word = false ∷ false ∷ false ∷ false ∷ false ∷ false ∷ false ∷ false ∷ false ∷ false ∷ false ∷ false ∷ false ∷ false ∷ false ∷ false ∷ false ∷ false ∷ false ∷ false ∷ false ∷ false ∷ false ∷ false ∷ []

  -- ---- labels
  abbrev Low : ℤ → Type 0
  Low = InRange LabelValues

  nothing_low : Low (pos 0)
  nothing_low = (omega (arith, ints), omega (arith, ints))

  made_low : (o : _) → Low (made_label o)
  made_low None = (omega (arith, ints), omega (arith, ints))
  made_low (Some a) = nothing_low

  label_low : (source : MacroText) → IsMeshOf source mesh → (r k : ℕ) → r < size (shape_of mesh) → k < 3 → Low (label_of mesh r k)
  label_low source of r k hr hk = by source.labels_given refl
    where
      by : (b : Bool) → source.labels_given ≡ b → Low (label_of mesh r k)
      by true e = subst (λ (rows : List (List ℤ)). Low (slice_index_or (slice_index_or rows r []) k (pos 0))) (sym (of.given e)) (rows_at Low nothing_low source.elements.items (λ e. e.labels_in_range) r k)
      by false e = subst Low (sym ((of.made e).1 r k hr hk)) (made_low (across_in mesh r (edge_of k)))

  abbrev AreLow : Labels → Type 0
  AreLow l = Low l.0 × Low l.1 × Low l.2

  below_low : (top : Labels) (w : List Bool) → AreLow top → AreLow (labels_below top w)
  below_low top [] h = h
  below_low top (false ∷ w) h = let l = below_low top w h in (l.2, nothing_low, l.1)
  below_low top (true ∷ w) h = let l = below_low top w h in (nothing_low, l.2, l.0)

  labels_low : (source : MacroText) → IsMeshOf source mesh → (n : Name) → n.0 < size (shape_of mesh) → All Low (labels mesh n)
  labels_low source of n h =
      let l = below_low (label_of mesh n.0 0, label_of mesh n.0 1, label_of mesh n.0 2) n.1 (label_low source of n.0 0 h (omega arith), label_low source of n.0 1 h (omega arith), label_low source of n.0 2 h (omega arith)) in
      three Low _ _ _ l.0 l.1 l.2

  module _ (fits : FitsText mesh list vertex_values element_values) where
    -- ---- neighbours
    neighbour_low : (n : Name) (a b : Vertex) → InRange Neighbours (neighbour (shape_of mesh) list n a b)
    neighbour_low n a b = by (position_from (is_across (shape_of mesh) n a b) 0 list) refl
      where
        by : (o : Option ℕ) → position_from (is_across (shape_of mesh) n a b) 0 list ≡ o → InRange Neighbours (number_or_none o)
        by None e = (omega (arith, ints), omega (arith, ints))
        by (Some k) e = let l = found_below (is_across (shape_of mesh) n a b) 0 list k e in let few = fits.few_leaves in (omega (arith, ints), omega (arith, ints, l, few))

    -- ---- elements
    element_low : (i : ℕ) (d : Name) (c : ℤ) → i < length list → i < length element_values → IsElement (macro_element mesh written list (slice_index_or list i d, slice_index_or element_values i c))
    element_low i d c h k =
        let n = slice_index_or list i d in
        let t = triangle (shape_of mesh) n in
        let w = all_written (shape_of mesh) (length mesh.vertices) list i d h in
        let few = fits.few_vertices in
        let x = (at_number t.0 written w.first).0 in
        let y = (at_number t.1 written w.second).0 in
        let z = (at_number t.2 written w.third).0 in
        record {
          three_corners = refl;
          three_labels = refl;
          three_neighbours = refl;
          corners = three (λ c. InRange Triples (pos c)) (number_of t.0 written) (number_of t.1 written) (number_of t.2 written) (omega (arith, ints), omega (arith, ints, few, x)) (omega (arith, ints), omega (arith, ints, few, y)) (omega (arith, ints), omega (arith, ints, few, z));
          labels = labels_low fits.source fits.of_source n (each (shape_of mesh) members is.forest list is.is_list i d h).rooted;
          neighbours = three (InRange Neighbours) _ _ _ (neighbour_low n t.1 t.2) (neighbour_low n t.2 t.0) (neighbour_low n t.0 t.1);
          value = fits.element_range i c k;
        }

    some_vertex : 1 ≤ length written
    some_vertex =
        let n = slice_index_or list 0 (0, []) in
        let w = all_written (shape_of mesh) (length mesh.vertices) list 0 (0, []) (let l = some_leaf in omega (arith, l)) in
        let x = (at_number (triangle (shape_of mesh) n).0 written w.first).0 in
        omega (arith, x)

    is_macro : IsMacro (written_mesh mesh list vertex_values element_values)
    is_macro =
        let vs = zip-length (macro_vertex mesh) written vertex_values is.of_vertices in
        let es = zip-length (macro_element mesh written list) list element_values is.of_leaves in
        let v = some_vertex in
        let l = some_leaf in
        let fv = fits.few_vertices in
        let fl = fits.few_leaves in
        record {
          some_vertices = (omega (arith, vs, v), omega (arith, vs, fv));
          some_elements = (omega (arith, es, l), omega (arith, es, fl));
          vertices = zip-all IsVertex (macro_vertex mesh) written vertex_values (λ i d c h k. record {
            x = (point_within mesh.vertices (slice_index_or written i d)).0;
            y = (point_within mesh.vertices (slice_index_or written i d)).1;
            value = fits.vertex_range i c k;
          });
          elements = zip-all IsElement (macro_element mesh written list) list element_values element_low;
          labels = λ e. absurd (true≢false e);
          neighbours = λ e. absurd (true≢false e);
        }

  -- ---- no leaf is flat
  no_leaf_is_flat : MidpointsExact → IsThick mesh → NoLeafIsFlat mesh list
  no_leaf_is_flat exact h i inside =
      let l = leaf (shape_of mesh) members is.forest list is.is_list i inside in
      no_name_is_flat exact mesh h.tenths h.thick (leaf_at list i) l.rooted (by (leaf_at list i).1 refl l)
    where
      by : (w : List Bool) → (leaf_at list i).1 ≡ w → IsLeaf (shape_of mesh) members (leaf_at list i) → length (leaf_at list i).1 ≤ 24
      by [] e l = let n = ap length e in omega (arith, n)
      by (b ∷ w) e l = let n = ap length e in let s = low_letters ((leaf_at list i).0, w) (l.born b w e) in omega (arith, n, s)

pub written_mesh_is_read : WrittenIsRead → WrittenMeshIsRead
written_mesh_is_read read mesh members list vertex_values element_values is fits = read (written_mesh mesh list vertex_values element_values) (is_macro mesh members list vertex_values element_values is fits)

pub written_accepted : MidpointsExact → WrittenIsRead → WrittenAccepted
written_accepted exact read mesh members list vertex_values element_values is = (
  no_leaf_is_flat mesh members list vertex_values element_values is exact,
  λ fits thick. (
    written_mesh_is_read read mesh members list vertex_values element_values is fits,
    λ text said. record {
      passes = written_passes mesh members list vertex_values element_values text (record { writing = is; is = said }) thick;
      grades = λ other made. grades_differ (shape_of mesh) (across_in mesh) (length mesh.vertices) members list (shape_of other) (from mesh other members list vertex_values element_values (record { text = text; written = record { writing = is; is = said }; made = made }));
    },
  ),
)
