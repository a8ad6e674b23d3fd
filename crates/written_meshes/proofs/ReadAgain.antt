-- What the check makes of a written text has the leaves as its elements, where they lie, with their labels.
use Rattle.std.proofs.Common.{◌≡◌, ℕ, ◌<◌, Bool, true, false, refl, sym, ap, ◌∙◌, List, [], ◌∷◌, ◌++◌, map, length}
use Rattle.std.specs.Prelude.{ℤ, pos, slice_index_or}
use Rattle.std.proofs.lemmas.List.{get_or-map}
use Rattle.macro_file.specs.declared.text.MacroVertex.{MacroVertex}
use Rattle.mesh_names.specs.Names.{Name}
use Rattle.mesh_names.specs.Triangles.{Triangle, Vertex, Corner, middle, size, triangle}
use Rattle.mesh_names.specs.Forests.{Names}
use Rattle.compat_check.specs.Faults.{point_at}
use Rattle.compat_check.specs.Meshes.{Mesh, across_in, label_of, shape_of}
use Rattle.compat_check.specs.Points.{Labels, between, child_labels, labels, labels_below, point, points}
use Rattle.mesh_writer.specs.Numbering.{vertices}
use Rattle.mesh_writer.specs.Triples.{numbers}
use Rattle.written_meshes.specs.Renaming.{AreWritten, IsWrittenFrom, leaf_at, renamed}
use Rattle.written_meshes.specs.WrittenTexts.{IsReadAgain, PointsAndLabelsStand, ReadAgainIsWritten}
use Rattle.written_meshes.proofs.WrittenVertices.{vertex_at}
use Rattle.written_meshes.proofs.TextFacts.{labels_given, middle_lies, spot_at, text_labels, text_triples}
use Rattle.written_meshes.proofs.Moved.{first, second, third, inside}

-- ---- labels
labels-after : (top : Labels) (w u : List Bool) → labels_below top (w ++ u) ≡ labels_below (labels_below top u) w
labels-after top [] u = refl
labels-after top (b ∷ w) u = ap (λ (l : Labels). child_labels l b) (labels-after top w u)

module _ (mesh other : Mesh) (members : Names) (list : List Name) (vertex_values element_values : List ℤ) (again : IsReadAgain mesh members list vertex_values element_values other) where
  abbrev count : ℕ
  count = length mesh.vertices

  abbrev written : List Vertex
  written = vertices (shape_of mesh) count list

  triples : other.shape.triples ≡ map (numbers (shape_of mesh) written) list
  triples = again.made.triples ∙ text_triples mesh members list vertex_values element_values again.text again.written

  pub are_written : AreWritten (shape_of mesh) (across_in mesh) count members list (shape_of other)
  are_written = record {
    tells = again.written.writing.checked.tells;
    forest = again.written.writing.forest;
    partners = again.written.writing.partners;
    is_list = again.written.writing.is_list;
    triples = triples;
  }

  pub from : IsWrittenFrom (shape_of mesh) (across_in mesh) count members list (shape_of other)
  from = record { written = are_written; compatible = again.made.compatible }

  -- ---- points
  place_at : (j : ℕ) (v : Vertex) → j < length written → vertex_at written j ≡ v → point other.vertices (Corner j) ≡ point mesh.vertices v
  place_at j v h e = ap (λ (l : List MacroVertex). point_at l j) again.made.vertices ∙ spot_at mesh members list vertex_values element_values again.text again.written j v h e

  abbrev LiesAs : Triangle → Triangle → Type 0
  LiesAs t u = (point other.vertices t.0 ≡ point mesh.vertices u.0) × (point other.vertices t.1 ≡ point mesh.vertices u.1) × (point other.vertices t.2 ≡ point mesh.vertices u.2)

  middle_as : (t u : Triangle) → LiesAs t u → point other.vertices (middle t.0 t.1) ≡ point mesh.vertices (middle u.0 u.1)
  middle_as t u e = middle_lies other.vertices t.0 t.1 ∙ (λ i. between (e.0 i) (e.1 i)) ∙ sym (middle_lies mesh.vertices u.0 u.1)

  lies : (r : ℕ) (w : List Bool) → r < size (shape_of other) → LiesAs (triangle (shape_of other) (r, w)) (triangle (shape_of mesh) (renamed list (r, w)))
  lies r [] h =
      let a = first (shape_of mesh) (shape_of other) (across_in mesh) count members list are_written r h in
      let b = second (shape_of mesh) (shape_of other) (across_in mesh) count members list are_written r h in
      let c = third (shape_of mesh) (shape_of other) (across_in mesh) count members list are_written r h in
      (place_at _ _ a.0 a.1, place_at _ _ b.0 b.1, place_at _ _ c.0 c.1)
  lies r (false ∷ w) h = let e = lies r w h in (e.2, e.0, middle_as (triangle (shape_of other) (r, w)) (triangle (shape_of mesh) (renamed list (r, w))) e)
  lies r (true ∷ w) h = let e = lies r w h in (e.1, e.2, middle_as (triangle (shape_of other) (r, w)) (triangle (shape_of mesh) (renamed list (r, w))) e)

  points_stand : (n : Name) → n.0 < size (shape_of other) → points other n ≡ points mesh (renamed list n)
  points_stand n h = let e = lies n.0 n.1 h in λ i. e.0 i ∷ e.1 i ∷ e.2 i ∷ []

  -- ---- labels
  all_labels : other.labels ≡ map (labels mesh) list
  all_labels = again.made.given (labels_given mesh members list vertex_values element_values again.text again.written) ∙ text_labels mesh members list vertex_values element_values again.text again.written

  abbrev top_labels : Mesh → ℕ → Labels
  top_labels m r = (label_of m r 0, label_of m r 1, label_of m r 2)

  leaf_labels : (r : ℕ) → r < size (shape_of other) → top_labels other r ≡ labels_below (top_labels mesh (leaf_at list r).0) (leaf_at list r).1
  leaf_labels r h =
      let row : slice_index_or other.labels r [] ≡ labels mesh (leaf_at list r) = ap (λ (l : List (List ℤ)). slice_index_or l r []) all_labels ∙ get_or-map (labels mesh) list r (0, []) [] (inside (shape_of mesh) (shape_of other) (across_in mesh) count members list are_written r h) in
      λ i. (slice_index_or (row i) 0 (pos 0), slice_index_or (row i) 1 (pos 0), slice_index_or (row i) 2 (pos 0))

  labels_stand : (n : Name) → n.0 < size (shape_of other) → labels other n ≡ labels mesh (renamed list n)
  labels_stand n h =
      let l = leaf_at list n.0 in
      let below : labels_below (top_labels other n.0) n.1 ≡ labels_below (top_labels mesh l.0) (n.1 ++ l.1) = ap (λ (t : Labels). labels_below t n.1) (leaf_labels n.0 h) ∙ sym (labels-after (top_labels mesh l.0) n.1 l.1) in
      λ i. (below i).0 ∷ (below i).1 ∷ (below i).2 ∷ []

pub read_again_is_written : ReadAgainIsWritten
read_again_is_written mesh members list vertex_values element_values other again = from mesh other members list vertex_values element_values again

pub points_and_labels_stand : PointsAndLabelsStand
points_and_labels_stand mesh members list vertex_values element_values other again n h = (points_stand mesh other members list vertex_values element_values again n h, labels_stand mesh other members list vertex_values element_values again n h)
