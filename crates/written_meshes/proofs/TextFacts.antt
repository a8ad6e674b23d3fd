-- What a written text says, list by list.
use Rattle.std.proofs.Common.{◌≡◌, ℕ, zero, suc, ◌<◌, Bool, true, false, cond, refl, sym, ap, subst, ◌∙◌, List, [], ◌∷◌, map, length, arith}
use Rattle.std.specs.Prelude.{ℤ, pos, ◌+ℤ◌, slice_index_or, zip}
use Rattle.std.proofs.lemmas.Int.{ints}
use Rattle.std.proofs.lemmas.List.{get_or-map, length-map}
use Rattle.macro_file.specs.declared.text.MacroText.{MacroText}
use Rattle.macro_file.specs.declared.text.MacroElem.{MacroElem}
use Rattle.macro_file.specs.declared.text.MacroVertex.{MacroVertex}
use Rattle.macro_file.specs.Meaning.{Element, Macro, Vertex as Placed}
use Rattle.macro_file.specs.Text.{element_of, vertex_of}
use Rattle.mesh_names.specs.Names.{Name}
use Rattle.mesh_names.specs.Triangles.{Vertex, Corner, Mid, before, middle}
use Rattle.mesh_names.specs.Forests.{Names}
use Rattle.compat_check.specs.Checks.{bare, triples_of}
use Rattle.compat_check.specs.Faults.{point_at}
use Rattle.compat_check.specs.Meshes.{Mesh, across_in, shape_of}
use Rattle.compat_check.specs.Points.{Point, between, half, labels, point}
use Rattle.mesh_writer.specs.MeshText.{macro_element, macro_vertex}
use Rattle.mesh_writer.specs.Neighbours.{neighbours}
use Rattle.mesh_writer.specs.Numbering.{vertices}
use Rattle.mesh_writer.specs.Triples.{numbers}
use Rattle.written_meshes.specs.Renaming.{AreWritten}
use Rattle.written_meshes.specs.WrittenTexts.{IsWrittenText}
use Rattle.written_meshes.proofs.WrittenVertices.{vertex_at}

-- ---- lists
pub map-twice : {A B C : Type 0} (f : B → C) (g : A → B) (xs : List A) → map f (map g xs) ≡ map (λ (a : A). f (g a)) xs
map-twice f g [] = refl
map-twice f g (x ∷ xs) = ap (λ l. f (g x) ∷ l) (map-twice f g xs)

zip-none : {A B C : Type 0} (f : A → C) (ys : List B) → map (λ (p : A × B). f p.0) (zip [] ys) ≡ []
zip-none f [] = refl
zip-none f (y ∷ ys) = refl

pub zip-first : {A B C : Type 0} (f : A → C) (xs : List A) (ys : List B) → length ys ≡ length xs → map (λ (p : A × B). f p.0) (zip xs ys) ≡ map f xs
zip-first f [] ys e = zip-none f ys
zip-first f (x ∷ xs) [] e = absurd (omega (arith, e))
zip-first f (x ∷ xs) (y ∷ ys) e = ap (λ l. f x ∷ l) (zip-first f xs ys (omega (arith, e)))

-- ---- points of written vertices
pub spots : (items : List MacroVertex) (ps : List Point) → map (λ (v : MacroVertex). (v.x, v.y)) items ≡ ps → (j : ℕ) (d : Point) → j < length ps → point_at items j ≡ slice_index_or ps j d
spots [] [] e j d h = absurd (omega (arith, h))
spots [] (p ∷ ps) e j d h = absurd (cc)
spots (v ∷ items) [] e j d h = absurd (cc)
spots (v ∷ items) (p ∷ ps) e zero d h = ap (λ (l : List Point). slice_index_or l 0 d) e
spots (v ∷ items) (p ∷ ps) e (suc j) d h = spots items ps (rest e) j d (omega (arith, h))
  where
    rest : {a b : Point} {l m : List Point} → a ∷ l ≡ b ∷ m → l ≡ m
    rest e = cc

plus_turned : (x y : ℤ) → x +ℤ y ≡ y +ℤ x
plus_turned x y = omega (arith, ints)

between_turned : (p q : Point) → between p q ≡ between q p
between_turned p q = λ i. (half (plus_turned p.0 q.0 i), half (plus_turned p.1 q.1 i))

pub middle_lies : (vertices : List MacroVertex) (a b : Vertex) → point vertices (middle a b) ≡ between (point vertices a) (point vertices b)
middle_lies vertices a b = by_order (before b a)
  where
    by_order : (o : Bool) → point vertices (cond o (Mid b a) (Mid a b)) ≡ between (point vertices a) (point vertices b)
    by_order true = between_turned (point vertices b) (point vertices a)
    by_order false = refl

module _ (mesh : Mesh) (members : Names) (list : List Name) (vertex_values element_values : List ℤ) (text : MacroText) (is : IsWrittenText mesh members list vertex_values element_values text) where
  abbrev written : List Vertex
  written = vertices (shape_of mesh) (length mesh.vertices) list

  elements : map element_of text.elements.items ≡ map (macro_element mesh written list) (zip list element_values)
  elements = ap (λ (m : Macro). m.elements) is.is

  of_elements : {A : Type 0} (f : Element → A) (g : Name → A) → ((p : Name × ℤ) → f (macro_element mesh written list p) ≡ g p.0) → map (λ (e : MacroElem). f (element_of e)) text.elements.items ≡ map g list
  of_elements f g h =
      sym (map-twice f element_of text.elements.items) ∙ ap (map f) elements ∙ map-twice f (macro_element mesh written list) (zip list element_values)
      ∙ (λ i. map (λ (p : Name × ℤ). h p i) (zip list element_values)) ∙ zip-first g list element_values is.writing.of_leaves

  pub text_triples : triples_of text ≡ map (numbers (shape_of mesh) written) list
  text_triples = of_elements (λ (e : Element). e.corners) (numbers (shape_of mesh) written) (λ p. refl)

  pub text_labels : map (λ (e : MacroElem). e.labels) text.elements.items ≡ map (labels mesh) list
  text_labels = of_elements (λ (e : Element). e.labels) (labels mesh) (λ p. refl)

  pub text_neighbours : map (λ (e : MacroElem). e.neighbours) text.elements.items ≡ map (neighbours (shape_of mesh) list) list
  text_neighbours = of_elements (λ (e : Element). e.neighbours) (neighbours (shape_of mesh) list) (λ p. refl)

  pub labels_given : text.labels_given ≡ true
  labels_given = ap (λ (m : Macro). m.labels_given) is.is

  -- the elements of the text are the leaves
  pub text_written : AreWritten (shape_of mesh) (across_in mesh) (length mesh.vertices) members list (bare (triples_of text))
  text_written = record {
    tells = is.writing.checked.tells;
    forest = is.writing.forest;
    partners = is.writing.partners;
    is_list = is.writing.is_list;
    triples = text_triples;
  }

  -- and its vertices are the written ones
  text_spots : map (λ (v : MacroVertex). (v.x, v.y)) text.vertices.items ≡ map (point mesh.vertices) written
  text_spots =
      sym (map-twice (λ (v : Placed). (v.x, v.y)) vertex_of text.vertices.items)
      ∙ ap (λ (m : Macro). map (λ (v : Placed). (v.x, v.y)) m.vertices) is.is
      ∙ map-twice (λ (v : Placed). (v.x, v.y)) (macro_vertex mesh) (zip written vertex_values)
      ∙ zip-first (point mesh.vertices) written vertex_values is.writing.of_vertices

  pub vertex_count : length text.vertices.items ≡ length written
  vertex_count = sym (length-map text.vertices.items (λ (v : MacroVertex). (v.x, v.y))) ∙ ap length text_spots ∙ length-map written (point mesh.vertices)

  pub spot_at : (j : ℕ) (v : Vertex) → j < length written → vertex_at written j ≡ v → point_at text.vertices.items j ≡ point mesh.vertices v
  spot_at j v h e =
      spots text.vertices.items (map (point mesh.vertices) written) text_spots j (pos 0, pos 0) (subst (λ (n : ℕ). j < n) (sym (length-map written (point mesh.vertices))) h)
      ∙ get_or-map (point mesh.vertices) written j (Corner 0) (pos 0, pos 0) h ∙ ap (point mesh.vertices) e
