-- A macro text that says a grid passes the check.
use Rattle.std.proofs.Common.{◌≡◌, ℕ, ◌+◌, ◌*◌, ◌≤◌, List, [], ◌∷◌, map, length, refl, sym, ap, ◌∙◌, true≢false, arith}
use Rattle.std.specs.Prelude.{ℤ, pos, Option, Some, None, option_map, slice_get, slice_index_or, false}
use Rattle.std.specs.List.{range_with_len}
use Rattle.std.proofs.lemmas.List.{length-map}
use Rattle.std.proofs.lemmas.Option.{slice_get-map}
use Rattle.std.proofs.lemmas.List.FromFn.{get_or-map-range_with_len}
use Rattle.macro_file.specs.declared.text.MacroElem.{MacroElem}
use Rattle.macro_file.specs.declared.text.MacroVertex.{MacroVertex}
use Rattle.macro_file.specs.declared.text.MacroText.{MacroText}
use Rattle.macro_file.specs.Meaning.{Vertex, Element, Macro}
use Rattle.macro_file.specs.Text.{element_of, macro_of, vertex_of}
use Rattle.mesh_names.specs.Triangles.{Triple}
use Rattle.compat_check.specs.Checks.{IsCheckRefusal, triples_of}
use Rattle.compat_check.specs.Faults.{point_of}
use Rattle.compat_check.specs.declared.refusal.CheckRefusal.{CheckRefusal}
use Rattle.compat_check.specs.declared.refusal.CheckRefusal.TheVariants.{VertexRange, RepeatedVertex, Flat, TwinElements, EdgeOfThree, NeighboursDiffer, Incompatible, GradeTooHigh, Memory}
use Rattle.soak.specs.Grid.{vertex_number, corners_at, element_at, grid}
use Rattle.soak.specs.GridChecks.{GridsPass}
use Rattle.soak.proofs.GridPlaces.{grids_are_grids}
use Rattle.soak.proofs.GridTriangles.{AreSpots}
use Rattle.soak.proofs.GridFaults.{AreGridTriples, gradable, low_grades, no_third, no_twins, none_flat, none_outside, none_repeated}

triples_in : (items : List MacroElem) → map (λ (e : MacroElem). e.corners) items ≡ map (λ (e : Element). e.corners) (map element_of items)
triples_in [] = refl
triples_in (e ∷ es) = ap (λ (ts : List Triple). e.corners ∷ ts) (triples_in es)

triples_at : (g : ℕ) (ns : List ℕ) → map (λ (e : Element). e.corners) (map (element_at g) ns) ≡ map (corners_at g) ns
triples_at g [] = refl
triples_at g (n ∷ ns) = ap (λ (ts : List Triple). corners_at g n ∷ ts) (triples_at g ns)

-- where a vertex of the meaning lies
abbrev place_of : Option Vertex → ℤ × ℤ
place_of None = (pos 0, pos 0)
place_of (Some v) = (v.x, v.y)

placed : (o : Option MacroVertex) → point_of o ≡ place_of (option_map vertex_of o)
placed None = refl
placed (Some v) = refl

module _ (g : ℕ) (text : MacroText) (made : macro_of text ≡ grid g) where
  elements_are : map element_of text.elements.items ≡ map (element_at g) (range_with_len 0 (2 * (g * g)))
  elements_are = ap (λ (m : Macro). m.elements) made

  triples_are : triples_of text ≡ map (corners_at g) (range_with_len 0 (2 * (g * g)))
  triples_are = triples_in text.elements.items ∙ ap (map (λ (e : Element). e.corners)) elements_are ∙ triples_at g (range_with_len 0 (2 * (g * g)))

  element_count : length text.elements.items ≡ 2 * (g * g)
  element_count = sym (length-map text.elements.items element_of) ∙ ap (λ (m : Macro). length m.elements) made ∙ (grids_are_grids g).element_count

  grid_triples : AreGridTriples g (triples_of text)
  grid_triples = record {
    count = length-map text.elements.items (λ (e : MacroElem). e.corners) ∙ element_count;
    triple = λ r less. ap (λ (ts : List Triple). slice_index_or ts r []) triples_are ∙ get_or-map-range_with_len (corners_at g) 0 (2 * (g * g)) r r [] less (omega arith);
  }

  vertex_count : length text.vertices.items ≡ (g + 1) * (g + 1)
  vertex_count = sym (length-map text.vertices.items vertex_of) ∙ ap (λ (m : Macro). length m.vertices) made ∙ (grids_are_grids g).vertex_count

  spots : AreSpots g text.vertices.items
  spots i j low below =
      let n = vertex_number g i j in
      placed (slice_get text.vertices.items n)
      ∙ ap place_of (sym (slice_get-map vertex_of text.vertices.items n) ∙ ap (λ (m : Macro). slice_get m.vertices n) made ∙ (grids_are_grids g).vertices i j low below)

  not_given : text.neighbours_given ≡ false
  not_given = ap (λ (m : Macro). m.neighbours_given) made

  passes : 1 ≤ g → (refusal : CheckRefusal) → IsCheckRefusal text refusal → refusal ≡ Memory
  passes some (VertexRange r) h = absurd (none_outside g some (triples_of text) grid_triples (length text.vertices.items) vertex_count r h.0 h.1)
  passes some (RepeatedVertex r) h = absurd (none_repeated g some (triples_of text) grid_triples r h.1.0 h.1.1)
  passes some (Flat r) h = absurd (none_flat g some (triples_of text) grid_triples text.vertices.items spots r h.2.0 h.2.1)
  passes some (TwinElements a b) h = absurd (no_twins g some (triples_of text) grid_triples a b h.1)
  passes some (EdgeOfThree r k) h = absurd (no_third g some (triples_of text) grid_triples r k h.2.element h.2.holds)
  passes some (NeighboursDiffer r k) h = absurd (true≢false (sym h.1 ∙ not_given))
  passes some (Incompatible r k) h = absurd (gradable g some (triples_of text) grid_triples r k h.1.holds)
  passes some (GradeTooHigh r grade) h = absurd (low_grades g some (triples_of text) grid_triples r grade h.1)
  passes some Memory h = refl

pub grids_pass : GridsPass
grids_pass g some few text made refusal h = passes g text made some refusal h
