-- Places among the macro vertices.
use Rattle.std.proofs.Common.{◌≡◌, ℕ, zero, suc, ◌<◌, ◌≤◌, cond, eqb, refl, sym, ap, subst, ◌∙◌, List, [], ◌∷◌, ◌++◌, length, map, get_or, arith, eq-eqb, ne_eqb, ⊎_elim}
use Rattle.std.proofs.lemmas.Bool.{cases_lt}
use Rattle.std.proofs.lemmas.List.{map-append, length-append}
use Rattle.std.specs.Prelude.{Option, Some, None}
use Rattle.std.specs.Prelude.{All}
use Rattle.std.proofs.lemmas.List.Elements.{All-nil, All-cons, All-append}
use native.Mathlib.Decide.{dec_lt}
use Rattle.mesh_names.specs.Names.{Name}
use Rattle.mesh_names.specs.Triangles.{Shape, Vertex, Corner, middle, triangle, midpoint}
use Rattle.mesh_names.specs.Patches.{vertex_of}
use Rattle.mesh_names.specs.declared.patch.VertexKey.{VertexKey}
use Rattle.mesh_names.specs.declared.patch.VertexKey.TheVariants.{Macro, Patch}
use Rattle.compat_check.specs.Meshes.{Mesh, shape_of}
use Rattle.mesh_writer.specs.declared.slots.Slots.{Slots}
use Rattle.mesh_writer.specs.Numbering.{macro_vertices}
use Rattle.mesh_writer.specs.Numbers.{IsKeyOf, macro_keys, place_of}
use Rattle.mesh_writer.specs.Owners.{AreRising, first_of, told_by}
use Rattle.mesh_writer.specs.Slots.{AreSlots, point_of_key, told}
use Rattle.mesh_writer.proofs.OneKey.{middle-corner}
use Rattle.mesh_writer.proofs.Places.{place-push}

pub macro_stand : (mesh : Shape) (count : ℕ) → map (vertex_of mesh) (macro_keys count) ≡ macro_vertices count
macro_stand mesh zero = refl
macro_stand mesh (suc k) = map-append (vertex_of mesh) (macro_keys k) (Macro k ∷ []) ∙ ap (λ (l : List Vertex). l ++ Corner k ∷ []) (macro_stand mesh k)

macro_count : (count : ℕ) → length (macro_vertices count) ≡ count
macro_count zero = refl
macro_count (suc k) = length-append (macro_vertices k) (Corner k ∷ []) ∙ omega (arith, macro_count k)

macro_none : (i count : ℕ) → count ≤ i → place_of (Corner i) (macro_vertices count) ≡ None
macro_none i zero h = refl
macro_none i (suc k) h = place-push (Corner i) (macro_vertices k) (Corner k) ∙ (λ j. first_of (macro_none i k (omega arith) j) (cond (ne_eqb i k (λ e. omega arith) j) (Some (length (macro_vertices k))) None))

pub macro_place : (i count : ℕ) → i < count → place_of (Corner i) (macro_vertices count) ≡ Some i
macro_place i zero h = absurd (omega arith)
macro_place i (suc k) h = place-push (Corner i) (macro_vertices k) (Corner k) ∙ either (λ low. macro_place i k low) (dec_lt i k)
  where
    either : (i < k → place_of (Corner i) (macro_vertices k) ≡ Some i) → Dec (i < k) → first_of (place_of (Corner i) (macro_vertices k)) (cond (eqb i k) (Some (length (macro_vertices k))) None) ≡ Some i
    either before (yes low) = ap (λ (o : Option ℕ). first_of o (cond (eqb i k) (Some (length (macro_vertices k))) None)) (before low)
    either before (no high) = let e : i ≡ k = omega (arith, h, high) in
        (λ j. first_of (macro_none i k (omega arith) j) (cond (eq-eqb i k e j) (Some (macro_count k j)) None)) ∙ ap Some (sym e)

pub middle_none : (a b : Vertex) (count : ℕ) → place_of (middle a b) (macro_vertices count) ≡ None
middle_none a b zero = refl
middle_none a b (suc k) = place-push (middle a b) (macro_vertices k) (Corner k) ∙ (λ j. first_of (middle_none a b k j) (cond (middle-corner a b k j) (Some (length (macro_vertices k))) None))

key_count : (count : ℕ) → length (macro_keys count) ≡ count
key_count zero = refl
key_count (suc k) = length-append (macro_keys k) (Macro k ∷ []) ∙ omega (arith, key_count k)

get_or-append_left : (xs ys : List VertexKey) (i : ℕ) (d : VertexKey) → i < length xs → get_or (xs ++ ys) i d ≡ get_or xs i d
get_or-append_left [] ys i d low = absurd (omega (arith, low))
get_or-append_left (x ∷ xs) ys zero d low = refl
get_or-append_left (x ∷ xs) ys (suc i) d low = get_or-append_left xs ys i d (omega (arith, low))

get_or-append_right_at : (xs : List VertexKey) (y : VertexKey) (i : ℕ) (d : VertexKey) → i ≡ length xs → get_or (xs ++ y ∷ []) i d ≡ y
get_or-append_right_at [] y i d e = ap (λ (k : ℕ). get_or (y ∷ []) k d) e
get_or-append_right_at (x ∷ xs) y zero d e = absurd (omega (arith, e))
get_or-append_right_at (x ∷ xs) y (suc i) d e = get_or-append_right_at xs y i d (omega (arith, e))

macro_keys_are : (mesh : Mesh) (count : ℕ) → count ≤ length mesh.vertices → All (IsKeyOf mesh) (macro_keys count)
macro_keys_are mesh zero h = All-nil (IsKeyOf mesh)
macro_keys_are mesh (suc k) h = let low : k < length mesh.vertices = omega arith in
    All-append (IsKeyOf mesh) (macro_keys k) (Macro k ∷ []) (macro_keys_are mesh k (omega arith)) (All-cons (IsKeyOf mesh) (Macro k) [] low (All-nil (IsKeyOf mesh)))

macro_key_at : (s count : ℕ) (d : VertexKey) → s < count → get_or (macro_keys count) s d ≡ Macro s
macro_key_at s zero d low = absurd (omega (arith, low))
macro_key_at s (suc k) d low = ⊎_elim
    (λ (under : s < k). get_or-append_left (macro_keys k) (Macro k ∷ []) s d (omega (arith, under, key_count k)) ∙ macro_key_at s k d under)
    (λ (over : k ≤ s). let last : s ≡ k = omega (arith, over, low) in get_or-append_right_at (macro_keys k) (Macro k) s d (last ∙ sym (key_count k)) ∙ ap Macro (sym last))
    (cases_lt s k)

-- the slots of the macro vertices
pub macro_slots : (mesh : Mesh) (slots : Slots) → slots.keys.items ≡ macro_keys (length mesh.vertices) → slots.points.items ≡ map (point_of_key mesh) (macro_keys (length mesh.vertices)) → AreRising slots.owners → ((n : Name) → told_by slots.owners n ≡ None) → AreSlots mesh slots
macro_slots mesh slots keys points rising empty = record {
  keys = subst (All (IsKeyOf mesh)) (sym keys) (macro_keys_are mesh (length mesh.vertices) (omega arith));
  tell = tell;
  own = own;
  rising = rising;
  points = points ∙ ap (map (point_of_key mesh)) (sym keys);
}
  where
    written : map (vertex_of (shape_of mesh)) slots.keys.items ≡ macro_vertices (length mesh.vertices)
    written = ap (map (vertex_of (shape_of mesh))) keys ∙ macro_stand (shape_of mesh) (length mesh.vertices)

    tell : (key : VertexKey) → IsKeyOf mesh key → told slots key ≡ place_of (vertex_of (shape_of mesh) key) (map (vertex_of (shape_of mesh)) slots.keys.items)
    tell (Macro i) low = sym (macro_place i (length mesh.vertices) low) ∙ ap (place_of (Corner i)) (sym written)
    tell (Patch n) owner =
        let t = triangle (shape_of mesh) n in
        empty n ∙ sym (middle_none t.0 t.1 (length mesh.vertices)) ∙ ap (place_of (midpoint t)) (sym written)

    own : (s : ℕ) → s < length slots.keys.items → place_of (vertex_of (shape_of mesh) (get_or slots.keys.items s (Macro 0))) (map (vertex_of (shape_of mesh)) slots.keys.items) ≡ Some s
    own s inside =
        let low : s < length mesh.vertices = omega (arith, inside, ap length keys, key_count (length mesh.vertices)) in
        (λ i. place_of (vertex_of (shape_of mesh) (get_or (keys i) s (Macro 0))) (written i)) ∙ ap (λ (key : VertexKey). place_of (vertex_of (shape_of mesh) key) (macro_vertices (length mesh.vertices))) (macro_key_at s (length mesh.vertices) (Macro 0) low)
        ∙ macro_place s (length mesh.vertices) low
