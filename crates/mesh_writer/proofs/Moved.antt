-- Orders of slots as written vertices.
use Rattle.std.proofs.Common.{◌≡◌, ℕ, zero, suc, ◌+◌, ◌<◌, ◌≤◌, Bool, true, false, cond, eqb, refl, sym, ap, subst, ◌∙◌, List, [], ◌∷◌, ◌++◌, length, map, arith, eq-eqb, ne_eqb, true≢false, ⊎_elim}
use Rattle.std.proofs.lemmas.Bool.{cases_eq}
use Rattle.std.proofs.lemmas.List.{map-append, get_or-map, length-map}
use Rattle.std.proofs.lemmas.List.Elements.{All-nil, All-cons, All-append}
use Rattle.std.specs.Cmp.{both_ways}
use Rattle.std.specs.List.{AllZip}
use Rattle.std.specs.Option.{is_some, option_map, unwrap_or}
use Rattle.std.specs.Prelude.{All, Option, Some, None, pos}
use Rattle.mesh_names.specs.Names.{Name}
use Rattle.mesh_names.specs.Patches.{vertex_of}
use Rattle.mesh_names.specs.Triangles.{Shape, Vertex, Corner, same, triangle}
use Rattle.mesh_names.proofs.Middles.{same_self, same-is}
use Rattle.mesh_names.specs.declared.patch.VertexKey.{VertexKey}
use Rattle.mesh_names.specs.declared.patch.VertexKey.TheVariants.{Macro}
use Rattle.compat_check.specs.Meshes.{Mesh, shape_of}
use Rattle.compat_check.specs.Points.{Point, point}
use Rattle.mesh_writer.specs.Numbering.{corners_of, is_among, macro_vertices, number_of, vertices, with_new}
use Rattle.mesh_writer.specs.Numbers.{IsKeyOf, IsWritten, place_of}
use Rattle.mesh_writer.specs.Orders.{AreBelow, first_slots, number_in, numbered, place_in, slots_of, with_slots}
use Rattle.mesh_writer.specs.Picks.{IsBelow, key_in, point_in}
use Rattle.mesh_writer.specs.Slots.{AreSlots, Holds, point_of_key, slot_at}
use Rattle.mesh_writer.specs.Triples.{numbers}
use Rattle.mesh_writer.specs.Walks.{HoldLeaf}
use Rattle.mesh_writer.specs.declared.slots.Slots.{Slots}
use Rattle.mesh_writer.proofs.Adding.{holds_from_place}
use Rattle.mesh_writer.proofs.Leaves.{all_written}
use Rattle.mesh_writer.proofs.Places.{among-place, number-place}

-- slots below a bound
pub corners_below : (mesh : Shape) (keys : List VertexKey) (ns : List Name) (ts : List (List ℕ)) → AllZip (HoldLeaf mesh keys) ns ts → All (AreBelow (length keys)) ts
corners_below mesh keys [] [] h = All-nil (AreBelow (length keys))
corners_below mesh keys [] (t ∷ ts) h = absurd h
corners_below mesh keys (n ∷ ns) [] h = absurd h
corners_below mesh keys (n ∷ ns) (t ∷ ts) h = All-cons (AreBelow (length keys)) t ts (h.0.first.inside, h.0.second.inside, h.0.third.inside) (corners_below mesh keys ns ts h.1)

slots_below : (n : ℕ) (ts : List (List ℕ)) → All (AreBelow n) ts → All (IsBelow n) (slots_of ts)
slots_below n [] all = All-nil (IsBelow n)
slots_below n (t ∷ ts) all =
    let h = all zero t (omega arith) in
    All-cons (IsBelow n) (slot_at t 0) (slot_at t 1 ∷ slot_at t 2 ∷ slots_of ts) h.0 (All-cons (IsBelow n) (slot_at t 1) (slot_at t 2 ∷ slots_of ts) h.1 (All-cons (IsBelow n) (slot_at t 2) (slots_of ts) h.2 (slots_below n ts (λ i d inside. all (suc i) d (omega (arith, inside))))))

first_below : (n count : ℕ) → count ≤ n → All (IsBelow n) (first_slots count)
first_below n zero h = All-nil (IsBelow n)
first_below n (suc k) h = let low : k < n = omega arith in
    All-append (IsBelow n) (first_slots k) (k ∷ []) (first_below n k (omega arith)) (All-cons (IsBelow n) k [] low (All-nil (IsBelow n)))

grown_below : (n : ℕ) (seen : List ℕ) (s : ℕ) (b : Bool) → All (IsBelow n) seen → s < n → All (IsBelow n) (cond b seen (seen ++ s ∷ []))
grown_below n seen s true h low = h
grown_below n seen s false h low = All-append (IsBelow n) seen (s ∷ []) h (All-cons (IsBelow n) s [] low (All-nil (IsBelow n)))

with_below : (n : ℕ) (seen ss : List ℕ) → All (IsBelow n) seen → All (IsBelow n) ss → All (IsBelow n) (with_slots seen ss)
with_below n seen [] h all = h
with_below n seen (s ∷ ss) h all = with_below n (cond (is_some (place_in s seen)) seen (seen ++ s ∷ [])) ss (grown_below n seen s (is_some (place_in s seen)) h (all zero s (omega arith))) (λ i d inside. all (suc i) d (omega (arith, inside)))

pub order_below : (n count : ℕ) (corners : List (List ℕ)) (order : List ℕ) → count ≤ n → All (AreBelow n) corners → order ≡ with_slots (first_slots count) (slots_of corners) → All (IsBelow n) order
order_below n count corners order h all is = subst (All (IsBelow n)) (sym is) (with_below n (first_slots count) (slots_of corners) (first_below n count h) (slots_below n corners all))

-- slots of different vertices
module _ (vertex : ℕ → Vertex) (n : ℕ) (apart : (a b : ℕ) → a < n → b < n → same (vertex a) (vertex b) ≡ eqb a b) where
  place_moved : (s : ℕ) (us : List ℕ) → s < n → All (IsBelow n) us → place_of (vertex s) (map vertex us) ≡ place_in s us
  place_moved s [] low all = refl
  place_moved s (u ∷ us) low all = λ i. cond (apart s u low (all zero u (omega arith)) i) (Some 0) (option_map (λ k. k + 1) (place_moved s us low (λ j d inside. all (suc j) d (omega (arith, inside))) i))

  grown_moved : (seen : List ℕ) (s : ℕ) (b : Bool) → map vertex (cond b seen (seen ++ s ∷ [])) ≡ cond b (map vertex seen) (map vertex seen ++ vertex s ∷ [])
  grown_moved seen s true = refl
  grown_moved seen s false = map-append vertex seen (s ∷ [])

  pub with_moved : (seen ss : List ℕ) → All (IsBelow n) seen → All (IsBelow n) ss → map vertex (with_slots seen ss) ≡ with_new (map vertex seen) (map vertex ss)
  with_moved seen [] h all = refl
  with_moved seen (s ∷ ss) h all =
      let low = all zero s (omega arith) in
      let b = is_some (place_in s seen) in
      let known : b ≡ is_among (vertex s) (map vertex seen) = ap is_some (sym (place_moved s seen low h)) ∙ sym (among-place (vertex s) (map vertex seen)) in
      with_moved (cond b seen (seen ++ s ∷ [])) ss (grown_below n seen s b h low) (λ i d inside. all (suc i) d (omega (arith, inside)))
      ∙ ap (λ (l : List Vertex). with_new l (map vertex ss)) (grown_moved seen s b ∙ ap (λ (c : Bool). cond c (map vertex seen) (map vertex seen ++ vertex s ∷ [])) known)

  pub number_moved : (s : ℕ) (us : List ℕ) → s < n → All (IsBelow n) us → is_among (vertex s) (map vertex us) ≡ true → number_in s us ≡ number_of (vertex s) (map vertex us)
  number_moved s us low all among = either (place_in s us) refl
    where
      either : (o : Option ℕ) → place_in s us ≡ o → number_in s us ≡ number_of (vertex s) (map vertex us)
      either (Some k) e = ap (λ (p : Option ℕ). unwrap_or p 0) e ∙ sym (number-place (vertex s) (map vertex us) k (place_moved s us low all ∙ e))
      either None e = absurd (true≢false (sym among ∙ among-place (vertex s) (map vertex us) ∙ ap is_some (place_moved s us low all ∙ e)))

-- the vertices in slots
module _ (mesh : Mesh) (slots : Slots) (are : AreSlots mesh slots) where
  abbrev keys : List VertexKey
  keys = slots.keys.items

  abbrev vertex : ℕ → Vertex
  vertex s = vertex_of (shape_of mesh) (key_in keys s)

  apart : (a b : ℕ) → a < length keys → b < length keys → same (vertex a) (vertex b) ≡ eqb a b
  apart a b ha hb = both_ways _ _
      (λ h. eq-eqb a b (some_same (sym (are.own a ha) ∙ ap (λ (v : Vertex). place_of v (map (vertex_of (shape_of mesh)) keys)) (same-is (vertex a) (vertex b) h) ∙ are.own b hb)))
      (λ h. ⊎_elim (λ (e : a ≡ b). ap (λ (k : ℕ). same (vertex a) (vertex k)) (sym e) ∙ same_self (vertex a)) (λ (ne : a ≡ b → ⊥). absurd (true≢false (sym h ∙ ne_eqb a b ne))) (cases_eq a b))
    where
      some_same : Some a ≡ Some b → a ≡ b
      some_same e = cc

  corners_moved : (ns : List Name) (ts : List (List ℕ)) → AllZip (HoldLeaf (shape_of mesh) keys) ns ts → map vertex (slots_of ts) ≡ corners_of (shape_of mesh) ns
  corners_moved [] [] h = refl
  corners_moved [] (t ∷ ts) h = absurd h
  corners_moved (n ∷ ns) [] h = absurd h
  corners_moved (n ∷ ns) (t ∷ ts) h = λ i. h.0.first.is i ∷ h.0.second.is i ∷ h.0.third.is i ∷ corners_moved ns ts h.1 i

  macro_held : (k : ℕ) → k < length mesh.vertices → Holds (shape_of mesh) keys k (Corner k)
  macro_held k low = holds_from_place (shape_of mesh) keys (Corner k) k (sym (are.tell (Macro k) low))

  macro_moved : (count : ℕ) → count ≤ length mesh.vertices → map vertex (first_slots count) ≡ macro_vertices count
  macro_moved zero h = refl
  macro_moved (suc k) h = map-append vertex (first_slots k) (k ∷ []) ∙ (λ i. macro_moved k (omega arith) i ++ (macro_held k (omega arith)).is i ∷ [])

  pub macro_fit : (count : ℕ) → count ≤ length mesh.vertices → count ≤ length keys
  macro_fit zero h = omega arith
  macro_fit (suc k) h = let held = macro_held k (omega arith) in omega (arith, held.inside)

  module _ (leaves : List Name) (corners : List (List ℕ)) (hold : AllZip (HoldLeaf (shape_of mesh) keys) leaves corners) (order : List ℕ) (is : order ≡ with_slots (first_slots (length mesh.vertices)) (slots_of corners)) where
    below : All (AreBelow (length keys)) corners
    below = corners_below (shape_of mesh) keys leaves corners hold

    fit : length mesh.vertices ≤ length keys
    fit = macro_fit (length mesh.vertices) (omega arith)

    pub in_order : All (IsBelow (length keys)) order
    in_order = order_below (length keys) (length mesh.vertices) corners order fit below is

    pub written_moved : map vertex order ≡ vertices (shape_of mesh) (length mesh.vertices) leaves
    written_moved = ap (map vertex) is
        ∙ with_moved vertex (length keys) apart (first_slots (length mesh.vertices)) (slots_of corners) (first_below (length keys) (length mesh.vertices) fit) (slots_below (length keys) corners below)
        ∙ (λ i. with_new (macro_moved (length mesh.vertices) (omega arith) i) (corners_moved leaves corners hold i))

    triple_moved : (n : Name) (t : List ℕ) → HoldLeaf (shape_of mesh) keys n t → IsWritten (shape_of mesh) (map vertex order) n → numbered order t ≡ numbers (shape_of mesh) (map vertex order) n
    triple_moved n t h w =
        let one = λ (s : ℕ) (v : Vertex) (held : Holds (shape_of mesh) keys s v) (among : is_among v (map vertex order) ≡ true).
        number_moved vertex (length keys) apart s order held.inside in_order (ap (λ (u : Vertex). is_among u (map vertex order)) held.is ∙ among) ∙ ap (λ (u : Vertex). number_of u (map vertex order)) held.is in
        λ i. one (slot_at t 0) (triangle (shape_of mesh) n).0 h.first w.first i ∷ one (slot_at t 1) (triangle (shape_of mesh) n).1 h.second w.second i ∷ one (slot_at t 2) (triangle (shape_of mesh) n).2 h.third w.third i ∷ []

    each_moved : (ns : List Name) (ts : List (List ℕ)) → AllZip (HoldLeaf (shape_of mesh) keys) ns ts → All (IsWritten (shape_of mesh) (map vertex order)) ns → map (numbered order) ts ≡ map (numbers (shape_of mesh) (map vertex order)) ns
    each_moved [] [] h w = refl
    each_moved [] (t ∷ ts) h w = absurd h
    each_moved (n ∷ ns) [] h w = absurd h
    each_moved (n ∷ ns) (t ∷ ts) h w = λ i. triple_moved n t h.0 (w zero n (omega arith)) i ∷ each_moved ns ts h.1 (λ j d inside. w (suc j) d (omega (arith, inside))) i

    pub triples_moved : map (numbered order) corners ≡ map (numbers (shape_of mesh) (vertices (shape_of mesh) (length mesh.vertices) leaves)) leaves
    triples_moved = each_moved leaves corners hold (all_written (shape_of mesh) (length mesh.vertices) leaves (map vertex order) written_moved)
        ∙ ap (λ (l : List Vertex). map (numbers (shape_of mesh) l) leaves) written_moved

  pub keys_moved : (order : List ℕ) → map (vertex_of (shape_of mesh)) (map (key_in keys) order) ≡ map vertex order
  keys_moved [] = refl
  keys_moved (s ∷ ss) = ap (λ (l : List Vertex). vertex s ∷ l) (keys_moved ss)

  pub keys_right : (order : List ℕ) → All (IsBelow (length keys)) order → All (IsKeyOf mesh) (map (key_in keys) order)
  keys_right [] all = All-nil (IsKeyOf mesh)
  keys_right (s ∷ ss) all = All-cons (IsKeyOf mesh) (key_in keys s) (map (key_in keys) ss) (are.keys s (Macro 0) (all zero s (omega arith))) (keys_right ss (λ i d inside. all (suc i) d (omega (arith, inside))))

  pub points_moved : (order : List ℕ) → All (IsBelow (length keys)) order → map (point_in slots.points.items) order ≡ map (point mesh.vertices) (map vertex order)
  points_moved [] all = refl
  points_moved (s ∷ ss) all = λ i. at i ∷ points_moved ss (λ j d inside. all (suc j) d (omega (arith, inside))) i
    where
      at : point_in slots.points.items s ≡ point mesh.vertices (vertex s)
      at = ap (λ (ps : List Point). point_in ps s) are.points ∙ get_or-map (point_of_key mesh) keys s (Macro 0) (pos 0, pos 0) (all zero s (omega arith))

pub points_below : (mesh : Mesh) (slots : Slots) → AreSlots mesh slots → (order : List ℕ) → All (IsBelow (length slots.keys.items)) order → All (IsBelow (length slots.points.items)) order
points_below mesh slots are order all = subst (λ (n : ℕ). All (IsBelow n) order) (sym (ap length are.points ∙ length-map slots.keys.items (point_of_key mesh))) all
