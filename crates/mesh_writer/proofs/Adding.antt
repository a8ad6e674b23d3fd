-- A slot more.
use Rattle.std.proofs.Common.{◌≡◌, ℕ, zero, suc, ◌+◌, ◌<◌, ◌≤◌, Bool, true, false, cond, refl, sym, ap, subst, ◌∙◌, List, [], ◌∷◌, ◌++◌, length, get_or, map, arith, ⊎_elim, append_assoc}
use Rattle.std.proofs.lemmas.Bool.{cases_lt}
use Rattle.std.proofs.lemmas.List.{append-nil, map-append, length-append, length-map, get_or-map}
use Rattle.std.specs.Prelude.{All, Option, Some, None}
use Rattle.std.proofs.lemmas.List.Elements.{All-nil, All-cons, All-append}
use Rattle.std.specs.Option.{option_map}
use Rattle.std.specs.Ordering.{eq_by_cmp}
use Rattle.mesh_names.specs.Names.{Name, name_cmp}
use Rattle.mesh_names.specs.Triangles.{Shape, Vertex, Corner, same, triangle, midpoint}
use Rattle.mesh_names.specs.Partners.{Tells, PartnerIsOnly, PartnersPair}
use Rattle.mesh_names.specs.Patches.{vertex_of}
use Rattle.mesh_names.proofs.Middles.{same_self, same-is}
use Rattle.mesh_names.proofs.Sets.{tied-same}
use Rattle.mesh_names.specs.declared.patch.VertexKey.{VertexKey}
use Rattle.mesh_names.specs.declared.patch.VertexKey.TheVariants.{Macro, Patch}
use Rattle.compat_check.specs.Meshes.{Mesh, shape_of, across_in}
use Rattle.compat_check.specs.Points.{Point}
use Rattle.mesh_writer.specs.declared.slots.Slots.{Slots}
use Rattle.mesh_writer.specs.Numbers.{IsKeyOf, place_of}
use Rattle.mesh_writer.specs.Owners.{first_of, told_by}
use Rattle.mesh_writer.specs.Slots.{AddsOwner, AddsSlot, AreSlots, Grows, Holds, point_of_key, told}
use Rattle.mesh_writer.proofs.OneKey.{same-owners}
use Rattle.mesh_writer.proofs.Places.{place-push, first-none, first-over-none}

-- the laws of owners, and what the mesh tells
pub record Laws (mesh : Mesh) : Type 0 where
  pub only : PartnerIsOnly
  pub pairs : PartnersPair
  pub tells : Tells (shape_of mesh) (across_in mesh)

-- a place of a vertex is where it stands
place_holds : (v : Vertex) (us : List Vertex) (k : ℕ) → place_of v us ≡ Some k → (k < length us) × ((d : Vertex) → get_or us k d ≡ v)
place_holds v [] k e = absurd (cc)
place_holds v (u ∷ us) k e = either (same v u) refl (place_of v us) (λ j. place_holds v us j) k e
  where
    either : (b : Bool) → same v u ≡ b → (o : Option ℕ) → ((j : ℕ) → o ≡ Some j → (j < length us) × ((d : Vertex) → get_or us j d ≡ v)) → (k : ℕ) → cond b (Some 0) (option_map (λ j. j + 1) o) ≡ Some k → (k < length (u ∷ us)) × ((d : Vertex) → get_or (u ∷ us) k d ≡ v)
    either true is o h k e = let zero_is : 0 ≡ k = cc in (omega (arith, zero_is), λ d. ap (λ (j : ℕ). get_or (u ∷ us) j d) (sym zero_is) ∙ sym (same-is v u is))
    either false is None h k e = absurd (cc)
    either false is (Some j) h k e = let next : j + 1 ≡ k = cc in
        let r = h j refl in
        let one : suc j ≡ k = omega (arith, next) in
        (omega (arith, next, r.0), λ d. ap (λ (i : ℕ). get_or (u ∷ us) i d) (sym one) ∙ r.1 d)

-- a slot that is a place of the vertex holds it
pub holds_from_place : (mesh : Shape) (keys : List VertexKey) (v : Vertex) (s : ℕ) → place_of v (map (vertex_of mesh) keys) ≡ Some s → Holds mesh keys s v
holds_from_place mesh keys v s e =
    let r = place_holds v (map (vertex_of mesh) keys) s e in
    let low : s < length keys = omega (arith, r.0, length-map keys (vertex_of mesh)) in
    record { inside = low; is = sym (get_or-map (vertex_of mesh) keys s (Macro 0) (Corner 0) low) ∙ r.1 (Corner 0) }

-- a slot holds what it held
pub holds_grown : (mesh : Shape) (old new : List VertexKey) (s : ℕ) (v : Vertex) → Grows old new → Holds mesh old s v → Holds mesh new s v
holds_grown mesh old new s v grows h =
    record {
      inside = omega (arith, h.inside, ap length grows.1, length-append old grows.0);
      is = ap (λ (keys : List VertexKey). vertex_of mesh (get_or keys s (Macro 0))) grows.1 ∙ ap (vertex_of mesh) (front old grows.0 s h.inside) ∙ h.is;
    }
  where
    front : (xs ys : List VertexKey) (i : ℕ) → i < length xs → get_or (xs ++ ys) i (Macro 0) ≡ get_or xs i (Macro 0)
    front [] ys i low = absurd (omega (arith, low))
    front (x ∷ xs) ys zero low = refl
    front (x ∷ xs) ys (suc i) low = front xs ys i (omega (arith, low))

pub grows_not : (keys : List VertexKey) → Grows keys keys
grows_not keys = ([], sym (append-nil keys))

pub grows_twice : (a b c : List VertexKey) → Grows a b → Grows b c → Grows a c
grows_twice a b c one two = (one.0 ++ two.0, two.1 ∙ ap (λ (l : List VertexKey). l ++ two.0) one.1 ∙ append_assoc a one.0 two.0)

-- the slots, with one vertex more where it is new
pub record IsAdded (mesh : Mesh) (v : Vertex) (old new : Slots) (slot : ℕ) : Type 0 where
  pub slots : AreSlots mesh new
  pub grows : Grows old.keys.items new.keys.items
  pub holds : Holds (shape_of mesh) new.keys.items slot v

-- a key that has a slot is not added
known : (mesh : Mesh) (key : VertexKey) (old new : Slots) (k slot : ℕ) → AreSlots mesh old → IsKeyOf mesh key → told old key ≡ Some k → new ≡ old → slot ≡ k → IsAdded mesh (vertex_of (shape_of mesh) key) old new slot
known mesh key old new k slot slots is e same_slots same_slot =
    record {
      slots = subst (AreSlots mesh) (sym same_slots) slots;
      grows = subst (λ (s : Slots). Grows old.keys.items s.keys.items) (sym same_slots) (grows_not old.keys.items);
      holds = holds_from_place (shape_of mesh) new.keys.items (vertex_of (shape_of mesh) key) slot
          ((λ i. place_of (vertex_of (shape_of mesh) key) (map (vertex_of (shape_of mesh)) (same_slots i).keys.items)) ∙ sym (slots.tell key is) ∙ e ∙ ap Some (sym same_slot));
    }

-- a slot in the list with one vertex more
told_more : (o p : Option ℕ) (b : Bool) (k : ℕ) → (b ≡ true → o ≡ None) → o ≡ p → cond b (Some k) o ≡ first_of p (cond b (Some k) None)
told_more o p true k none e = sym (first-none (Some k) p (sym e ∙ none refl))
told_more o p false k none e = e ∙ sym (first-over-none p)

module _ (mesh : Mesh) (laws : Laws mesh) (n : Name) (p : Point) (old new : Slots) (slot : ℕ) (slots : AreSlots mesh old) (is : IsKeyOf mesh (Patch n)) (none : told_by old.owners n ≡ None) (adds : AddsOwner n p None old new slot) where
  abbrev vertex_at : VertexKey → Vertex
  vertex_at = vertex_of (shape_of mesh)

  abbrev before : List Vertex
  before = map vertex_at old.keys.items

  abbrev middle_of : Name → Vertex
  middle_of m = midpoint (triangle (shape_of mesh) m)

  count : length old.keys.items ≡ length before
  count = sym (length-map old.keys.items vertex_at)

  more : map vertex_at new.keys.items ≡ before ++ middle_of n ∷ []
  more = ap (map vertex_at) adds.0 ∙ map-append vertex_at old.keys.items (Patch n ∷ [])

  new_tell : (key : VertexKey) → IsKeyOf mesh key → told new key ≡ first_of (place_of (vertex_at key) before) (cond (same (vertex_at key) (middle_of n)) (Some (length before)) None)
  new_tell (Macro i) low = sym (ap (λ (o : Option ℕ). first_of o (cond (same (Corner i) (middle_of n)) (Some (length before)) None)) (sym (slots.tell (Macro i) low)))
  new_tell (Patch m) owner =
      let tied : same (middle_of m) (middle_of n) ≡ eq_by_cmp name_cmp n m = same-owners (shape_of mesh) (across_in mesh) laws.only laws.pairs laws.tells n m is.1 owner.1 is.0 owner.0 in
      adds.3 m ∙ told_more (told_by old.owners m) (place_of (middle_of m) before) (eq_by_cmp name_cmp n m) (length old.keys.items) (λ h. ap (told_by old.owners) (sym (tied-same n m h)) ∙ none) (slots.tell (Patch m) owner)
      ∙ (λ i. first_of (place_of (middle_of m) before) (cond (sym tied i) (Some (count i)) None))

  -- the new vertex stands last
  last_place : place_of (middle_of n) (map vertex_at new.keys.items) ≡ Some (length old.keys.items)
  last_place = ap (place_of (middle_of n)) more ∙ place-push (middle_of n) before (middle_of n)
      ∙ (λ i. first_of ((sym (slots.tell (Patch n) is) ∙ none) i) (cond (same_self (middle_of n) i) (Some (sym count i)) None))

  front_place : (v : Vertex) (s : ℕ) → place_of v before ≡ Some s → place_of v (map vertex_at new.keys.items) ≡ Some s
  front_place v s e = ap (place_of v) more ∙ place-push v before (middle_of n) ∙ ap (λ (o : Option ℕ). first_of o (cond (same v (middle_of n)) (Some (length before)) None)) e

  grown : Grows old.keys.items new.keys.items
  grown = (Patch n ∷ [], adds.0)

  new_own : (s : ℕ) → s < length new.keys.items → place_of (vertex_at (get_or new.keys.items s (Macro 0))) (map vertex_at new.keys.items) ≡ Some s
  new_own s inside = ⊎_elim
      (λ (low : s < length old.keys.items).
      let e = slots.own s low in
      let held = holds_grown (shape_of mesh) old.keys.items new.keys.items s (vertex_at (get_or old.keys.items s (Macro 0))) grown (record { inside = low; is = refl }) in
      ap (λ (v : Vertex). place_of v (map vertex_at new.keys.items)) held.is ∙ front_place (vertex_at (get_or old.keys.items s (Macro 0))) s e)
      (λ (high : length old.keys.items ≤ s).
      let last : s ≡ length old.keys.items = omega (arith, high, inside, ap length adds.0, length-append old.keys.items (Patch n ∷ [])) in
      let held = holds_from_place (shape_of mesh) new.keys.items (middle_of n) (length old.keys.items) last_place in
      ap (λ (k : ℕ). place_of (vertex_at (get_or new.keys.items k (Macro 0))) (map vertex_at new.keys.items)) last ∙ ap (λ (v : Vertex). place_of v (map vertex_at new.keys.items)) held.is ∙ last_place ∙ ap Some (sym last))
      (cases_lt s (length old.keys.items))

  pub new_owner : p ≡ point_of_key mesh (Patch n) → IsAdded mesh (middle_of n) old new slot
  new_owner at = record {
    slots = record {
      keys = subst (All (IsKeyOf mesh)) (sym adds.0) (All-append (IsKeyOf mesh) old.keys.items (Patch n ∷ []) slots.keys (All-cons (IsKeyOf mesh) (Patch n) [] is (All-nil (IsKeyOf mesh))));
      tell = λ key h. new_tell key h ∙ sym (place-push (vertex_at key) before (middle_of n)) ∙ ap (place_of (vertex_at key)) (sym more);
      own = new_own;
      rising = adds.2;
      points = adds.1 ∙ (λ i. slots.points i ++ at i ∷ []) ∙ sym (ap (map (point_of_key mesh)) adds.0 ∙ map-append (point_of_key mesh) old.keys.items (Patch n ∷ []));
    };
    grows = grown;
    holds = holds_from_place (shape_of mesh) new.keys.items (middle_of n) slot (last_place ∙ ap Some (sym adds.4));
  }

owner_added : (mesh : Mesh) → Laws mesh → (n : Name) (p : Point) (old new : Slots) (slot : ℕ) → AreSlots mesh old → IsKeyOf mesh (Patch n) → p ≡ point_of_key mesh (Patch n) → (o : Option ℕ) → told_by old.owners n ≡ o → AddsOwner n p o old new slot → IsAdded mesh (midpoint (triangle (shape_of mesh) n)) old new slot
owner_added mesh laws n p old new slot slots is at (Some k) e adds = known mesh (Patch n) old new k slot slots is e adds.0 adds.1
owner_added mesh laws n p old new slot slots is at None e adds = new_owner mesh laws n p old new slot slots is e adds at

pub added : (mesh : Mesh) → Laws mesh → (key : VertexKey) (p : Point) (old new : Slots) (slot : ℕ) → AreSlots mesh old → IsKeyOf mesh key → p ≡ point_of_key mesh key → AddsSlot key p old new slot → IsAdded mesh (vertex_of (shape_of mesh) key) old new slot
added mesh laws (Macro i) p old new slot slots is at adds = known mesh (Macro i) old new i slot slots is refl adds.0 adds.1
added mesh laws (Patch n) p old new slot slots is at adds = owner_added mesh laws n p old new slot slots is at (told_by old.owners n) refl adds
