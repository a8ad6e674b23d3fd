-- A walk over names: frames, and corners in slots.
use Rattle.std.proofs.Common.{◌≡◌, ℕ, suc, ◌+◌, ◌<◌, Bool, true, false, refl, sym, ap, subst, ◌∙◌, List, [], ◌∷◌, ◌++◌, length, map, get_or, set, take, arith, true≢false, take-suc}
use Rattle.std.proofs.lemmas.List.{get_or_default, length-append, length-set, map-append}
use Rattle.std.proofs.lemmas.Grind.{get_or-set_at}
use Rattle.std.specs.Prelude.{All}
use Rattle.std.specs.List.{AllZip}
use Rattle.mesh_names.specs.Names.{Name}
use Rattle.mesh_names.specs.Forests.{IsInMesh}
use Rattle.mesh_names.specs.Triangles.{Shape, Triangle, Corner, corner_of, level, midpoint, same, size, triangle, triple_of}
use Rattle.mesh_names.specs.Patches.{IsKey, vertex_of}
use Rattle.mesh_names.specs.declared.patch.VertexKey.{VertexKey}
use Rattle.mesh_names.specs.declared.patch.VertexKey.TheVariants.{Macro, Patch}
use Rattle.mesh_names.proofs.Middles.{same_self}
use Rattle.compat_check.specs.Corners.{IsOfMesh}
use Rattle.compat_check.specs.Meshes.{Mesh, IsChecked, across_in, shape_of}
use Rattle.compat_check.specs.Points.{Point, point}
use Rattle.compat_check.specs.Steps.{child_of, name_of}
use Rattle.mesh_writer.specs.Numbers.{IsKeyOf}
use Rattle.mesh_writer.specs.Slots.{AddsSlot, AreSlots, Grows, HoldCorners, Holds}
use Rattle.mesh_writer.specs.Walks.{Entered, HoldLeaf, IsAt, IsFrame, IsWalk, child_slots}
use Rattle.mesh_writer.specs.declared.slots.Slots.{Slots}
use Rattle.mesh_writer.specs.declared.walk.Frame.{Frame}
use Rattle.mesh_writer.specs.declared.walk.Walk.{Walk}
use Rattle.mesh_writer.proofs.Adding.{Laws, added, grows_twice, holds_from_place, holds_grown}
use Rattle.mesh_writer.proofs.OneKey.{corner-middle}

pub corners_grown : (mesh : Shape) (old new : List VertexKey) (t : Triangle) (corners : List ℕ) → Grows old new → HoldCorners mesh old t corners → HoldCorners mesh new t corners
corners_grown mesh old new t corners grows h = record {
  first = holds_grown mesh old new _ t.0 grows h.first;
  second = holds_grown mesh old new _ t.1 grows h.second;
  third = holds_grown mesh old new _ t.2 grows h.third;
}

pub frame_grown : (mesh : Mesh) (old new : List VertexKey) (f : Frame) → Grows old new → IsFrame mesh old f → IsFrame mesh new f
frame_grown mesh old new f grows h = record {
  step = h.step;
  named = h.named;
  corners = corners_grown (shape_of mesh) old new (triangle (shape_of mesh) f.name) f.corners grows h.corners;
  middle = holds_grown (shape_of mesh) old new f.middle (midpoint (triangle (shape_of mesh) f.name)) grows h.middle;
}

pub frames_grown : (mesh : Mesh) (old new : List VertexKey) (fs : List Frame) → Grows old new → All (IsFrame mesh old) fs → All (IsFrame mesh new) fs
frames_grown mesh old new fs grows all = λ i d inside. frame_grown mesh old new (get_or fs i d) grows (all i d inside)

-- the key of a midpoint is of the mesh
key_is : (mesh : Mesh) (key : VertexKey) (t : Triangle) → IsKey (across_in mesh) key → IsOfMesh (shape_of mesh) key → vertex_of (shape_of mesh) key ≡ midpoint t → IsKeyOf mesh key
key_is mesh (Macro i) t owner rooted stands = absurd (true≢false (sym (same_self (Corner i)) ∙ ap (same (Corner i)) stands ∙ corner-middle i t.0 t.1))
key_is mesh (Patch n) t owner rooted stands = (owner, rooted)

-- what is shown of a midpoint that got its slot
pub record IsMiddle (mesh : Mesh) (n : Name) (old new : Slots) (slot : ℕ) : Type 0 where
  pub slots : AreSlots mesh new
  pub grows : Grows old.keys.items new.keys.items
  pub middle : Holds (shape_of mesh) new.keys.items slot (midpoint (triangle (shape_of mesh) n))

pub middle_added : (mesh : Mesh) → Laws mesh → (n : Name) (key : VertexKey) (p : Point) (old new : Slots) (slot : ℕ) → AreSlots mesh old → IsKey (across_in mesh) key → IsOfMesh (shape_of mesh) key → vertex_of (shape_of mesh) key ≡ midpoint (triangle (shape_of mesh) n) →
    p ≡ point mesh.vertices (midpoint (triangle (shape_of mesh) n)) → AddsSlot key p old new slot → IsMiddle mesh n old new slot
middle_added mesh laws n key p old new slot slots owner rooted stands lies adds =
    let one = added mesh laws key p old new slot slots (key_is mesh key (triangle (shape_of mesh) n) owner rooted stands) (lies ∙ ap (point mesh.vertices) (sym stands)) adds in
    record { slots = one.slots; grows = one.grows; middle = subst (Holds (shape_of mesh) new.keys.items slot) stands one.holds }

-- the corners of a macro element
pub top_corners : (mesh : Mesh) (slots : Slots) (n m : Name) (triple : List ℕ) → AreSlots mesh slots → IsChecked mesh → n.0 < size (shape_of mesh) → n.1 ≡ [] → m ≡ n → triple ≡ triple_of (shape_of mesh) n.0 → HoldCorners (shape_of mesh) slots.keys.items (triangle (shape_of mesh) m) triple
top_corners mesh slots n m triple slots_are checked rooted top same_name is =
    let shape = shape_of mesh in
    let t = triple_of shape n.0 in
    let place = λ (k : ℕ) (low : k < 3). holds_from_place shape slots.keys.items (Corner (corner_of t k)) (corner_of t k) (sym (slots_are.tell (Macro (corner_of t k)) (checked.corners n.0 k rooted low))) in
    let hold : HoldCorners shape slots.keys.items (triangle shape (n.0, [])) t = record { first = place 0 (omega arith); second = place 1 (omega arith); third = place 2 (omega arith) } in
    let whole : (n.0, []) ≡ m = (λ i. (n.0, sym top i)) ∙ sym same_name in
    subst (λ (p : Name × List ℕ). HoldCorners shape slots.keys.items (triangle shape p.0) p.1) (λ i. (whole i, sym is i)) hold

-- the corners of a child
pub child_corners : (mesh : Shape) (keys : List VertexKey) (parent n : Name) (side : Bool) (corners : List ℕ) (middle : ℕ) → HoldCorners mesh keys (triangle mesh parent) corners → Holds mesh keys middle (midpoint (triangle mesh parent)) → n ≡ child_of parent side → HoldCorners mesh keys (triangle mesh n) (child_slots corners middle side)
child_corners mesh keys parent n side corners middle h m named = subst (λ (k : Name). HoldCorners mesh keys (triangle mesh k) (child_slots corners middle side)) (sym named) (either side)
  where
    either : (b : Bool) → HoldCorners mesh keys (triangle mesh (child_of parent b)) (child_slots corners middle b)
    either false = record { first = h.third; second = h.first; third = m }
    either true = record { first = h.second; second = h.third; third = m }

-- the parent of a name in the mesh
pub parent_in : (mesh : Shape) (n parent : Name) (side : Bool) → IsInMesh mesh n → n ≡ child_of parent side → IsInMesh mesh parent × (level mesh parent < 24)
parent_in mesh n parent side h named =
    let root : n.0 ≡ parent.0 = ap (λ (m : Name). m.0) named in
    let high : level mesh n ≡ level mesh (child_of parent side) = ap (level mesh) named in
    (record { rooted = subst (λ (r : ℕ). r < size mesh) root h.rooted; low = omega (arith, high, h.low) }, omega (arith, high, h.low))

-- corners of leaves stay in their slots
pub leaves_grown : (mesh : Shape) (old new : List VertexKey) → Grows old new → (ns : List Name) (ts : List (List ℕ)) → AllZip (HoldLeaf mesh old) ns ts → AllZip (HoldLeaf mesh new) ns ts
leaves_grown mesh old new grows [] [] h = tt
leaves_grown mesh old new grows [] (t ∷ ts) h = h
leaves_grown mesh old new grows (n ∷ ns) [] h = h
leaves_grown mesh old new grows (n ∷ ns) (t ∷ ts) h = (corners_grown mesh old new (triangle mesh n) t grows h.0, leaves_grown mesh old new grows ns ts h.1)

leaf_push : (mesh : Shape) (keys : List VertexKey) (ns : List Name) (ts : List (List ℕ)) (n : Name) (t : List ℕ) → AllZip (HoldLeaf mesh keys) ns ts → HoldLeaf mesh keys n t → AllZip (HoldLeaf mesh keys) (ns ++ n ∷ []) (ts ++ t ∷ [])
leaf_push mesh keys [] [] n t h one = (one, tt)
leaf_push mesh keys [] (u ∷ ts) n t h one = absurd h
leaf_push mesh keys (m ∷ ns) [] n t h one = absurd h
leaf_push mesh keys (m ∷ ns) (u ∷ ts) n t h one = (h.0, leaf_push mesh keys ns ts n t h.1 one)

-- the corners of one leaf more
pub next_corners : (mesh : Shape) (old new : List VertexKey) (leaves : List Name) (i : ℕ) (n d : Name) (ts us : List (List ℕ)) (t : List ℕ) → i < length leaves → n ≡ get_or leaves i d → Grows old new → AllZip (HoldLeaf mesh old) (take i leaves) ts → HoldLeaf mesh new n t → us ≡ ts ++ t ∷ [] → AllZip (HoldLeaf mesh new) (take (i + 1) leaves) us
next_corners mesh old new leaves i n d ts us t low is grows h one more =
    let after : i + 1 ≡ suc i = omega arith in
    let front : take (i + 1) leaves ≡ take i leaves ++ n ∷ [] = ap (λ (k : ℕ). take k leaves) after ∙ take-suc leaves i d low ∙ (λ j. take i leaves ++ sym is j ∷ []) in
    subst (λ (p : List Name × List (List ℕ)). AllZip (HoldLeaf mesh new) p.0 p.1) (sym (λ k. (front k, more k)))
    (leaf_push mesh new (take i leaves) ts n t (leaves_grown mesh old new grows (take i leaves) ts h) one)

-- the walk to a child after the walk to its parent
pub entered_after : (mesh : Mesh) (n m : Name) (old now new : Walk) (above place : ℕ) → Entered mesh m old now above → Entered mesh n now new place → Entered mesh n old new place
entered_after mesh n m old now new above place one two = record {
  walk = two.walk;
  grows = grows_twice old.slots.keys.items now.slots.keys.items new.slots.keys.items one.grows two.grows;
  at = two.at;
}

-- the frame that stands at a place
pub record IsFrameOf (mesh : Mesh) (keys : List VertexKey) (n : Name) (f : Frame) : Type 0 where
  pub frame : IsFrame mesh keys f
  pub name : f.name ≡ n
  pub stepped : name_of f.step ≡ n

pub frame_at : (mesh : Mesh) (walk : Walk) (n : Name) (place : ℕ) (f : Frame) → IsWalk mesh walk → IsAt walk n place → f ≡ get_or walk.last.items place f → IsFrameOf mesh walk.slots.keys.items n f
frame_at mesh walk n place f right at is =
    let frame : IsFrame mesh walk.slots.keys.items f = subst (IsFrame mesh walk.slots.keys.items) (sym is) (right.frames place f at.inside) in
    let name : f.name ≡ n = ap (λ (g : Frame). g.name) is ∙ at.named f in
    record { frame = frame; name = name; stepped = frame.named ∙ name }

pub named_at : (walk : Walk) (n : Name) (place : ℕ) (f : Frame) → place < length walk.last.items → f ≡ get_or walk.last.items place f → f.name ≡ n → IsAt walk n place
named_at walk n place f low is same = record { inside = low; named = λ d. ap (λ (g : Frame). g.name) (get_or_default walk.last.items place d f low ∙ sym is) ∙ same }

-- the corners of a child, by its parent's frame
pub corners_below_frame : (mesh : Mesh) (keys : List VertexKey) (parent n : Name) (side : Bool) (f : Frame) → IsFrameOf mesh keys parent f → n ≡ child_of parent side → HoldCorners (shape_of mesh) keys (triangle (shape_of mesh) n) (child_slots f.corners f.middle side)
corners_below_frame mesh keys parent n side f h named =
    child_corners (shape_of mesh) keys parent n side f.corners f.middle
    (subst (λ (m : Name). HoldCorners (shape_of mesh) keys (triangle (shape_of mesh) m) f.corners) h.name h.frame.corners)
    (subst (λ (m : Name). Holds (shape_of mesh) keys f.middle (midpoint (triangle (shape_of mesh) m))) h.name h.frame.middle) named

-- a frame is put over another, or after all
pub put_over : (old new : List Frame) (place : ℕ) (f : Frame) → place < length old → new ≡ set old place f → (place < length new) × ((d : Frame) → (get_or new place d).name ≡ f.name)
put_over old new place f low is = (omega (arith, low, ap length is, length-set old place f), λ d. ap (λ (fs : List Frame). (get_or fs place d).name) is ∙ ap (λ (g : Frame). g.name) (get_or-set_at old place place f d refl low))

pub put_after : (old new : List Frame) (f : Frame) → new ≡ old ++ f ∷ [] → (length old < length new) × ((d : Frame) → (get_or new (length old) d).name ≡ f.name)
put_after old new f is = (omega (arith, ap length is, length-append old (f ∷ [])), λ d. ap (λ (fs : List Frame). (get_or fs (length old) d).name) is ∙ ap (λ (g : Frame). g.name) (last old d))
  where
    last : (xs : List Frame) (d : Frame) → get_or (xs ++ f ∷ []) (length xs) d ≡ f
    last [] d = refl
    last (x ∷ xs) d = last xs d

-- a list made item by item
pub next_mapped : {A B : Type 0} (f : A → B) (xs : List A) (i : ℕ) (x d : A) (ys zs : List B) (y : B) → i < length xs → x ≡ get_or xs i d → ys ≡ map f (take i xs) → y ≡ f x → zs ≡ ys ++ y ∷ [] → zs ≡ map f (take (i + 1) xs)
next_mapped {A} f xs i x d ys zs y low is before one more =
    let after : i + 1 ≡ suc i = omega arith in
    let front : take (i + 1) xs ≡ take i xs ++ x ∷ [] = ap (λ (k : ℕ). take k xs) after ∙ take-suc xs i d low ∙ (λ j. take i xs ++ sym is j ∷ []) in
    more ∙ (λ j. before j ++ one j ∷ []) ∙ sym (map-append f (take i xs) (x ∷ [])) ∙ ap (map f) (sym front)
