-- Slots of vertices: the vertices that a walk has met, each once.
use Rattle.std.specs.Prelude.{◌≡◌, ◌<◌, ℕ, List, [], ◌∷◌, ◌++◌, length, map, All, Option, Some, None, slice_index_or}
use Rattle.mesh_names.specs.Names.{Name}
use Rattle.mesh_names.specs.Triangles.{Shape, Vertex, Triangle}
use Rattle.mesh_names.specs.Patches.{vertex_of}
use Rattle.mesh_names.specs.declared.patch.VertexKey.{VertexKey}
use Rattle.mesh_names.specs.declared.patch.VertexKey.TheVariants.{Macro, Patch}
use Rattle.compat_check.specs.Meshes.{Mesh, shape_of}
use Rattle.compat_check.specs.Points.{Point, point}
use Rattle.mesh_writer.specs.Numbers.{IsKeyOf, place_of}
use Rattle.mesh_writer.specs.Owners.{AreRising, Puts, told_by}
use Rattle.mesh_writer.specs.declared.slots.Slots.{Slots}

-- the slot that is kept for a key
abbrev pub told : Slots → VertexKey → Option ℕ
told slots (Macro i) = Some i
told slots (Patch n) = told_by slots.owners n

-- where the vertex of a key lies
abbrev pub point_of_key : Mesh → VertexKey → Point
point_of_key mesh key = point mesh.vertices (vertex_of (shape_of mesh) key)

-- the keys are of the mesh and of different vertices, each key of the mesh is told the place of its vertex among them, and the points are theirs
pub record AreSlots (mesh : Mesh) (slots : Slots) : Type 0 where
  pub keys : All (IsKeyOf mesh) slots.keys.items
  pub tell : (key : VertexKey) → IsKeyOf mesh key → told slots key ≡ place_of (vertex_of (shape_of mesh) key) (map (vertex_of (shape_of mesh)) slots.keys.items)
  pub own : (s : ℕ) → s < length slots.keys.items → place_of (vertex_of (shape_of mesh) (slice_index_or slots.keys.items s (Macro 0))) (map (vertex_of (shape_of mesh)) slots.keys.items) ≡ Some s
  pub rising : AreRising slots.owners
  pub points : slots.points.items ≡ map (point_of_key mesh) slots.keys.items

-- the owner has the slot that it had, or where it had none the next one
abbrev pub AddsOwner : Name → Point → Option ℕ → Slots → Slots → ℕ → Type 0
AddsOwner n p (Some s) old new slot = (new ≡ old) × (slot ≡ s)
AddsOwner n p None old new slot = (new.keys.items ≡ old.keys.items ++ Patch n ∷ []) × (new.points.items ≡ old.points.items ++ p ∷ []) × AreRising new.owners × Puts n (length old.keys.items) old.owners new.owners × (slot ≡ length old.keys.items)

-- the key has this slot, which is a new one only where it had none
abbrev pub AddsSlot : VertexKey → Point → Slots → Slots → ℕ → Type 0
AddsSlot (Macro i) p old new slot = (new ≡ old) × (slot ≡ i)
AddsSlot (Patch n) p old new slot = AddsOwner n p (told_by old.owners n) old new slot

-- the vertex has this slot
pub record Holds (mesh : Shape) (keys : List VertexKey) (s : ℕ) (v : Vertex) : Type 0 where
  pub inside : s < length keys
  pub is : vertex_of mesh (slice_index_or keys s (Macro 0)) ≡ v

abbrev pub slot_at : List ℕ → ℕ → ℕ
slot_at slots k = slice_index_or slots k 0

-- the three slots hold the corners of the triangle
pub record HoldCorners (mesh : Shape) (keys : List VertexKey) (t : Triangle) (slots : List ℕ) : Type 0 where
  pub first : Holds mesh keys (slot_at slots 0) t.0
  pub second : Holds mesh keys (slot_at slots 1) t.1
  pub third : Holds mesh keys (slot_at slots 2) t.2

-- the old slots stand as they did
abbrev pub Grows : List VertexKey → List VertexKey → Type 0
Grows old new = (more : List VertexKey) × (new ≡ old ++ more)
