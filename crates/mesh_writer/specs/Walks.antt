-- A walk over the leaves.
use Rattle.std.specs.Prelude.{◌≡◌, ◌<◌, ℕ, Bool, true, false, List, [], ◌∷◌, length, map, All, IfOk, Result, slice_index_or}
use Rattle.std.specs.declared.alloc.AllocError.{AllocError}
use Rattle.std.specs.List.{AllZip}
use Rattle.mesh_names.specs.Names.{Name}
use Rattle.mesh_names.specs.Triangles.{Shape, triangle, midpoint}
use Rattle.mesh_names.specs.declared.patch.VertexKey.{VertexKey}
use Rattle.compat_check.specs.Meshes.{Mesh, shape_of}
use Rattle.compat_check.specs.Points.{labels}
use Rattle.compat_check.specs.Steps.{IsStep, name_of}
use Rattle.mesh_writer.specs.Slots.{AreSlots, Grows, HoldCorners, Holds, slot_at}
use Rattle.mesh_writer.specs.declared.walk.Frame.{Frame}
use Rattle.mesh_writer.specs.declared.walk.Met.{Met}
use Rattle.mesh_writer.specs.declared.walk.Walk.{Walk}

-- the slots of a child's corners
abbrev pub child_slots : List ℕ → ℕ → Bool → List ℕ
child_slots corners middle false = slot_at corners 2 ∷ slot_at corners 0 ∷ middle ∷ []
child_slots corners middle true = slot_at corners 1 ∷ slot_at corners 2 ∷ middle ∷ []

-- the frame of a name holds its corners and its midpoint
pub record IsFrame (mesh : Mesh) (keys : List VertexKey) (f : Frame) : Type 0 where
  pub step : IsStep mesh f.step
  pub named : name_of f.step ≡ f.name
  pub corners : HoldCorners (shape_of mesh) keys (triangle (shape_of mesh) f.name) f.corners
  pub middle : Holds (shape_of mesh) keys f.middle (midpoint (triangle (shape_of mesh) f.name))

-- the vertices are in their slots, and the frames are right
pub record IsWalk (mesh : Mesh) (walk : Walk) : Type 0 where
  pub slots : AreSlots mesh walk.slots
  pub frames : All (IsFrame mesh walk.slots.keys.items) walk.last.items

-- the frame of the name stands at the place
pub record IsAt (walk : Walk) (n : Name) (place : ℕ) : Type 0 where
  pub inside : place < length walk.last.items
  pub named : (d : Frame) → (slice_index_or walk.last.items place d).name ≡ n

-- the walk has come to the name, whose frame stands at the place
pub record Entered (mesh : Mesh) (n : Name) (old new : Walk) (place : ℕ) : Type 0 where
  pub walk : IsWalk mesh new
  pub grows : Grows old.slots.keys.items new.slots.keys.items
  pub at : IsAt new n place

abbrev pub OnEntered : Mesh → Name → Walk → Walk → Result ℕ AllocError → Type 0
OnEntered mesh n old new result = IfOk result (Entered mesh n old new)

-- the slots hold the corners of the leaf
abbrev pub HoldLeaf : Shape → List VertexKey → Name → List ℕ → Type 0
HoldLeaf mesh keys n slots = HoldCorners mesh keys (triangle mesh n) slots

-- the vertices by slot, and the leaves' corners and labels
pub record AreMet (mesh : Mesh) (leaves : List Name) (met : Met) : Type 0 where
  pub slots : AreSlots mesh met.slots
  pub corners : AllZip (HoldLeaf (shape_of mesh) met.slots.keys.items) leaves met.corners.items
  pub labels : met.labels.items ≡ map (labels mesh) leaves
