-- What is told of a mesh in a state: its leaves, its text, and how much it has.
use Rattle.std.specs.Prelude.{◌≡◌, ℕ, ◌+◌, ◌-◌, List, length}
use Rattle.dof_admin.specs.Administration.{used_count}
use Rattle.mesh_names.specs.Names.{Name}
use Rattle.mesh_names.specs.Forests.{IsListOf}
use Rattle.mesh_names.specs.Leaves.{leaves}
use Rattle.mesh_names.specs.Patches.{patch_count}
use Rattle.compat_check.specs.Meshes.{Mesh, across_in, shape_of}
use Rattle.mesh_writer.specs.MeshText.{IsMeshText}
use Rattle.mesh_rounds.specs.State.{State}
use Rattle.mesh_rounds.specs.declared.adaptive.Counts.{Counts}

-- the list has the leaves of the mesh in this state, in their order
abbrev pub AreLeaves : Mesh → State → List Name → Type 0
AreLeaves mesh state list = IsListOf (leaves (shape_of mesh) state.members) list

-- the mesh has so many leaves in this state
abbrev pub HasLeaves : Mesh → State → ℕ → Type 0
HasLeaves mesh state count = (list : List Name) × AreLeaves mesh state list × (count ≡ length list)

-- the text of the mesh in this state
abbrev pub IsTextOfState : Mesh → State → List ℕ → Type 0
IsTextOfState mesh state text = (list : List Name) × AreLeaves mesh state list × IsMeshText mesh list state.vertices state.elements text

-- how many vertices there are: those of the macro mesh, also where no element has them, and one for each patch
abbrev pub vertex_count : Mesh → State → ℕ
vertex_count mesh state = length mesh.vertices + patch_count (across_in mesh) state.members

-- how many indices of vertices are not used
abbrev pub hole_count : State → ℕ
hole_count state = length state.vertices.patches.flags - used_count state.vertices.patches.flags

-- how much the mesh has in this state
pub record AreCounts (mesh : Mesh) (state : State) (counts : Counts) : Type 0 where
  pub leaves : HasLeaves mesh state counts.leaves
  pub vertices : counts.vertices ≡ vertex_count mesh state
  pub patches : counts.patches ≡ patch_count (across_in mesh) state.members
  pub holes : counts.holes ≡ hole_count state
