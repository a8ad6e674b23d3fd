-- A forest that is given whole, and the values that it has from those of the macro mesh.
use Rattle.std.specs.Prelude.{◌≡◌, []}
use Rattle.std.specs.FinSet.{empty}
use Rattle.mesh_names.specs.Forests.{Names, IsForest}
use Rattle.mesh_names.specs.Conformity.{HoldsPartners}
use Rattle.mesh_names.specs.declared.patch.RoundDelta.{RoundDelta}
use Rattle.compat_check.specs.Meshes.{Mesh, across_in, shape_of}
use Rattle.forest_plain.specs.Deltas.{AreBorn}
use Rattle.mesh_rounds.specs.State.{IsElementRound, IsFirst, IsVertexRound, State}

-- a conforming forest, and the patches that lead to it from the one in which nothing is bisected
pub record IsWhole (mesh : Mesh) (members : Names) (delta : RoundDelta) : Type 0 where
  pub forest : IsForest (shape_of mesh) members
  pub partners : HoldsPartners (across_in mesh) members
  pub born : AreBorn (shape_of mesh) (across_in mesh) empty members delta.born.items
  pub died : delta.died.items ≡ []

-- the members are those of a forest that is given whole, and the values are those after one round, without rows, that leads to it from the macro mesh
pub record IsResumed (mesh : Mesh) (state : State) : Type 0 where
  pub first : State
  pub is_first : IsFirst mesh first
  pub delta : RoundDelta
  pub whole : IsWhole mesh state.members delta
  pub vertices : IsVertexRound mesh empty [] delta state.members first.vertices state.vertices
  pub elements : IsElementRound mesh empty [] delta state.members first.elements state.elements
