-- What a round changes of a forest is what the values of vertices and elements can follow.
use Rattle.std.specs.Prelude.{◌<◌, ◌≤◌, List, All}
use Rattle.mesh_names.specs.Triangles.{size, level}
use Rattle.mesh_names.specs.Forests.{Names, IsForest}
use Rattle.mesh_names.specs.Conformity.{HoldsPartners}
use Rattle.mesh_names.specs.declared.patch.PatchName.{PatchName}
use Rattle.mesh_names.specs.declared.patch.RoundDelta.{RoundDelta}
use Rattle.mesh_names.specs.declared.rows.MarkRow.{MarkRow}
use Rattle.compat_check.specs.Meshes.{Mesh, IsChecked, across_in, shape_of}
use Rattle.forest_plain.specs.Rounds.{IsRoundBy, Room}
use Rattle.dof_transfer.specs.Exchanges.{IsPair, all_members}
use Rattle.dof_transfer.specs.Changes.{AreParents, IsChange}
use Rattle.dof_transfer.specs.VertexNames.{IsTransition}

-- a round that was done on a conforming forest of a checked mesh, and what it changed
pub record IsRoundOn (mesh : Mesh) (room : Room) (old : Names) (rows : List MarkRow) (new : Names) (delta : RoundDelta) : Type 0 where
  pub checked : IsChecked mesh
  pub forest : IsForest (shape_of mesh) old
  pub partners : HoldsPartners (across_in mesh) old
  pub round : IsRoundBy (shape_of mesh) (across_in mesh) room old rows new delta

-- this holds of each such round: of the mesh, the old and the new forest, and the patches
abbrev pub OfEachRound : (Mesh → Names → Names → RoundDelta → Type 0) → Type 0
OfEachRound Holds = (mesh : Mesh) (room : Room) (old : Names) (rows : List MarkRow) (new : Names) (delta : RoundDelta) → IsRoundOn mesh room old rows new delta → Holds mesh old new delta

-- the law that the new forest is one
abbrev pub NewIsForest : Type 0
NewIsForest = OfEachRound (λ mesh old new delta. IsForest (shape_of mesh) new)

-- the law that the new forest holds the partners of its members
abbrev pub NewHoldsPartners : Type 0
NewHoldsPartners = OfEachRound (λ mesh old new delta. HoldsPartners (across_in mesh) new)

-- the law that born patches are of one or two elements that can be bisected
abbrev pub BornArePairs : Type 0
BornArePairs = OfEachRound (λ mesh old new delta. All IsPair delta.born.items)

-- the law that the owners of born patches are of the mesh
abbrev pub BornAreRooted : Type 0
BornAreRooted = OfEachRound (λ mesh old new delta. All (λ (p : PatchName). p.first.0 < size (shape_of mesh)) delta.born.items)

-- the law that the owners of born patches are of levels that an element can have
abbrev pub BornAreLow : Type 0
BornAreLow = OfEachRound (λ mesh old new delta. All (λ (p : PatchName). level (shape_of mesh) p.first ≤ 24) delta.born.items)

-- the law that the members of died patches are of the mesh and can have children, and that none stands twice
abbrev pub DiedAreParents : Type 0
DiedAreParents = OfEachRound (λ mesh old new delta. AreParents (shape_of mesh) (all_members delta.died.items))

-- the law that a round's patches lead from the old forest to the new one, by elements: born patches are bisected in order, each when its members are leaves, and then the members of died ones are taken away level by level, each when its children are no members
abbrev pub RoundsAreChanges : Type 0
RoundsAreChanges = OfEachRound (λ mesh old new delta. IsChange (shape_of mesh) old delta.born.items delta.died.items new)

-- the law that a round's patches lead from the old forest to the new one, by vertices: the midpoints of born patches come in order, each when the ends of its edge are there, and then those of died ones go
abbrev pub RoundsAreTransitions : Type 0
RoundsAreTransitions = OfEachRound (λ mesh old new delta. IsTransition mesh old delta.born.items delta.died.items new)

-- all that the values of vertices and elements ask of a round's patches and say of them, and what the next round asks of the new forest
pub record CanFollow (mesh : Mesh) (old new : Names) (delta : RoundDelta) : Type 0 where
  pub pairs : All IsPair delta.born.items
  pub rooted : All (λ (p : PatchName). p.first.0 < size (shape_of mesh)) delta.born.items
  pub low : All (λ (p : PatchName). level (shape_of mesh) p.first ≤ 24) delta.born.items
  pub parents : AreParents (shape_of mesh) (all_members delta.died.items)
  pub change : IsChange (shape_of mesh) old delta.born.items delta.died.items new
  pub transition : IsTransition mesh old delta.born.items delta.died.items new
  pub forest : IsForest (shape_of mesh) new
  pub partners : HoldsPartners (across_in mesh) new

-- the law that values can follow each round
abbrev pub RoundsCanBeFollowed : Type 0
RoundsCanBeFollowed = OfEachRound CanFollow
