-- A run from a written mesh goes on as if the mesh had never been written.
use Rattle.std.specs.Prelude.{◌≡◌, ◌<◌, ◌↔◌, ℤ, List, [], ◌∷◌, Some, length}
use Rattle.std.specs.FinSet.{empty}
use Rattle.std.specs.List.{AllZip}
use Rattle.mesh_names.specs.Names.{Name}
use Rattle.mesh_names.specs.Triangles.{Vertex, IsCorner, size, triangle}
use Rattle.mesh_names.specs.Forests.{Names, Within, IsLeaf}
use Rattle.mesh_names.specs.declared.rows.MarkRow.{MarkRow}
use Rattle.compat_check.specs.Meshes.{Mesh, across_in, shape_of}
use Rattle.dof_transfer.specs.Held.{value_of}
use Rattle.dof_transfer.specs.VertexNames.{HasAt}
use Rattle.forest_plain.specs.Rounds.{IsRoundRefusal, Room}
use Rattle.forest_plain.specs.declared.refusal.RoundRefusal.{RoundRefusal}
use Rattle.forest_plain.specs.declared.refusal.RoundRefusal.TheVariants.{Memory}
use Rattle.mesh_rounds.specs.State.{IsFirst, IsMeshRound, IsState, State}
use Rattle.mesh_writer.specs.Numbering.{vertices}
use Rattle.written_meshes.specs.Renaming.{renamed, renamed_vertex}
use Rattle.written_meshes.specs.ForestRenaming.{StandsFor}
use Rattle.written_meshes.specs.RoundRenaming.{AreRowsFor}
use Rattle.written_meshes.specs.WrittenTexts.{IsReadAgain}

-- rounds, one after another, that coarsen no member of a forest
abbrev pub AreRounds : Mesh → Names → List (List MarkRow) → List Room → State → State → Type 0
AreRounds mesh members [] [] old new = new ≡ old
AreRounds mesh members (rows ∷ rounds) (room ∷ rooms) old new =
    (next : State) × IsMeshRound mesh room rows old next × Within members next.members × AreRounds mesh members rounds rooms next new
AreRounds mesh members rounds rooms old new = ⊥

-- the forest and all values of one state stand for those of another
pub record StateStandsFor (mesh other : Mesh) (list : List Name) (new old : State) : Type 0 where
  pub members : StandsFor (shape_of other) (renamed list) new.members old.members
  pub elements : (n : Name) → n.0 < size (shape_of other) → value_of new.elements n ≡ value_of old.elements (renamed list n)
  pub vertices : (n : Name) → IsLeaf (shape_of other) new.members n → (v : Vertex) → IsCorner v (triangle (shape_of other) n) → (x : ℤ) →
      (HasAt other new.vertices v x ↔ HasAt mesh old.vertices (renamed_vertex (vertices (shape_of mesh) (length mesh.vertices) list) v) x)

-- a mesh that was written between two rounds, with the values that it had, and was read again
pub record IsGoingOn (mesh : Mesh) (state : State) (list : List Name) (other : Mesh) (first : State) : Type 0 where
  pub is_state : IsState mesh state
  pub vertex_values : List ℤ
  pub of_vertices : AllZip (HasAt mesh state.vertices) (vertices (shape_of mesh) (length mesh.vertices) list) vertex_values
  pub element_values : List ℤ
  pub of_leaves : AllZip (λ n v. value_of state.elements n ≡ Some v) list element_values
  pub again : IsReadAgain mesh state.members list vertex_values element_values other
  pub is_first : IsFirst other first

-- the next round, also one that coarsens a patch that was there at the writing, is refused from the other mesh, with the same pool,
-- only where memory runs out
abbrev pub NextIsNotRefused : Mesh → Mesh → List Name → State → State → Type 0
NextIsNotRefused mesh other list new old = (rows new_rows : List MarkRow) (room : Room) (next : State) (refusal : RoundRefusal) →
    AreRowsFor (shape_of other) (renamed list) new_rows rows → IsMeshRound mesh room rows old next →
    IsRoundRefusal (shape_of other) (across_in other) room new.members new_rows refusal → refusal ≡ Memory

-- the law that rounds which coarsen no patch that was there at the writing lead from the written mesh to a state that stands for theirs,
-- and that what is not refused after them is not refused there
abbrev pub WrittenContinues : Type 0
WrittenContinues = (mesh : Mesh) (state : State) (list : List Name) (other : Mesh) (first : State) → IsGoingOn mesh state list other first →
    (rounds new_rounds : List (List MarkRow)) (rooms : List Room) (end new_end : State) →
    AllZip (λ rows new_rows. AreRowsFor (shape_of other) (renamed list) new_rows rows) rounds new_rounds →
    AreRounds mesh state.members rounds rooms state end → AreRounds other empty new_rounds rooms first new_end →
    StateStandsFor mesh other list new_end end × NextIsNotRefused mesh other list new_end end
