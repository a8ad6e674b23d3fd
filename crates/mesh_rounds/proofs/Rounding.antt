-- What a round makes of a state, from what its steps say.
use Rattle.std.proofs.Common.{◌≡◌, ℕ, List, subst, sym}
use Rattle.std.specs.List.{All}
use Rattle.mesh_names.specs.Names.{Name}
use Rattle.mesh_names.specs.Triangles.{Shape}
use Rattle.mesh_names.specs.Partners.{Across}
use Rattle.mesh_names.specs.Forests.{Names}
use Rattle.mesh_names.specs.declared.patch.RoundDelta.{RoundDelta}
use Rattle.mesh_names.specs.declared.rows.MarkRow.{MarkRow}
use Rattle.mesh_names.proofs.Only.{partner_is_only}
use Rattle.mesh_names.proofs.Pairs.{partners_pair}
use Rattle.compat_check.specs.Meshes.{IsChecked, Mesh, across_in, shape_of}
use Rattle.dof_transfer.proofs.NamedVertices.{Laws}
use Rattle.forest_plain.specs.AnyForest.{IsDone, Seen, room_in}
use Rattle.forest_plain.specs.Rounds.{IsFine, IsRoundBy, Room}
use Rattle.mesh_rounds.specs.declared.values.Values.{Values}
use Rattle.mesh_rounds.specs.RoundChanges.{CanFollow}
use Rattle.mesh_rounds.specs.Setting.{AreElementsSet, AreVerticesSet}
use Rattle.mesh_rounds.specs.State.{ElementsFollow, IsMeshRound, IsState, ListsLeaves, State, VerticesFollow, with_values}
use Rattle.mesh_rounds.specs.Taking.{LeavesSet, VerticesSet}
use Rattle.mesh_rounds.proofs.RoundLaws.{rounds_can_be_followed}
use Rattle.mesh_rounds.proofs.States.{elements-set, set-of-forest, set-of-vertices, vertices-set}
use Rattle.mesh_rounds.proofs.ValuesStay.{elements_stay, vertices_stay}

-- the laws of owners on a checked mesh
pub laws-of : (mesh : Mesh) → IsChecked mesh → Laws mesh
laws-of mesh checked = record { only = partner_is_only; pairs = partners_pair; tells = checked.tells }

-- the same leaves, rows and forest by other words
pub listed-as : (shape shape' : Shape) (members : Names) (rows rows' : List MarkRow) (list list' : List Name) → shape ≡ shape' → rows ≡ rows' → list ≡ list' → ListsLeaves shape members rows list → ListsLeaves shape' members rows' list'
listed-as shape shape' members rows rows' list list' a b c = subst (λ (t : Shape × List MarkRow × List Name). ListsLeaves t.0 members t.1 t.2) (λ i. (a i, b i, c i))

-- what a forest over this mesh tells of a round, where it looked the same before as at first
pub round-as : (mesh : Mesh) (first before after : Seen) (kept : ℕ) (rows : List MarkRow) (delta : RoundDelta) → before ≡ first → first.mesh ≡ shape_of mesh → first.sides ≡ across_in mesh → IsDone before kept rows after delta →
    IsRoundBy (shape_of mesh) (across_in mesh) (room_in first kept) first.members rows after.members delta
round-as mesh first before after kept rows delta as_first same sides done =
    let round = (subst (λ (s : Seen). IsDone s kept rows after delta) as_first done).round in
    subst (λ (s : Shape × Across). IsRoundBy s.0 s.1 (room_in first kept) first.members rows after.members delta) (λ i. (same i, sides i)) round

-- its rows can all be done
pub fine-of : (mesh : Mesh) (first before after : Seen) (kept : ℕ) (rows rows' : List MarkRow) (delta : RoundDelta) → rows' ≡ rows → before ≡ first → first.mesh ≡ shape_of mesh → first.sides ≡ across_in mesh → IsDone before kept rows after delta →
    All (IsFine (shape_of mesh) first.members) rows'
fine-of mesh first before after kept rows rows' delta same_rows as_first same sides done = subst (All (IsFine (shape_of mesh) first.members)) (sym same_rows) (round-as mesh first before after kept rows delta as_first same sides done).round.fine

module _ (mesh : Mesh) (checked : IsChecked mesh) (state : State) (is : IsState mesh state) (room : Room) (rows : List MarkRow) (new : Names) (delta : RoundDelta) (round : IsRoundBy (shape_of mesh) (across_in mesh) room state.members rows new delta) where
  pub can-follow : CanFollow mesh state.members new delta
  can-follow = rounds_can_be_followed mesh room state.members rows new delta (record { checked = checked; forest = is.forest; partners = is.partners; round = round })

  module _ (list : List Name) (listed : ListsLeaves (shape_of mesh) state.members rows list) (set : Values) (leaves : LeavesSet list rows state.elements set.elements) (vertices : VerticesSet mesh list rows state.vertices set.vertices)
      (after : Values) (vertices-follow : VerticesFollow mesh state.members delta new set.vertices after.vertices) (elements-follow : ElementsFollow mesh state.members delta new set.elements after.elements) where
    leaves-are : AreElementsSet mesh state.members rows state.elements set.elements
    leaves-are = elements-set mesh (laws-of mesh checked) checked state is rows list listed set.elements leaves

    vertices-are : AreVerticesSet mesh state.members rows state.vertices set.vertices
    vertices-are = vertices-set mesh (laws-of mesh checked) checked state is rows list listed set.vertices vertices

    pub rounded : IsMeshRound mesh room rows state (with_values new after)
    rounded = record {
      delta = delta;
      forest = round;
      vertices = record {
        set = set.vertices;
        rows_set = vertices-are;
        values = vertices-follow.values is.forest (set-of-vertices mesh (laws-of mesh checked) checked state is rows list listed set.vertices vertices-are) can-follow.transition;
        changed = vertices-follow.changed;
        change = vertices-follow.change;
        tidied = vertices-follow.tidied;
      };
      elements = record {
        set = set.elements;
        rows_set = leaves-are;
        values = elements-follow.values (set-of-forest mesh (laws-of mesh checked) checked state is rows list listed set.elements leaves-are) can-follow.change;
        tidied = elements-follow.tidied;
      };
    }

    pub next-state : IsState mesh (with_values new after)
    unfolding rounded
    next-state = record {
      forest = can-follow.forest;
      partners = can-follow.partners;
      vertices = vertices_stay mesh new set.vertices after.vertices rounded.vertices.values;
      elements = elements_stay (shape_of mesh) new set.elements after.elements can-follow.forest rounded.elements.values;
    }
