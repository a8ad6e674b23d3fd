-- A run from a written mesh goes on as if the mesh had never been written.
use Rattle.std.proofs.Common.{◌≡◌, refl, sym, ap, subst, ◌∙◌, List, [], ◌∷◌, true≢false, ⊎_elim}
use Rattle.std.specs.Prelude.{ℤ, Option, Some, None, IsSome, is_some}
use Rattle.std.specs.List.{AllZip}
use Rattle.std.specs.FinSet.{empty}
use Rattle.mesh_names.specs.Names.{Name}
use Rattle.mesh_names.specs.Forests.{Names, Within}
use Rattle.mesh_names.specs.declared.rows.MarkRow.{MarkRow}
use Rattle.compat_check.specs.Meshes.{Mesh, across_in, shape_of}
use Rattle.dof_transfer.specs.Changes.{AreOfForest}
use Rattle.dof_transfer.specs.Held.{Held, value_of}
use Rattle.dof_transfer.specs.VertexNames.{AreOfVertices, AreVertexValues}
use Rattle.dof_transfer.specs.VertexValues.{VertexHeld}
use Rattle.forest_plain.specs.Rounds.{IsRoundRefusal, Room}
use Rattle.forest_plain.specs.declared.refusal.RoundRefusal.{RoundRefusal}
use Rattle.forest_plain.specs.declared.refusal.RoundRefusal.TheVariants.{Memory}
use Rattle.mesh_rounds.specs.ForestValues.{ElementsStay, FirstVertices}
use Rattle.mesh_rounds.specs.RoundChanges.{IsRoundOn, NewHoldsPartners, NewIsForest}
use Rattle.mesh_rounds.specs.Setting.{AreElementsSet, IsLast, SetsLeaf, TakesLast}
use Rattle.mesh_rounds.specs.State.{IsMeshRound, IsState, State}
use Rattle.written_meshes.specs.Continued.{AreRounds, IsGoingOn, StateStandsFor, WrittenContinues}
use Rattle.written_meshes.specs.ForestRenaming.{StandsFor}
use Rattle.written_meshes.specs.Renaming.{renamed}
use Rattle.written_meshes.specs.RoundRenaming.{AreRowsFor, IsRoundFor}
use Rattle.written_meshes.specs.ValueRenaming.{ForestStandsFor, ValuesStandFor}
use Rattle.written_meshes.proofs.FirstState.{first_elements, first_members, first_vertices}
use Rattle.written_meshes.proofs.RenamedRounds.{no_refusal, round_stands_for}
use Rattle.written_meshes.proofs.RenamedRows.{set_values_stand}
use Rattle.written_meshes.proofs.RenamedValues.{element_values_stand}
use Rattle.written_meshes.proofs.RenamedVertices.{Stand, corner_stands, name_stand, ren, set_stand}

-- rows that set values leave values where there were some, and make none
set_of : (mesh : Mesh) (members : Names) (rows : List MarkRow) (old set : Held) → AreOfForest (shape_of mesh) members old → AreElementsSet mesh members rows old set → AreOfForest (shape_of mesh) members set
set_of mesh members rows old set of is = record { forest = of.forest; live = λ n. ((λ leaf. there n ((of.live n).0 leaf) (is.values n leaf)), λ some. (of.live n).1 (back n some (value_of old n) refl)) }
  where
    there : (n : Name) → IsSome (value_of old n) → TakesLast (SetsLeaf n) rows (value_of old n) (value_of set n) → IsSome (value_of set n)
    there n had t = ⊎_elim (λ x. subst IsSome (sym x.1) had) (λ (x : IsLast (SetsLeaf n) rows (value_of set n)). subst IsSome (sym x.number) refl) t

    back : (n : Name) → IsSome (value_of set n) → (o : Option ℤ) → value_of old n ≡ o → IsSome (value_of old n)
    back n some None e = absurd (true≢false (sym some ∙ ap is_some (is.none n e)))
    back n some (Some v) e = subst IsSome (sym e) refl

vertices_of : (mesh : Mesh) (members : Names) (old new : VertexHeld) → AreVertexValues mesh members old new → AreOfVertices mesh members new
vertices_of mesh members old new are = record { vertices = λ key h. let v = are.vertices key h in (v.0, v.1, tt); none = are.none }

module _ (forests : NewIsForest) (holds : NewHoldsPartners) (stay : ElementsStay) (firsts : FirstVertices) (mesh other : Mesh) (state : State) (list : List Name) (first : State) (g : IsGoingOn mesh state list other first) where
  -- what is true between rounds
  record Going (new old : State) : Type 0 where
    is_state : IsState mesh old
    within : Within state.members old.members
    members : StandsFor (shape_of other) (renamed list) new.members old.members
    of_vertices : AreOfVertices other new.members new.vertices
    elements : ValuesStandFor (shape_of other) (renamed list) new.elements old.elements
    vertices : Stand mesh other state list first g new.vertices old.vertices

  abbrev Renamed : Names → Names → Type 0
  Renamed new old = ForestStandsFor (shape_of mesh) (shape_of other) (across_in mesh) state.members (renamed list) new old

  forest_of : (new old : State) → Going new old → Renamed new.members old.members
  forest_of new old i = record { forest = i.is_state.forest; partners = i.is_state.partners; within = i.within; stands = i.members }

  starts : Going first state
  starts = record {
    is_state = g.is_state;
    within = λ n h. h;
    members = first_members mesh other state list first g;
    of_vertices = subst (λ (s : Names). AreOfVertices other s first.vertices) (sym g.is_first.members) (firsts other first.vertices g.is_first.vertices);
    elements = first_elements mesh other state list first g;
    vertices = first_vertices mesh other state list first g;
  }

  module _ (new old : State) (i : Going new old) (rows new_rows : List MarkRow) (rows_for : AreRowsFor (shape_of other) (renamed list) new_rows rows) (room : Room) (next : State) (done : IsMeshRound mesh room rows old next) where
    round_for : IsRoundFor (shape_of mesh) (shape_of other) (across_in mesh) (across_in other) state.members (renamed list) room old.members new.members rows new_rows next.members
    round_for = record { forest = i.is_state.forest; partners = i.is_state.partners; within = i.within; stands = i.members; rows_for = rows_for; round = done.forest.round }

    not_refused : (refusal : RoundRefusal) → IsRoundRefusal (shape_of other) (across_in other) room new.members new_rows refusal → refusal ≡ Memory
    not_refused refusal h = no_refusal (shape_of mesh) (shape_of other) (across_in mesh) (across_in other) state.members (renamed list) (ren mesh other state list first g) room old.members new.members rows new_rows next.members round_for refusal h

    goes : Within state.members next.members → (new_next : State) → IsMeshRound other room new_rows new new_next → Going new_next next
    goes kept new_next here =
        let on : IsRoundOn mesh room old.members rows next.members done.delta = record { checked = g.again.written.writing.checked; forest = i.is_state.forest; partners = i.is_state.partners; round = done.forest } in
        let forest = forests mesh room old.members rows next.members done.delta on in
        let partners = holds mesh room old.members rows next.members done.delta on in
        let stands = round_stands_for (shape_of mesh) (shape_of other) (across_in mesh) (across_in other) state.members (renamed list) (ren mesh other state list first g) room old.members new.members rows new_rows next.members new_next.members round_for kept here.forest.round in
        let was = forest_of new old i in
        let now : Renamed new_next.members next.members = record { forest = forest; partners = partners; within = kept; stands = stands } in
        let set = set_values_stand (shape_of mesh) (shape_of other) (across_in mesh) (across_in other) state.members (renamed list) (ren mesh other state list first g) old.members new.members rows new_rows old.elements done.elements.set new.elements here.elements.set was i.is_state.elements i.elements rows_for done.elements.rows_set here.elements.rows_set in
        let spots = set_stand mesh other state list first g old.members new.members was rows new_rows rows_for old.vertices done.vertices.set new.vertices here.vertices.set i.is_state.vertices i.of_vertices done.vertices.rows_set here.vertices.rows_set i.vertices in
        record {
          is_state = record { forest = forest; partners = partners; vertices = vertices_of mesh next.members done.vertices.set next.vertices done.vertices.values; elements = stay (shape_of mesh) next.members done.elements.set next.elements forest done.elements.values };
          within = kept;
          members = stands;
          of_vertices = vertices_of other new_next.members here.vertices.set new_next.vertices here.vertices.values;
          elements = element_values_stand (shape_of mesh) (shape_of other) (across_in mesh) (across_in other) state.members (renamed list) (ren mesh other state list first g) old.members next.members new.members new_next.members done.elements.set next.elements here.elements.set new_next.elements was now
              (set_of mesh old.members rows old.elements done.elements.set i.is_state.elements done.elements.rows_set) set done.elements.values here.elements.values;
          vertices = name_stand mesh other state list first g next.members new_next.members now done.vertices.set here.vertices.set spots next.vertices new_next.vertices done.vertices.values here.vertices.values;
        }

  run : (rounds new_rounds : List (List MarkRow)) (rooms : List Room) (new old new_end end : State) → Going new old → AllZip (λ rows new_rows. AreRowsFor (shape_of other) (renamed list) new_rows rows) rounds new_rounds →
      AreRounds mesh state.members rounds rooms old end → AreRounds other empty new_rounds rooms new new_end → Going new_end end
  run [] [] [] new old new_end end i f there here = subst (λ (p : State × State). Going p.0 p.1) (λ k. (sym here k, sym there k)) i
  run [] [] (room ∷ rooms) new old new_end end i f there here = absurd there
  run [] (b ∷ new_rounds) rooms new old new_end end i f there here = absurd f
  run (a ∷ rounds) [] rooms new old new_end end i f there here = absurd f
  run (a ∷ rounds) (b ∷ new_rounds) [] new old new_end end i f there here = absurd there
  run (a ∷ rounds) (b ∷ new_rounds) (room ∷ rooms) new old new_end end i f there here =
      run rounds new_rounds rooms here.0 there.0 new_end end (goes new old i a b f.0 room there.0 there.1 there.2 here.0 here.1) f.1 there.3 here.3

  all_stands : (new old : State) → Going new old → StateStandsFor mesh other list new old
  all_stands new old i = record {
    members = i.members;
    elements = i.elements;
    vertices = λ n leaf v c x. i.vertices v (corner_stands mesh other state list first g n leaf.rooted v c) x;
  }

pub written_continues : NewIsForest → NewHoldsPartners → ElementsStay → FirstVertices → WrittenContinues
written_continues forests holds stay firsts mesh state list other first g rounds new_rounds rooms end new_end f there here =
    let i = run forests holds stay firsts mesh other state list first g rounds new_rounds rooms first state new_end end (starts forests holds stay firsts mesh other state list first g) f there here in (
      all_stands forests holds stay firsts mesh other state list first g new_end end i,
      λ rows new_rows room next refusal rows_for done refused. not_refused forests holds stay firsts mesh other state list first g new_end end i rows new_rows rows_for room next done refusal refused,
    )
