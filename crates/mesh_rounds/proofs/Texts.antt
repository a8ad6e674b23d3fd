-- What the text of a mesh asks of its values, from its state.
use Rattle.std.proofs.Common.{◌≡◌, sym, subst, ⊎_elim, inl, inr, List, [], ◌∷◌, refl}
use Rattle.std.specs.Prelude.{All, IsSome}
use Rattle.std.specs.FinSet.{contains, contains-empty, empty}
use Rattle.std.proofs.lemmas.List.Elements.{All-nil, All-cons}
use Rattle.mesh_names.specs.Names.{Name, name_cmp}
use Rattle.mesh_names.specs.Triangles.{Shape, Vertex, IsCorner, triangle}
use Rattle.mesh_names.specs.Forests.{Has, IsForest, IsLeaf, IsListOf, Names}
use Rattle.mesh_names.specs.Leaves.{leaves}
use Rattle.mesh_names.specs.Conformity.{HoldsPartners}
use Rattle.mesh_names.specs.declared.patch.VertexKey.TheVariants.{Macro}
use Rattle.mesh_names.proofs.Leaving.{leaves_are}
use Rattle.mesh_names.proofs.Sets.{In, both_sides, in-has}
use Rattle.compat_check.specs.Meshes.{IsChecked, Mesh, across_in, shape_of}
use Rattle.dof_transfer.specs.Changes.{AreOfForest}
use Rattle.dof_transfer.specs.Held.{Held, value_of}
use Rattle.dof_transfer.specs.VertexNames.{AreOfVertices, StandsIn}
use Rattle.dof_transfer.specs.VertexValues.{VertexHeld}
use Rattle.mesh_rounds.specs.State.{IsFirst, IsState, State}
use Rattle.mesh_rounds.specs.Texts.{AreLeaves}
use Rattle.mesh_rounds.proofs.CornerKeys.{corners_stand}
use Rattle.mesh_rounds.proofs.ValuesStay.{first_elements, first_vertices}
use Rattle.mesh_writer.specs.MeshText.{HasSome, HaveValues}

each-in : (P : Name → Type 0) (ns : List Name) → ((n : Name) → In n ns → P n) → All P ns
each-in P [] h = All-nil P
each-in P (n ∷ ns) h = All-cons P n ns (h n (inl refl)) (each-in P ns (λ m i. h m (inr i)))

module _ (mesh : Mesh) (checked : IsChecked mesh) (members : Names) (forest : IsForest (shape_of mesh) members) (holds : HoldsPartners (across_in mesh) members) (list : List Name) (is : IsListOf (leaves (shape_of mesh) members) list) where
  listed-leaf : (n : Name) → In n list → IsLeaf (shape_of mesh) members n
  listed-leaf n i = (leaves_are (shape_of mesh) members forest n).0 (subst (λ (s : Names). Has s n) is.all (in-has n list i))

  pub leaves-have : (held : Held) → AreOfForest (shape_of mesh) members held → All (λ n. IsSome (value_of held n)) list
  leaves-have held are = each-in (λ n. IsSome (value_of held n)) list (λ n i. (are.live n).0 (listed-leaf n i))

  module _ (held : VertexHeld) (are : AreOfVertices mesh members held) where
    standing-has : (v : Vertex) → StandsIn mesh members v → HasSome mesh held v
    standing-has v stands =
        let r = are.vertices stands.key stands.inside in
        (r.0, record { key = stands.key; names = stands.names; is = r.1 })

    corner-has : (n : Name) → IsLeaf (shape_of mesh) members n → (v : Vertex) → IsCorner v (triangle (shape_of mesh) n) → HasSome mesh held v
    corner-has n leaf v =
        let t = triangle (shape_of mesh) n in
        let stand = corners_stand mesh checked members holds forest.closed n.0 n.1 leaf.rooted leaf.born in
        let to : (u : Vertex) → StandsIn mesh members u → v ≡ u → HasSome mesh held v = λ u s e. subst (HasSome mesh held) (sym e) (standing-has u s) in
        ⊎_elim (to t.0 stand.first) (⊎_elim (to t.1 stand.second) (to t.2 stand.third))

    pub vertices-have : HaveValues mesh list held
    vertices-have = record {
      macros = λ i low. let r = are.vertices (Macro i) low in (r.0, record { key = Macro i; names = record { only = tt; of_mesh = tt; is = refl }; is = r.1 });
      corners = each-in (λ n. (v : Vertex) → IsCorner v (triangle (shape_of mesh) n) → HasSome mesh held v) list (λ n i. corner-has n (listed-leaf n i));
    }

-- the leaves of a state, listed
pub record CanWrite (mesh : Mesh) (list : List Name) (state : State) : Type 0 where
  pub vertices : HaveValues mesh list state.vertices
  pub elements : All (λ n. IsSome (value_of state.elements n)) list

pub can-write : (mesh : Mesh) → IsChecked mesh → (state : State) → IsState mesh state → (list : List Name) → AreLeaves mesh state list → CanWrite mesh list state
can-write mesh checked state is list are = record {
  vertices = vertices-have mesh checked state.members is.forest is.partners list are state.vertices is.vertices;
  elements = leaves-have mesh checked state.members is.forest is.partners list are state.elements is.elements;
}

-- the leaves are listed, by other words
pub leaves-listed : (shape shape' : Shape) (members : Names) (list list' : List Name) → shape ≡ shape' → list ≡ list' → IsListOf (leaves shape members) list → IsListOf (leaves shape' members) list'
leaves-listed shape shape' members list list' a b = subst (λ (t : Shape × List Name). IsListOf (leaves t.0 members) t.1) (λ i. (a i, b i))

-- before any round
pub first-state : (mesh : Mesh) (state : State) → IsFirst mesh state → IsState mesh state
first-state mesh state first = record {
  forest = subst (IsForest (shape_of mesh)) (sym first.members) elements.forest;
  partners = subst (HoldsPartners (across_in mesh)) (sym first.members) (λ r w m t h e. absurd (no_member (r, w) h));
  vertices = subst (λ (s : Names). AreOfVertices mesh s state.vertices) (sym first.members) (first_vertices mesh state.vertices first.vertices);
  elements = subst (λ (s : Names). AreOfForest (shape_of mesh) s state.elements) (sym first.members) elements;
} where
  elements : AreOfForest (shape_of mesh) empty state.elements
  elements = first_elements mesh state.elements first.elements

  no_member : (n : Name) → Has empty n → ⊥
  no_member n h = both_sides (contains empty n) h (contains-empty name_cmp n)
