-- From what a round's rows set to the values of the next state.
use Rattle.std.proofs.Common.{◌≡◌, ℕ, ◌<◌, ℤ, Bool, true, false, List, [], length, get_or, refl, ap, sym, ◌∙◌, subst, ⊎_elim, arith, true≢false, Option, Some, None}
use Rattle.std.specs.Prelude.{IfSome, IsSome, slice_index_or}
use Rattle.std.specs.List.{All}
use Rattle.mesh_names.specs.Names.{Name}
use Rattle.mesh_names.specs.Triangles.{Vertex}
use Rattle.mesh_names.specs.Forests.{IsInMesh, IsLeaf, IsListOf}
use Rattle.mesh_names.specs.Leaves.{leaves}
use Rattle.mesh_names.specs.Marks.{names_leaf}
use Rattle.mesh_names.specs.Patches.{vertex_of}
use Rattle.mesh_names.specs.declared.patch.VertexKey.{VertexKey}
use Rattle.mesh_names.specs.declared.rows.MarkRow.{MarkRow}
use Rattle.mesh_names.specs.declared.rows.What.{What}
use Rattle.mesh_names.specs.declared.rows.What.TheVariants.{Mark, Elem as element_value, Vert as vertex_value}
use Rattle.mesh_names.specs.declared.rows.Place.{Place}
use Rattle.mesh_names.specs.declared.rows.Place.TheVariants.{EveryLeaf, Elem, Corner}
use Rattle.mesh_names.proofs.Sets.{same-tied, tied-same}
use Rattle.compat_check.specs.Meshes.{IsChecked, Mesh, shape_of}
use Rattle.dof_transfer.specs.Changes.{AreOfForest}
use Rattle.dof_transfer.specs.Held.{Held, value_of}
use Rattle.dof_transfer.specs.VertexNames.{AreOfVertices, IsVertexIn}
use Rattle.dof_transfer.specs.VertexValues.{VertexHeld, value_at}
use Rattle.dof_transfer.proofs.NamedVertices.{Laws}
use Rattle.forest_plain.specs.Rounds.{IsFine, named}
use Rattle.mesh_rounds.specs.Setting.{AreElementsSet, AreVerticesSet, IsVertexAt, SetsLeaf, SetsVertexOf}
use Rattle.mesh_rounds.specs.State.{IsState, ListsLeaves, SetsEvery, State}
use Rattle.mesh_rounds.specs.Taking.{HasCorners, IsAmong, IsCornerAt, IsEvery, IsLeafAt, LeavesSet, MeansLeaf, MeansVertex, NamesAmong, NamesCorners, NamesLive, VerticesSet}
use Rattle.mesh_rounds.proofs.Lasts.{last-live, last-same}
use Rattle.mesh_rounds.proofs.Listed.{among-leaf, corner-listed, leaf-corners, leaf-in-mesh, leaf-listed, leaf-live, listed-corner, listed-leaves, vertex-proper}

element-no-mark : (what : What) → what ≡ element_value → what ≡ Mark → ⊥
element-no-mark what e m = true≢false (ap is_element (sym e ∙ m)) where
  is_element : What → Bool
  is_element Mark = false
  is_element element_value = true
  is_element vertex_value = false

vertex-no-mark : (what : What) → what ≡ vertex_value → what ≡ Mark → ⊥
vertex-no-mark what e m = true≢false (ap is_vertex (sym e ∙ m)) where
  is_vertex : What → Bool
  is_vertex Mark = false
  is_vertex element_value = false
  is_vertex vertex_value = true

module _ (mesh : Mesh) (laws : Laws mesh) (checked : IsChecked mesh) (state : State) (is : IsState mesh state) (rows : List MarkRow) (list : List Name) (listed : ListsLeaves (shape_of mesh) state.members rows list) where
  -- the leaves are listed where a row is for all of them
  all-listed : (k : ℕ) (d : MarkRow) → k < length rows → SetsEvery (get_or rows k d) → IsListOf (leaves (shape_of mesh) state.members) list
  all-listed k d low every = ⊎_elim
      (λ (l : IsListOf (leaves (shape_of mesh) state.members) list). l)
      (λ (n : (list ≡ []) × All (λ row. SetsEvery row → ⊥) rows). absurd (n.1 k d low every))
      listed

  -- whatever is listed is a leaf
  pub list-leaves : All (IsLeaf (shape_of mesh) state.members) list
  list-leaves = ⊎_elim
      (λ (l : IsListOf (leaves (shape_of mesh) state.members) list). listed-leaves (shape_of mesh) state.members list is.forest l)
      (λ (n : (list ≡ []) × All (λ row. SetsEvery row → ⊥) rows). subst (All (IsLeaf (shape_of mesh) state.members)) (sym n.0) nothing)
      listed where
        nothing : All (IsLeaf (shape_of mesh) state.members) []
        nothing k d low = absurd (none low) where
          none : k < 0 → ⊥
          none h = omega (arith, h)

  pub list-live : All (λ n. IsSome (value_of state.elements n)) list
  list-live k d low = leaf-live mesh laws checked state is (slice_index_or list k d) (list-leaves k d low)

  pub list-in-mesh : All (IsInMesh (shape_of mesh)) list
  list-in-mesh k d low = leaf-in-mesh mesh checked state.members is.forest (slice_index_or list k d) (list-leaves k d low)

  pub list-corners : All (HasCorners mesh state.vertices) list
  list-corners k d low = leaf-corners mesh laws checked state is (slice_index_or list k d) (list-leaves k d low)

  -- where a row is for every leaf, each live name is listed
  pub every-leaf : All (λ row. IsEvery element_value row → (n : Name) → IsSome (value_of state.elements n) → IsAmong n list) rows
  every-leaf k d low every n live = leaf-listed (shape_of mesh) state.members list is.forest (all-listed k d low (record { value = element-no-mark (get_or rows k d).what every.what_is; place = every.place })) n ((is.elements.live n).1 live)

  module _ (fine : All (IsFine (shape_of mesh) state.members) rows) where
    pub rows-live : All (NamesLive state.elements) rows
    rows-live k d low what = by (named (get_or rows k d).place) (fine k d low).leaf_named where
      by : (o : Option Name) → IfSome o (λ n. IsLeaf (shape_of mesh) state.members n) → IfSome o (λ n. IsSome (value_of state.elements n))
      by None h = h
      by (Some n) leaf = leaf-live mesh laws checked state is n leaf

    pub rows-corners : All (NamesCorners mesh state.vertices) rows
    rows-corners k d low what = by (named (get_or rows k d).place) (fine k d low).leaf_named where
      by : (o : Option Name) → IfSome o (λ n. IsLeaf (shape_of mesh) state.members n) → IfSome o (λ n. IsInMesh (shape_of mesh) n × HasCorners mesh state.vertices n)
      by None h = h
      by (Some n) leaf = (leaf-in-mesh mesh checked state.members is.forest n leaf, leaf-corners mesh laws checked state is n leaf)

    pub every-corner : All (λ row. IsEvery vertex_value row → All (NamesAmong list) rows) rows
    every-corner k d low every j e low_j what = by (named (get_or rows j e).place) (fine j e low_j).leaf_named where
      all : IsListOf (leaves (shape_of mesh) state.members) list
      all = all-listed k d low (record { value = vertex-no-mark (get_or rows k d).what every.what_is; place = every.place })

      by : (o : Option Name) → IfSome o (λ n. IsLeaf (shape_of mesh) state.members n) → IfSome o (λ n. IsAmong n list)
      by None h = h
      by (Some n) leaf = leaf-listed (shape_of mesh) state.members list is.forest all n leaf

  -- what was set, in the words of the forest
  pub elements-set : (new : Held) → LeavesSet list rows state.elements new → AreElementsSet mesh state.members rows state.elements new
  elements-set new set = record {
    values = λ n leaf. last-same (MeansLeaf list n) (SetsLeaf n) rows (value_of state.elements n) (value_of new n) (to n leaf) (from n leaf) (set.values n (tt, leaf-live mesh laws checked state is n leaf));
    none = set.none;
    indices = set.indices;
    flags = set.flags;
  } where
    to : (n : Name) → IsLeaf (shape_of mesh) state.members n → All (λ r. MeansLeaf list n r → SetsLeaf n r) rows
    to n leaf k d low means = record { what = means.what; place = by (get_or rows k d).place means.place } where
      by : (p : Place) → IsLeafAt list p n → names_leaf p n ≡ true
      by EveryLeaf at = refl
      by (Elem m) at = same-tied m n (sym at)
      by (Corner m j) at = elim at [ ]

    from : (n : Name) → IsLeaf (shape_of mesh) state.members n → All (λ r. SetsLeaf n r → MeansLeaf list n r) rows
    from n leaf k d low sets = record { what = sets.what; place = by (get_or rows k d).place refl sets.place } where
      by : (p : Place) → (get_or rows k d).place ≡ p → names_leaf p n ≡ true → IsLeafAt list p n
      by EveryLeaf e at = leaf-listed (shape_of mesh) state.members list is.forest (all-listed k d low (record { value = element-no-mark (get_or rows k d).what sets.what; place = e })) n leaf
      by (Elem m) e at = sym (tied-same m n at)
      by (Corner m j) e at = true≢false (sym at)

  pub vertices-set : (new : VertexHeld) → VerticesSet mesh list rows state.vertices new → AreVerticesSet mesh state.members rows state.vertices new
  vertices-set new set = record {
    values = λ key inside. last-same (MeansVertex (shape_of mesh) list (vertex_of (shape_of mesh) key)) (SetsVertexOf (shape_of mesh) state.members (vertex_of (shape_of mesh) key)) rows (value_at state.vertices key) (value_at new key) (to (vertex_of (shape_of mesh) key)) (from (vertex_of (shape_of mesh) key)) (set.values key (vertex-proper mesh state.members is.forest key inside, live key inside));
    none = set.none;
    indices = set.indices;
    flags = set.flags;
  } where
    live : (key : VertexKey) → IsVertexIn mesh state.members key → IsSome (value_at state.vertices key)
    live key inside = let r = is.vertices.vertices key inside in subst IsSome (sym r.1) refl

    to : (v : Vertex) → All (λ r. MeansVertex (shape_of mesh) list v r → SetsVertexOf (shape_of mesh) state.members v r) rows
    to v k d low means = record { what = means.what; place = by (get_or rows k d).place refl means.place } where
      by : (p : Place) → (get_or rows k d).place ≡ p → IsCornerAt (shape_of mesh) list p v → IsVertexAt (shape_of mesh) state.members p v
      by EveryLeaf e at = listed-corner (shape_of mesh) state.members v list (among-leaf (shape_of mesh) state.members list is.forest (all-listed k d low (record { value = vertex-no-mark (get_or rows k d).what means.what; place = e }))) at
      by (Elem m) e at = at
      by (Corner m j) e at = at

    from : (v : Vertex) → All (λ r. SetsVertexOf (shape_of mesh) state.members v r → MeansVertex (shape_of mesh) list v r) rows
    from v k d low sets = record { what = sets.what; place = by (get_or rows k d).place refl sets.place } where
      by : (p : Place) → (get_or rows k d).place ≡ p → IsVertexAt (shape_of mesh) state.members p v → IsCornerAt (shape_of mesh) list p v
      by EveryLeaf e at = corner-listed (shape_of mesh) state.members list v (leaf-listed (shape_of mesh) state.members list is.forest (all-listed k d low (record { value = vertex-no-mark (get_or rows k d).what sets.what; place = e }))) at.0 at.1 at.2
      by (Elem m) e at = at
      by (Corner m j) e at = at

  -- the same leaves and vertices have values after the rows
  pub set-of-forest : (new : Held) → AreElementsSet mesh state.members rows state.elements new → AreOfForest (shape_of mesh) state.members new
  set-of-forest new set = record {
    forest = is.forest;
    live = λ n. ((λ leaf. last-live (SetsLeaf n) rows (value_of state.elements n) (value_of new n) (leaf-live mesh laws checked state is n leaf) (set.values n leaf)), (λ live. (is.elements.live n).1 (had n live)));
  } where
    had : (n : Name) → IsSome (value_of new n) → IsSome (value_of state.elements n)
    had n live = by (value_of state.elements n) refl where
      by : (o : Option ℤ) → value_of state.elements n ≡ o → IsSome o
      by None e = absurd (true≢false (sym (subst IsSome (set.none n e) live)))
      by (Some z) e = refl

  pub set-of-vertices : (new : VertexHeld) → AreVerticesSet mesh state.members rows state.vertices new → AreOfVertices mesh state.members new
  set-of-vertices new set = record {
    vertices = λ key inside. some (value_at new key) (last-live (SetsVertexOf (shape_of mesh) state.members (vertex_of (shape_of mesh) key)) rows (value_at state.vertices key) (value_at new key) (live key inside) (set.values key inside));
    none = λ key no. set.none key (is.vertices.none key no);
  } where
    live : (key : VertexKey) → IsVertexIn mesh state.members key → IsSome (value_at state.vertices key)
    live key inside = let r = is.vertices.vertices key inside in subst IsSome (sym r.1) refl

    some : (o : Option ℤ) → IsSome o → (x : ℤ) × (o ≡ Some x) × Unit {0}
    some None h = absurd (true≢false (sym h))
    some (Some x) h = (x, refl, tt)
