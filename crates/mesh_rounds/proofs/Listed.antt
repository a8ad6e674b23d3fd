-- The leaves of a forest: their list, their values and the values of their corners.
use Rattle.std.proofs.Common.{ℕ, zero, suc, ◌<◌, List, [], ◌∷◌, refl, ap, sym, subst, inl, inr, arith}
use Rattle.std.specs.Prelude.{IsSome, slice_index_or}
use Rattle.std.specs.List.{All}
use Rattle.mesh_names.specs.Names.{Name}
use Rattle.mesh_names.specs.Triangles.{IsCorner, Shape, Vertex, triangle}
use Rattle.mesh_names.specs.Forests.{Has, IsForest, IsInMesh, IsLeaf, IsListOf, Names}
use Rattle.mesh_names.specs.Leaves.{leaves}
use Rattle.mesh_names.specs.declared.patch.VertexKey.{VertexKey}
use Rattle.mesh_names.specs.declared.patch.VertexKey.TheVariants.{Macro, Patch}
use Rattle.mesh_names.proofs.Leaving.{leaves_are}
use Rattle.mesh_names.proofs.Sets.{In, has-in, in-has, item-in}
use Rattle.compat_check.specs.Meshes.{IsChecked, Mesh, shape_of}
use Rattle.dof_transfer.specs.Held.{value_of}
use Rattle.dof_transfer.specs.VertexNames.{IsVertexIn, StandsIn}
use Rattle.dof_transfer.specs.VertexValues.{IsKeyOf, value_at}
use Rattle.dof_transfer.proofs.NamedVertices.{Laws, key-one}
use Rattle.mesh_rounds.specs.Setting.{corner_at}
use Rattle.mesh_rounds.specs.State.{IsState, State}
use Rattle.mesh_rounds.specs.Taking.{HasCorners, IsAmong, IsCornerAmong, IsProper}
use Rattle.mesh_rounds.proofs.CornerKeys.{Stand, corners_stand}

in-among : (n : Name) (ns : List Name) → In n ns → IsAmong n ns
in-among n [] i = i
in-among n (m ∷ ms) (inl e) = inl e
in-among n (m ∷ ms) (inr i) = inr (in-among n ms i)

-- each leaf is listed, and each listed name is a leaf
pub leaf-listed : (mesh : Shape) (members : Names) (list : List Name) → IsForest mesh members → IsListOf (leaves mesh members) list → (n : Name) → IsLeaf mesh members n → IsAmong n list
leaf-listed mesh members list forest is n leaf = in-among n list (has-in n list (subst (λ (s : Names). Has s n) (sym is.all) ((leaves_are mesh members forest n).1 leaf)))

pub listed-leaves : (mesh : Shape) (members : Names) (list : List Name) → IsForest mesh members → IsListOf (leaves mesh members) list → All (IsLeaf mesh members) list
listed-leaves mesh members list forest is k d low =
    (leaves_are mesh members forest (slice_index_or list k d)).0 (subst (λ (s : Names). Has s (slice_index_or list k d)) is.all (in-has (slice_index_or list k d) list (item-in list k d low)))

-- a leaf is a name of the mesh
pub leaf-in-mesh : (mesh : Mesh) → IsChecked mesh → (members : Names) → IsForest (shape_of mesh) members → (n : Name) → IsLeaf (shape_of mesh) members n → IsInMesh (shape_of mesh) n
leaf-in-mesh mesh checked members forest (r, []) leaf = record { rooted = leaf.rooted; low = omega (arith, checked.low r leaf.rooted) }
leaf-in-mesh mesh checked members forest (r, b ∷ w) leaf = record { rooted = leaf.rooted; low = omega (arith, forest.shallow (r, w) (leaf.born b w refl)) }

-- a key of a vertex of the forest is the one of its vertex
pub vertex-proper : (mesh : Mesh) (members : Names) → IsForest (shape_of mesh) members → (key : VertexKey) → IsVertexIn mesh members key → IsProper mesh key
vertex-proper mesh members forest (Macro i) inside = record { only = tt; of_mesh = tt; is = refl }
vertex-proper mesh members forest (Patch n) inside = record { only = inside.1; of_mesh = forest.rooted n inside.0; is = refl }

module _ (mesh : Mesh) (laws : Laws mesh) (checked : IsChecked mesh) (state : State) (is : IsState mesh state) where
  pub leaf-live : (n : Name) → IsLeaf (shape_of mesh) state.members n → IsSome (value_of state.elements n)
  leaf-live n leaf = (is.elements.live n).0 leaf

  -- each corner of a leaf has a value
  pub leaf-corners : (n : Name) → IsLeaf (shape_of mesh) state.members n → HasCorners mesh state.vertices n
  leaf-corners n leaf k key low names =
      let stand : Stand mesh checked state.members (triangle (shape_of mesh) n) = corners_stand mesh checked state.members is.partners is.forest.closed n.0 n.1 leaf.rooted leaf.born in
      by k low names stand
    where
      told : (v : Vertex) → IsKeyOf mesh key v → StandsIn mesh state.members v → IsSome (value_at state.vertices key)
      told v named stands =
          let r = is.vertices.vertices stands.key stands.inside in
          subst IsSome (ap (value_at state.vertices) (key-one mesh laws v stands.key key stands.names named)) (subst IsSome (sym r.1) refl)

      by : (j : ℕ) → j < 3 → IsKeyOf mesh key (corner_at (triangle (shape_of mesh) n) j) → Stand mesh checked state.members (triangle (shape_of mesh) n) → IsSome (value_at state.vertices key)
      by zero h named stand = told (triangle (shape_of mesh) n).0 named stand.first
      by (suc zero) h named stand = told (triangle (shape_of mesh) n).1 named stand.second
      by (suc (suc j)) h named stand = told (triangle (shape_of mesh) n).2 named stand.third

-- a corner of a listed leaf is one of a leaf, and each corner of a leaf is one of a listed leaf
pub corner-listed : (mesh : Shape) (members : Names) (list : List Name) (v : Vertex) → ((n : Name) → IsLeaf mesh members n → IsAmong n list) → (n : Name) → IsLeaf mesh members n → IsCorner v (triangle mesh n) → IsCornerAmong mesh list v
corner-listed mesh members list v all n leaf corner = by list (all n leaf) where
  by : (ns : List Name) → IsAmong n ns → IsCornerAmong mesh ns v
  by [] i = elim i [ ]
  by (m ∷ ms) (inl e) = inl (subst (λ (q : Name). IsCorner v (triangle mesh q)) e corner)
  by (m ∷ ms) (inr i) = inr (by ms i)

pub listed-corner : (mesh : Shape) (members : Names) (v : Vertex) (list : List Name) → ((n : Name) → IsAmong n list → IsLeaf mesh members n) → IsCornerAmong mesh list v → (n : Name) × IsLeaf mesh members n × IsCorner v (triangle mesh n)
listed-corner mesh members v [] all i = elim i [ ]
listed-corner mesh members v (m ∷ ms) all (inl c) = (m, all m (inl refl), c)
listed-corner mesh members v (m ∷ ms) all (inr i) = listed-corner mesh members v ms (λ n j. all n (inr j)) i

-- a listed name, where all at places of the list are leaves
pub among-leaf : (mesh : Shape) (members : Names) (list : List Name) → IsForest mesh members → IsListOf (leaves mesh members) list → (n : Name) → IsAmong n list → IsLeaf mesh members n
among-leaf mesh members list forest is n among = (leaves_are mesh members forest n).0 (subst (λ (s : Names). Has s n) is.all (in-has n list (among-in list among))) where
  among-in : (ns : List Name) → IsAmong n ns → In n ns
  among-in [] i = i
  among-in (m ∷ ms) (inl e) = inl e
  among-in (m ∷ ms) (inr i) = inr (among-in ms i)
