-- The values of written vertices and of leaves.
use Rattle.std.proofs.Common.{◌≡◌, ℕ, zero, suc, ◌+◌, ◌<◌, ℤ, Bool, true, false, cond, refl, sym, ap, ◌∙◌, List, [], ◌∷◌, ◌++◌, length, map, arith, true≢false, inl, inr}
use Rattle.std.specs.Prelude.{All, Option, Some, IsSome}
use Rattle.std.specs.Option.{is_some}
use Rattle.std.specs.List.{AllZip}
use Rattle.std.proofs.lemmas.List.Elements.{All-nil, All-cons, All-append, All-head, All-tail}
use Rattle.mesh_names.specs.Names.{Name}
use Rattle.mesh_names.specs.Triangles.{Vertex, Corner, Mid, IsCorner, middle, same, triangle}
use Rattle.mesh_names.specs.Patches.{vertex_of}
use Rattle.mesh_names.proofs.Middles.{same_self}
use Rattle.mesh_names.specs.declared.patch.VertexKey.{VertexKey}
use Rattle.mesh_names.specs.declared.patch.VertexKey.TheVariants.{Macro, Patch}
use Rattle.compat_check.specs.Meshes.{Mesh, across_in, shape_of}
use Rattle.dof_transfer.specs.VertexNames.{HasAt}
use Rattle.dof_transfer.specs.VertexValues.{IsKeyOf as Names, VertexHeld, value_at}
use Rattle.mesh_writer.specs.MeshText.{HasSome, HaveValues}
use Rattle.mesh_writer.specs.Numbering.{corners_of, is_among, macro_vertices, vertices, with_new}
use Rattle.mesh_writer.specs.Numbers.{IsKeyOf}
use Rattle.mesh_writer.proofs.Adding.{Laws}
use Rattle.mesh_writer.proofs.OneKey.{corner-middle, owners_are_one}

-- what holds of the macro vertices and of the leaves' corners holds of all written vertices
module _ (P : Vertex → Type 0) where
  of_macros : (k count : ℕ) → k < count + 1 → ((i : ℕ) → i < count → P (Corner i)) → All P (macro_vertices k)
  of_macros zero count low each = All-nil P
  of_macros (suc k) count low each = All-append P (macro_vertices k) (Corner k ∷ []) (of_macros k count (omega arith) each) (All-cons P (Corner k) [] (each k (omega arith)) (All-nil P))

  of_new : (seen vs : List Vertex) → All P seen → All P vs → All P (with_new seen vs)
  of_new seen [] old new = old
  of_new seen (v ∷ vs) old new = of_new (cond (is_among v seen) seen (seen ++ v ∷ [])) vs (either (is_among v seen)) (All-tail P v vs new)
    where
      either : (b : Bool) → All P (cond b seen (seen ++ v ∷ []))
      either true = old
      either false = All-append P seen (v ∷ []) old (All-cons P v [] (All-head P v vs new) (All-nil P))

  of_corners : (mesh : Mesh) (leaves : List Name) → All (λ n. (v : Vertex) → IsCorner v (triangle (shape_of mesh) n) → P v) leaves → All P (corners_of (shape_of mesh) leaves)
  of_corners mesh [] each = All-nil P
  of_corners mesh (n ∷ ns) each =
      let Q = λ (m : Name). (v : Vertex) → IsCorner v (triangle (shape_of mesh) m) → P v in
      let t = triangle (shape_of mesh) n in
      let one = All-head Q n ns each in
      let rest = corners_of (shape_of mesh) ns in
      All-cons P t.0 (t.1 ∷ t.2 ∷ rest) (one t.0 (inl refl)) (All-cons P t.1 (t.2 ∷ rest) (one t.1 (inr (inl refl))) (All-cons P t.2 rest (one t.2 (inr (inr refl))) (of_corners mesh ns (All-tail Q n ns each))))

-- each written vertex has a value
pub written_have : (mesh : Mesh) (leaves : List Name) (held : VertexHeld) → HaveValues mesh leaves held → All (HasSome mesh held) (vertices (shape_of mesh) (length mesh.vertices) leaves)
written_have mesh leaves held have =
    let P = HasSome mesh held in
    of_new P (macro_vertices (length mesh.vertices)) (corners_of (shape_of mesh) leaves) (of_macros P (length mesh.vertices) (length mesh.vertices) (omega arith) have.macros) (of_corners P mesh leaves have.corners)

-- a key of the mesh names its vertex
names_own : (mesh : Mesh) (key : VertexKey) → IsKeyOf mesh key → Names mesh key (vertex_of (shape_of mesh) key)
names_own mesh (Macro i) is = record { only = tt; of_mesh = tt; is = refl }
names_own mesh (Patch n) is = record { only = is.0; of_mesh = is.1; is = refl }

-- a vertex has one key
abbrev corner_number : Vertex → ℕ
corner_number (Corner i) = i
corner_number (Mid a b) = 0

no_corner : (i : ℕ) (a b : Vertex) → Corner i ≡ middle a b → ⊥
no_corner i a b e = true≢false (sym (same_self (Corner i)) ∙ ap (same (Corner i)) e ∙ corner-middle i a b)

key-one : (mesh : Mesh) → Laws mesh → (v : Vertex) (j k : VertexKey) → Names mesh j v → Names mesh k v → j ≡ k
key-one mesh laws v (Macro i) (Macro j) a b = ap (λ (w : Vertex). Macro (corner_number w)) (a.is ∙ sym b.is)
key-one mesh laws v (Macro i) (Patch m) a b = absurd (no_corner i (triangle (shape_of mesh) m).0 (triangle (shape_of mesh) m).1 (a.is ∙ sym b.is))
key-one mesh laws v (Patch n) (Macro j) a b = absurd (no_corner j (triangle (shape_of mesh) n).0 (triangle (shape_of mesh) n).1 (b.is ∙ sym a.is))
key-one mesh laws v (Patch n) (Patch m) a b = ap Patch (owners_are_one (shape_of mesh) (across_in mesh) laws.only laws.pairs laws.tells n m a.of_mesh b.of_mesh a.only b.only (a.is ∙ sym b.is))

key_has : (mesh : Mesh) → Laws mesh → (held : VertexHeld) (key : VertexKey) → IsKeyOf mesh key → HasSome mesh held (vertex_of (shape_of mesh) key) → IsSome (value_at held key)
key_has mesh laws held key is some =
    let has = some.1 in
    let one : has.key ≡ key = key-one mesh laws (vertex_of (shape_of mesh) key) has.key key has.names (names_own mesh key is) in
    ap is_some (sym (ap (value_at held) one) ∙ has.is)

-- the keys of vertices with values have values
pub keys_have : (mesh : Mesh) → Laws mesh → (held : VertexHeld) (keys : List VertexKey) → All (IsKeyOf mesh) keys → All (HasSome mesh held) (map (vertex_of (shape_of mesh)) keys) → All (λ key. IsSome (value_at held key)) keys
keys_have mesh laws held [] are have = All-nil (λ key. IsSome (value_at held key))
keys_have mesh laws held (key ∷ keys) are have =
    let rest = map (vertex_of (shape_of mesh)) keys in
    All-cons (λ k. IsSome (value_at held k)) key keys
    (key_has mesh laws held key (All-head (IsKeyOf mesh) key keys are) (All-head (HasSome mesh held) (vertex_of (shape_of mesh) key) rest have))
    (keys_have mesh laws held keys (All-tail (IsKeyOf mesh) key keys are) (All-tail (HasSome mesh held) (vertex_of (shape_of mesh) key) rest have))

-- the first of two equal lists, and the others
same_head : {A : Type 0} (x y : A) (xs ys : List A) → x ∷ xs ≡ y ∷ ys → x ≡ y
same_head x y xs ys e = cc

same_tail : {A : Type 0} (x y : A) (xs ys : List A) → x ∷ xs ≡ y ∷ ys → xs ≡ ys
same_tail x y xs ys e = cc

-- values that were found one by one
pub found : {A : Type 0} (value : A → Option ℤ) (xs : List A) (vs : List ℤ) → map {B = Option ℤ} Some vs ≡ map value xs → AllZip (λ x v. value x ≡ Some v) xs vs
found value [] [] e = tt
found value [] (v ∷ vs) e = absurd (cc)
found value (x ∷ xs) [] e = absurd (cc)
found value (x ∷ xs) (v ∷ vs) e = (sym (same_head (Some v) (value x) (map Some vs) (map value xs) e), found value xs vs (same_tail (Some v) (value x) (map Some vs) (map value xs) e))

-- the values of keys are those of their vertices
pub vertices_found : (mesh : Mesh) (held : VertexHeld) (keys : List VertexKey) (vs : List ℤ) → All (IsKeyOf mesh) keys → AllZip (λ key v. value_at held key ≡ Some v) keys vs → AllZip (HasAt mesh held) (map (vertex_of (shape_of mesh)) keys) vs
vertices_found mesh held [] [] are each = tt
vertices_found mesh held [] (v ∷ vs) are each = each
vertices_found mesh held (key ∷ keys) [] are each = each
vertices_found mesh held (key ∷ keys) (v ∷ vs) are each = (
  record { key = key; names = names_own mesh key (All-head (IsKeyOf mesh) key keys are); is = each.0 },
  vertices_found mesh held keys vs (All-tail (IsKeyOf mesh) key keys are) each.1,
)

-- as many values as there are items
pub as_many : {A : Type 0} (R : A → ℤ → Type 0) (xs : List A) (vs : List ℤ) → AllZip R xs vs → length xs ≡ length vs
as_many R [] [] each = refl
as_many R [] (v ∷ vs) each = absurd each
as_many R (x ∷ xs) [] each = absurd each
as_many R (x ∷ xs) (v ∷ vs) each = ap suc (as_many R xs vs each.1)
