-- How vertices take a number.
use Rattle.std.proofs.Common.{◌≡◌, ◌≢◌, ℕ, zero, suc, ◌+◌, ◌<◌, ℤ, Bool, true, false, eqb, List, [], ◌∷◌, ◌++◌, take, length, get_or, refl, ap, sym, ◌∙◌, subst, None, ◌⊎◌, inl, inr, ⊎_elim, true≢false, arith, eqb-true, eq-eqb}
use Rattle.std.specs.Prelude.{IsSome}
use Rattle.std.proofs.lemmas.List.{take_more}
use Rattle.std.specs.Ordering.{eq_by_cmp}
use Rattle.mesh_names.specs.Names.{Name, name_cmp}
use Rattle.mesh_names.specs.Triangles.{IsCorner, Shape, Triangle, Vertex, triangle}
use Rattle.mesh_names.specs.Patches.{vertex_of}
use Rattle.mesh_names.specs.declared.patch.VertexKey.{VertexKey}
use Rattle.mesh_names.specs.declared.patch.VertexKey.TheVariants.{Macro, Patch}
use Rattle.mesh_names.proofs.Sets.{both_sides, is_or_not, same-tied, tied-same}
use Rattle.compat_check.specs.Corners.{AreCorners, key_at, triangle_by}
use Rattle.compat_check.specs.Meshes.{Mesh, shape_of}
use Rattle.dof_transfer.specs.VertexValues.{IsKeyOf, SetsVertex, VertexHeld, value_at}
use Rattle.dof_transfer.proofs.NamedVertices.{Laws, key-one}
use Rattle.mesh_rounds.specs.Setting.{corner_at, vertex_holding}
use Rattle.mesh_rounds.specs.Taking.{HasCorners, IsCornerAmong, IsProper, Takes, VerticesTake}
use Rattle.mesh_rounds.proofs.Taking.{both-take, live-kept, same-take}

-- two keys are equal, or they are not
key-either : (j k : VertexKey) → (j ≡ k) ⊎ (j ≢ k)
key-either (Macro i) (Macro j) = ⊎_elim (λ (e : eqb i j ≡ true). inl (ap Macro (eqb-true i j e))) (λ (n : eqb i j ≡ false). inr (λ e. no (ap number e) n)) (is_or_not (eqb i j)) where
  number : VertexKey → ℕ
  number (Macro k) = k
  number (Patch n) = 0

  no : i ≡ j → eqb i j ≡ false → ⊥
  no e n = true≢false (sym (eq-eqb i j e) ∙ n)
key-either (Macro i) (Patch m) = inr (λ e. true≢false (ap is_macro e)) where
  is_macro : VertexKey → Bool
  is_macro (Macro k) = true
  is_macro (Patch n) = false
key-either (Patch n) (Macro j) = inr (λ e. true≢false (ap is_patch e)) where
  is_patch : VertexKey → Bool
  is_patch (Macro k) = false
  is_patch (Patch n) = true
key-either (Patch n) (Patch m) = ⊎_elim (λ (e : eq_by_cmp name_cmp n m ≡ true). inl (ap Patch (tied-same n m e))) (λ (no : eq_by_cmp name_cmp n m ≡ false). inr (λ e. both_sides (eq_by_cmp name_cmp n m) (same-tied n m (ap owner e)) no)) (is_or_not (eq_by_cmp name_cmp n m)) where
  owner : VertexKey → Name
  owner (Macro k) = (0, [])
  owner (Patch q) = q

-- the value of one vertex is set
pub vertex-takes : (mesh : Mesh) → Laws mesh → (old new : VertexHeld) (v : Vertex) (key : VertexKey) (number : ℤ) → IsKeyOf mesh key v → IsSome (value_at old key) → SetsVertex old new key number → VerticesTake mesh (λ w. w ≡ v) number old new
vertex-takes mesh laws old new v key number names live set = record {
  values = values;
  none = none;
  indices = set.indices;
  flags = set.flags;
} where
  values : (q : VertexKey) → IsProper mesh q → IsSome (value_at old q) → Takes (vertex_of (shape_of mesh) q ≡ v) number (value_at old q) (value_at new q)
  values q proper l = ⊎_elim
      (λ (e : q ≡ key). inl (ap (vertex_of (shape_of mesh)) e ∙ names.is, ap (value_at new) e ∙ set.value))
      (λ (ne : q ≢ key). inr ((λ e. ne (key-one mesh laws v q key (record { only = proper.only; of_mesh = proper.of_mesh; is = e }) names)), set.others q ne))
      (key-either q key)

  none : (q : VertexKey) → value_at old q ≡ None → value_at new q ≡ None
  none q e = ⊎_elim
      (λ (t : q ≡ key). absurd (true≢false (sym (subst IsSome e (subst (λ (k : VertexKey). IsSome (value_at old k)) (sym t) live)))))
      (λ (ne : q ≢ key). set.others q ne ∙ e)
      (key-either q key)

-- the key of a corner
pub corner-key : (mesh : Mesh) (n : Name) (keys : List VertexKey) (k : ℕ) → k < 3 → AreCorners mesh n keys → IsKeyOf mesh (key_at keys k) (corner_at (triangle (shape_of mesh) n) k)
corner-key mesh n keys k low are = record {
  only = are.keys_are k low;
  of_mesh = are.of_mesh k low;
  is = by k low ∙ ap (λ (t : Triangle). corner_at t k) are.stand;
} where
  by : (j : ℕ) → j < 3 → vertex_of (shape_of mesh) (key_at keys j) ≡ corner_at (triangle_by (shape_of mesh) keys) j
  by zero h = refl
  by (suc zero) h = refl
  by (suc (suc zero)) h = refl
  by (suc (suc (suc j))) h = absurd (high h) where
    high : suc (suc (suc j)) < 3 → ⊥
    high g = omega (arith, g)

-- corners that had values have them
pub corners-kept : (mesh : Mesh) (meant : Vertex → Type 0) (number : ℤ) (old new : VertexHeld) (n : Name) → VerticesTake mesh meant number old new → HasCorners mesh old n → HasCorners mesh new n
corners-kept mesh meant number old new n takes has k key low names =
    live-kept vertex_holding (IsProper mesh) (λ (q : VertexKey). meant (vertex_of (shape_of mesh) q)) number old new takes key (record { only = names.only; of_mesh = names.of_mesh; is = refl }) (has k key low names)

-- the corners of one element, one after another
pub corners-take : (mesh : Mesh) (n : Name) (number : ℤ) (h0 h1 h2 h3 : VertexHeld)
    → VerticesTake mesh (λ v. v ≡ corner_at (triangle (shape_of mesh) n) 0) number h0 h1
    → VerticesTake mesh (λ v. v ≡ corner_at (triangle (shape_of mesh) n) 1) number h1 h2
    → VerticesTake mesh (λ v. v ≡ corner_at (triangle (shape_of mesh) n) 2) number h2 h3
    → VerticesTake mesh (λ v. IsCorner v (triangle (shape_of mesh) n)) number h0 h3
corners-take mesh n number h0 h1 h2 h3 a b c =
    let t = triangle (shape_of mesh) n in
    let at = vertex_of (shape_of mesh) in
    both-take vertex_holding (IsProper mesh) (λ (q : VertexKey). at q ≡ t.0) (λ (q : VertexKey). (at q ≡ t.1) ⊎ (at q ≡ t.2)) number h0 h1 h3 a
    (both-take vertex_holding (IsProper mesh) (λ (q : VertexKey). at q ≡ t.1) (λ (q : VertexKey). at q ≡ t.2) number h1 h2 h3 b c)

-- a list with one more
among-last : (mesh : Shape) (ns : List Name) (n : Name) (v : Vertex) → IsCornerAmong mesh ns v ⊎ IsCorner v (triangle mesh n) → IsCornerAmong mesh (ns ++ n ∷ []) v
among-last mesh [] n v (inl i) = elim i [ ]
among-last mesh [] n v (inr e) = inl e
among-last mesh (m ∷ ms) n v (inl (inl e)) = inl e
among-last mesh (m ∷ ms) n v (inl (inr i)) = inr (among-last mesh ms n v (inl i))
among-last mesh (m ∷ ms) n v (inr e) = inr (among-last mesh ms n v (inr e))

last-among : (mesh : Shape) (ns : List Name) (n : Name) (v : Vertex) → IsCornerAmong mesh (ns ++ n ∷ []) v → IsCornerAmong mesh ns v ⊎ IsCorner v (triangle mesh n)
last-among mesh [] n v (inl e) = inr e
last-among mesh [] n v (inr i) = elim i [ ]
last-among mesh (m ∷ ms) n v (inl e) = inl (inl e)
last-among mesh (m ∷ ms) n v (inr i) = ⊎_elim (λ (j : IsCornerAmong mesh ms v). inl (inr j)) (λ (e : IsCorner v (triangle mesh n)). inr e) (last-among mesh ms n v i)

-- the corners of the first elements of a list are set, and then those of one more
pub corners-more : (mesh : Mesh) (ns : List Name) (i : ℕ) (n : Name) (number : ℤ) (old mid new : VertexHeld) → i < length ns → n ≡ get_or ns i n
    → VerticesTake mesh (IsCornerAmong (shape_of mesh) (take i ns)) number old mid → VerticesTake mesh (λ v. IsCorner v (triangle (shape_of mesh) n)) number mid new
    → VerticesTake mesh (IsCornerAmong (shape_of mesh) (take (i + 1) ns)) number old new
corners-more mesh ns i n number old mid new within is first second =
    let shape = shape_of mesh in
    let at = vertex_of shape in
    let one : take (i + 1) ns ≡ take i ns ++ n ∷ [] = take_more ns i n within ∙ ap (λ (m : Name). take i ns ++ m ∷ []) (sym is) in
    same-take vertex_holding (IsProper mesh) (λ (q : VertexKey). IsCornerAmong shape (take i ns) (at q) ⊎ IsCorner (at q) (triangle shape n)) (λ (q : VertexKey). IsCornerAmong shape (take (i + 1) ns) (at q)) number old new
    (λ q p m. subst (λ (l : List Name). IsCornerAmong shape l (at q)) (sym one) (among-last shape (take i ns) n (at q) m))
    (λ q p m. last-among shape (take i ns) n (at q) (subst (λ (l : List Name). IsCornerAmong shape l (at q)) one m))
    (both-take vertex_holding (IsProper mesh) (λ (q : VertexKey). IsCornerAmong shape (take i ns) (at q)) (λ (q : VertexKey). IsCorner (at q) (triangle shape n)) number old mid new first second)
