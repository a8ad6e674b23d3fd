-- The elements of a forest: its members and its leaves, and the list of the leaves.
use Rattle.std.proofs.Common.{◌≡◌, ℕ, zero, suc, ◌<◌, ◌≤◌, Bool, List, [], ◌∷◌, length, refl, sym, subst, arith, inl, inr, ⊎_elim}
use Rattle.std.specs.List.{Contains}
use Rattle.std.specs.FinSet.{contains}
use Rattle.mesh_names.specs.Names.{Name}
use Rattle.mesh_names.specs.Triangles.{size}
use Rattle.mesh_names.specs.Forests.{Names, Has, IsLeaf}
use Rattle.mesh_names.specs.Leaves.{leaves}
use Rattle.mesh_names.proofs.Leaving.{leaves_are}
use Rattle.mesh_names.proofs.Sets.{In, has-in, in-has, item-in, is_or_not}
use Rattle.compat_check.specs.Meshes.{Mesh, shape_of}
use Rattle.locate_point.specs.Locating.{AreLeavesOf}
use Rattle.locate_point.specs.Ways.{IsElement}

pub in-contains : (q : Name) (ks : List Name) → In q ks → Contains ks q
in-contains q [] h = absurd h
in-contains q (k ∷ ks) h = ⊎_elim (λ (e : q ≡ k). (zero, omega arith, sym e)) (λ (i : In q ks). let r = in-contains q ks i in (suc r.0, omega (arith, r.1), r.2)) h

pub contains-in : (q : Name) (ks : List Name) → Contains ks q → In q ks
contains-in q ks h = subst (λ (k : Name). In k ks) h.2 (item-in ks h.0 q h.1)

module _ (mesh : Mesh) (members : Names) (list : List Name) (are : AreLeavesOf mesh members list) where
  pub leaf-listed : (n : Name) → IsLeaf (shape_of mesh) members n → Contains list n
  leaf-listed n leaf =
      let has : Has (leaves (shape_of mesh) members) n = (leaves_are (shape_of mesh) members are.forest n).1 leaf in
      in-contains n list (has-in n list (subst (λ (s : Names). Has s n) (sym are.listed.all) has))

  pub listed-leaf : (n : Name) → Contains list n → IsLeaf (shape_of mesh) members n
  listed-leaf n h = (leaves_are (shape_of mesh) members are.forest n).0 (subst (λ (s : Names). Has s n) are.listed.all (in-has n list (contains-in n list h)))

  pub listed-rooted : (n : Name) → Contains list n → n.0 < size (shape_of mesh)
  listed-rooted n h = (listed-leaf n h).rooted

  -- a macro element is an element
  pub top-element : (r : ℕ) → r < size (shape_of mesh) → IsElement mesh members (r, [])
  top-element r h = ⊎_elim (λ e. inl e) (λ e. inr (record { rooted = h; unsplit = e; born = λ b w e. absurd (cc) })) (is_or_not (contains members (r, [])))

  -- an element that is no leaf is a member, and its children are elements
  pub unlisted-member : (n : Name) → IsElement mesh members n → (Contains list n → ⊥) → Has members n
  unlisted-member n e none = ⊎_elim (λ h. h) (λ leaf. absurd (none (leaf-listed n leaf))) e

  pub member-rooted : (n : Name) → Has members n → n.0 < size (shape_of mesh)
  member-rooted n h = are.forest.rooted n h

  pub element-rooted : (n : Name) → IsElement mesh members n → n.0 < size (shape_of mesh)
  element-rooted n e = ⊎_elim (λ h. are.forest.rooted n h) (λ leaf. leaf.rooted) e

  pub member-short : (n : Name) → Has members n → length n.1 < 24
  member-short n h = let low = are.forest.shallow n h in omega (arith, low)

  pub child-element : (n : Name) (b : Bool) → Has members n → IsElement mesh members (n.0, b ∷ n.1)
  child-element n b h = ⊎_elim (λ e. inl e)
      (λ e. inr (record { rooted = are.forest.rooted n h; unsplit = e; born = λ c w q. let tail : n.1 ≡ w = cc in subst (λ (v : List Bool). Has members (n.0, v)) tail h }))
      (is_or_not (contains members (n.0, b ∷ n.1)))

  -- no leaf has more than 24 letters
  pub leaf-short : (n : Name) → IsLeaf (shape_of mesh) members n → length n.1 ≤ 24
  leaf-short (r, []) leaf = omega arith
  leaf-short (r, b ∷ w) leaf = let low = member-short (r, w) (leaf.born b w refl) in omega (arith, low)
