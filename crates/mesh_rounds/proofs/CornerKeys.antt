-- The corners of an element, as vertices of a forest.
use Rattle.std.proofs.Common.{◌≡◌, ℕ, ◌<◌, arith, Bool, true, false, refl, sym, subst, List, [], ◌∷◌, ⊎_elim}
use Rattle.std.specs.Prelude.{Some}
use Rattle.mesh_names.specs.Names.{Name}
use Rattle.mesh_names.specs.Triangles.{Triangle, Corner, child_triangle, corner_of, midpoint, size, triangle, triple_of}
use Rattle.mesh_names.specs.Forests.{Names, Has}
use Rattle.mesh_names.specs.Partners.{InPatch, partner}
use Rattle.mesh_names.specs.Conformity.{HoldsPartners}
use Rattle.mesh_names.specs.declared.patch.VertexKey.TheVariants.{Macro, Patch}
use Rattle.mesh_names.proofs.Partners.{partners_share}
use Rattle.compat_check.specs.Meshes.{Mesh, IsChecked, across_in, shape_of}
use Rattle.dof_transfer.specs.VertexNames.{StandsIn}
use Rattle.mesh_rounds.proofs.PatchOwners.{owner-of, patch-rooted}

module _ (mesh : Mesh) (checked : IsChecked mesh) (members : Names) where
  -- all corners of a triangle are vertices of the forest
  pub record Stand (t : Triangle) : Type 0 where
    pub first : StandsIn mesh members t.0
    pub second : StandsIn mesh members t.1
    pub third : StandsIn mesh members t.2

  macro_stands : (r k : ℕ) → r < size (shape_of mesh) → k < 3 → StandsIn mesh members (Corner (corner_of (triple_of (shape_of mesh) r) k))
  macro_stands r k low h = record {
    key = Macro (corner_of (triple_of (shape_of mesh) r) k);
    names = record { only = tt; of_mesh = tt; is = refl };
    inside = checked.corners r k low h;
  }

  module _ (holds : HoldsPartners (across_in mesh) members) where
    -- so is the midpoint of a member: the owner of its patch is a member too
    midpoint_stands : (n : Name) → n.0 < size (shape_of mesh) → Has members n → StandsIn mesh members (midpoint (triangle (shape_of mesh) n))
    midpoint_stands n low h =
        let o = owner-of (shape_of mesh) (across_in mesh) checked.tells n low in
        record {
          key = Patch o.owner;
          names = record { only = o.owns; of_mesh = patch-rooted (shape_of mesh) (across_in mesh) checked.tells n o.owner low o.back; is = same o.owner o.back };
          inside = (there o.owner o.back, o.owns);
        }
      where
        same : (m : Name) → InPatch (across_in mesh) n m → midpoint (triangle (shape_of mesh) m) ≡ midpoint (triangle (shape_of mesh) n)
        same m k = ⊎_elim
            (λ (e : m ≡ n). λ i. midpoint (triangle (shape_of mesh) (e i)))
            (λ (p : (t : Bool) × (partner (across_in mesh) n.0 n.1 ≡ Some (m, t))). partners_share (shape_of mesh) (across_in mesh) checked.tells n.0 n.1 m p.0 p.1)
            k

        there : (m : Name) → InPatch (across_in mesh) n m → Has members m
        there m k = ⊎_elim
            (λ (e : m ≡ n). subst (Has members) (sym e) h)
            (λ (p : (t : Bool) × (partner (across_in mesh) n.0 n.1 ≡ Some (m, t))). holds n.0 n.1 m p.0 h p.1)
            k

    module _ (closed : (r : ℕ) (b : Bool) (w : List Bool) → Has members (r, b ∷ w) → Has members (r, w)) where
      -- the corners of an element whose parent is a member
      pub corners_stand : (r : ℕ) (w : List Bool) → r < size (shape_of mesh) → ((b : Bool) (v : List Bool) → w ≡ b ∷ v → Has members (r, v)) → Stand (triangle (shape_of mesh) (r, w))
      corners_stand r [] low born = record { first = macro_stands r 0 low (omega arith); second = macro_stands r 1 low (omega arith); third = macro_stands r 2 low (omega arith) }
      corners_stand r (b ∷ w) low born =
          let parent : Has members (r, w) = born b w refl in
          child b (corners_stand r w low (λ c v e. closed r c v (subst (λ (u : List Bool). Has members (r, u)) e parent))) (midpoint_stands (r, w) low parent)
        where
          child : (c : Bool) → Stand (triangle (shape_of mesh) (r, w)) → StandsIn mesh members (midpoint (triangle (shape_of mesh) (r, w))) → Stand (child_triangle (triangle (shape_of mesh) (r, w)) c)
          child false t m = record { first = t.third; second = t.first; third = m }
          child true t m = record { first = t.second; second = t.third; third = m }
