-- The values of the macro mesh, as they are taken over.
use Rattle.std.specs.Prelude.{◌≡◌, ℕ, ◌^◌, ◌<◌, ◌≤◌, pos, nat_abs, true, cond, ltb, [], ◌∷◌, Option, Some, None, replicate, slice_index_or}
use Rattle.std.specs.FinMap.{get}
use Rattle.mesh_names.specs.Names.{Name}
use Rattle.mesh_names.specs.Triangles.{size}
use Rattle.compat_check.specs.Meshes.{Mesh, shape_of}
use Rattle.name_tree.specs.declared.nodes.Entry.{Entry}
use Rattle.dof_transfer.specs.Held.{Held, IsSound}

-- of the first macro elements each has its value, and its own number as its index; no other name has any
abbrev pub first_entry : Mesh → ℕ → Name → Option Entry
first_entry mesh count (r, []) = cond (ltb r count) (Some (record { index = r; value = slice_index_or mesh.values r (pos 0) })) None
first_entry mesh count (r, b ∷ w) = None

-- all macro elements are live, and nothing else
pub record AreMacroElements (mesh : Mesh) (held : Held) : Type 0 where
  pub live : (n : Name) → get held.live n ≡ first_entry mesh (size (shape_of mesh)) n
  pub used : held.flags ≡ replicate (size (shape_of mesh)) true

-- the first macro elements are taken over
pub record HoldsFirst (mesh : Mesh) (count : ℕ) (held : Held) : Type 0 where
  pub live : (n : Name) → get held.live n ≡ first_entry mesh count n
  pub used : held.flags ≡ replicate count true
  pub sound : IsSound held
  pub small : (r : ℕ) → r < count → nat_abs (slice_index_or mesh.values r (pos 0)) ≤ 2 ^ 55
