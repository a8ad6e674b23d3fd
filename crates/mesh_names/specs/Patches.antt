-- Patches: the elements that are bisected together. Their owners, their number, and the keys of vertices.
use Rattle.std.specs.Prelude.{◌≡◌, ℕ, Bool, true, cond, Option, Some, None}
use Rattle.std.specs.Ordering.{is_lt}
use Rattle.std.specs.FinSet.{retain, len}
use Rattle.mesh_names.specs.Names.{Name, name_cmp}
use Rattle.mesh_names.specs.Triangles.{Shape, Vertex, Corner, triangle, midpoint}
use Rattle.mesh_names.specs.Forests.{Names}
use Rattle.mesh_names.specs.Partners.{Across, partner}
use Rattle.mesh_names.specs.declared.patch.PatchName.{PatchName}
use Rattle.mesh_names.specs.declared.patch.VertexKey.{VertexKey}
use Rattle.mesh_names.specs.declared.patch.VertexKey.TheVariants.{Macro, Patch}

-- the patch of a name with this partner: the lesser name is the first
abbrev pub patch_by : Name → Option (Name × Bool) → PatchName
patch_by n None = record { first = n; second = None }
patch_by n (Some m) = cond (is_lt (name_cmp n m.0)) (record { first = n; second = Some m.0 }) (record { first = m.0; second = Some n })

-- all names with the refinement edge of this one
abbrev pub patch_of : Across → Name → PatchName
patch_of across n = patch_by n (partner across n.0 n.1)

-- the name has no partner, or comes before it
abbrev pub is_first : Name → Option (Name × Bool) → Bool
is_first n None = true
is_first n (Some m) = is_lt (name_cmp n m.0)

-- the name is the first of its patch, which it owns
abbrev pub owns : Across → Name → Bool
owns across n = is_first n (partner across n.0 n.1)

-- how many patches a forest that holds whole patches has: one for each owner
abbrev pub patch_count : Across → Names → ℕ
patch_count across members = len (retain members (owns across))

-- the vertex that a key stands for
abbrev pub vertex_of : Shape → VertexKey → Vertex
vertex_of mesh (Macro i) = Corner i
vertex_of mesh (Patch n) = midpoint (triangle mesh n)

-- the key of a midpoint names the owner, so that no vertex has two keys
abbrev pub IsKey : Across → VertexKey → Type 0
IsKey across (Macro i) = Unit {0}
IsKey across (Patch n) = owns across n ≡ true
