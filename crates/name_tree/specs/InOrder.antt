-- Values of keys, a list of them at a time.
use Rattle.std.specs.Prelude.{◌≡◌, ℤ, List, ◌++◌, map, Option, Some, None}
use Rattle.mesh_names.specs.Names.{Name}
use Rattle.mesh_names.specs.declared.patch.VertexKey.{VertexKey}
use Rattle.mesh_names.specs.declared.patch.VertexKey.TheVariants.{Macro, Patch}
use Rattle.name_tree.specs.Slots.{Slots, live_at}
use Rattle.name_tree.specs.declared.nodes.Entry.{Entry}

-- the owner of the patch of which the vertex is the midpoint
abbrev pub owner_of : VertexKey → Option Name
owner_of (Macro i) = None
owner_of (Patch n) = Some n

-- a key that names a slot with an entry is worth the entry's value
abbrev pub IsWorth : {K : Type 0} → (K → Option Name) → Slots → (K → ℤ) → Type 0
IsWorth {K} named slots worth = (k : K) (n : Name) (e : Entry) → named k ≡ Some n → live_at slots n ≡ Some e → worth k ≡ e.value

-- the values are those of the first keys
abbrev pub AreFirst : {K : Type 0} → (K → ℤ) → List K → List ℤ → Type 0
AreFirst worth keys values = (more : List ℤ) × (map worth keys ≡ values ++ more)

-- where the old values are those of the first keys, so are the new ones
abbrev pub KeepsFirst : {K : Type 0} → (K → Option Name) → Slots → List K → List ℤ → List ℤ → Type 0
KeepsFirst {K} named slots keys old new = (worth : K → ℤ) → IsWorth named slots worth → AreFirst worth keys old → AreFirst worth keys new
