-- What stands at slots.
use Rattle.std.specs.Prelude.{◌<◌, ℕ, ℤ, pos, List, slice_index_or}
use Rattle.mesh_names.specs.declared.patch.VertexKey.{VertexKey}
use Rattle.mesh_names.specs.declared.patch.VertexKey.TheVariants.{Macro}
use Rattle.compat_check.specs.Points.{Point}

abbrev pub IsBelow : ℕ → ℕ → Type 0
IsBelow n s = s < n

-- the key, the point and the value at a slot
abbrev pub key_in : List VertexKey → ℕ → VertexKey
key_in keys s = slice_index_or keys s (Macro 0)

abbrev pub point_in : List Point → ℕ → Point
point_in points s = slice_index_or points s (pos 0, pos 0)

abbrev pub value_in : List ℤ → ℕ → ℤ
value_in values s = slice_index_or values s (pos 0)
