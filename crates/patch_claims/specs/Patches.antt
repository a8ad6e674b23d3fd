-- Published patches.
use Rattle.std.specs.Prelude.{ℕ, Option}
use Rattle.mesh_names.specs.declared.patch.PatchName.{PatchName}
use Rattle.table_words.specs.declared.layout.ElemAt.{ElemAt}
use Rattle.patch_claims.specs.declared.patch.Patch.{Patch}

-- the patch of a block, with the places of its members
abbrev pub patch_at : ℕ → ElemAt → Option ElemAt → PatchName → Patch
patch_at block first second name = record { block = block; spot = record { first = first; second = second }; name = name }
