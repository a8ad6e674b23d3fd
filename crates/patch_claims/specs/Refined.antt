-- What refining a name did, in the view of its pass.
use Rattle.std.specs.Prelude.{ℕ, ◌<◌}
use Rattle.table_words.specs.Entries.{HasEntry}
use Rattle.mesh_table.specs.Sights.{Sight}
use Rattle.patch_claims.specs.declared.refine.Done.{Done}
use Rattle.patch_claims.specs.declared.refine.Done.TheVariants.{Published, Already}
use Rattle.mesh_table.specs.Lost.{AllLiving}
use Rattle.patch_claims.specs.Needs.{HasPublished}

-- the name is known as bisected, each claim has a living block, and the call published so many blocks
abbrev pub IsRefined : Sight → Sight → ℕ → Done → Type 0
IsRefined u v k (Published n) = (0 < n) × HasEntry v.work.known k × AllLiving v.claims × HasPublished u v n
IsRefined u v k Already = HasEntry v.work.known k × AllLiving v.claims × HasPublished u v 0
