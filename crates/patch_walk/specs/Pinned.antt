-- Where a reader's walk to a name comes at its pin.
use Rattle.std.specs.Prelude.{◌≡◌, ℕ, ◌<◌, Bool, true, false, List, [], ◌++◌, length, MatchOption}
use Rattle.mesh_names.specs.Names.{Name}
use Rattle.table_words.specs.declared.layout.Layout.{Layout}
use Rattle.table_words.specs.Layout.{IsElemAt}
use Rattle.table_words.specs.NameWords.{name_code}
use Rattle.table_words.specs.Setup.{Setup}
use Rattle.mesh_table.specs.Sights.{Sight}
use Rattle.patch_walk.specs.declared.places.Found.{Found}
use Rattle.patch_walk.specs.Looks.{Noted, NotedAt}

-- the letters `left` of the name are left; what is before them is noted as not bisected, or no letter is left and it is noted as bisected by the block
pub record IsReachedAt (l : Layout) (s : Setup) (v : Sight) (q : ℕ) (n : Name) (r : Found) : Type 0 where
  pub left : List Bool
  pub prefix : List Bool
  pub parts : n.1 ≡ left ++ prefix
  pub depth : length prefix ≡ r.depth
  pub place : IsElemAt l r.at
  pub block : MatchOption r.block (Noted v q (name_code (n.0, prefix)) false) (λ p. (left ≡ []) × (p.0 < l.pool)
      × NotedAt s v q (name_code (n.0, prefix)) p.0 p.1)

-- the name is noted as bisected; or it, or a name above it, is noted as not bisected
abbrev pub IsAliveAt : Sight → ℕ → Name → Bool → Type 0
IsAliveAt v q n true = Noted v q (name_code n) true
IsAliveAt v q n false = (left prefix : List Bool) × (n.1 ≡ left ++ prefix) × Noted v q (name_code (n.0, prefix)) false
