-- Where a walk to a name comes at the current round.
use Rattle.std.specs.Prelude.{◌≡◌, ℕ, ◌<◌, Bool, true, false, List, [], ◌++◌, length, MatchOption}
use Rattle.mesh_names.specs.Names.{Name}
use Rattle.table_words.specs.Entries.{HasEntry}
use Rattle.table_words.specs.declared.layout.Layout.{Layout}
use Rattle.table_words.specs.Layout.{IsElemAt}
use Rattle.table_words.specs.NameWords.{name_code}
use Rattle.table_words.specs.Places.{place_number}
use Rattle.table_words.specs.Setup.{Setup}
use Rattle.mesh_table.specs.Sights.{Sight}
use Rattle.patch_walk.specs.declared.places.Found.{Found}
use Rattle.patch_walk.specs.Tops.{EndedIn, ParentKnown}
use Rattle.patch_walk.specs.Wiser.{KnowsBisected}

-- the letters `left` of the name are left, and what is before them is an element: its place is found and its parent known as bisected;
-- a walk of this call for it ended at no block that bisects it, or no letter is left and it is known as bisected by the block
pub record IsReached (l : Layout) (s : Setup) (u v : Sight) (n : Name) (r : Found) : Type 0 where
  pub left : List Bool
  pub prefix : List Bool
  pub parts : n.1 ≡ left ++ prefix
  pub depth : length prefix ≡ r.depth
  pub place : IsElemAt l r.at
  pub found : HasEntry v.work.found (place_number l r.at, name_code (n.0, prefix))
  pub parent : ParentKnown v (n.0, prefix)
  pub block : MatchOption r.block (EndedIn u v (n.0, prefix) × HasEntry v.work.absent (name_code (n.0, prefix)))
      (λ p. (left ≡ []) × (p.0 < l.pool) × KnowsBisected s v (name_code (n.0, prefix)) p.0 p.1)

-- the name is known as bisected; or a walk of this call for it, or for a name above it, ended at no block that bisects it
abbrev pub IsAlive : Sight → Sight → Name → Bool → Type 0
IsAlive u v n true = HasEntry v.work.known (name_code n)
IsAlive u v n false = (left prefix : List Bool) × (n.1 ≡ left ++ prefix) × EndedIn u v (n.0, prefix)
