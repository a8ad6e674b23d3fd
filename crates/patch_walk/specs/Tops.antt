-- The top of a name's chain.
use Rattle.std.specs.Prelude.{◌≡◌, List, ◌∷◌, ◌++◌, Bool, Some}
use Rattle.mesh_names.specs.Names.{Name}
use Rattle.mesh_names.specs.Partners.{Across, partner}
use Rattle.table_words.specs.Entries.{HasEntry}
use Rattle.table_words.specs.NameWords.{name_code}
use Rattle.mesh_table.specs.Saw.{Saw, SawEnd}
use Rattle.mesh_table.specs.Sights.{Sight}

-- a walk of this call for the name ended at no block that bisects it
abbrev pub EndedIn : Sight → Sight → Name → Type 0
EndedIn u v m = (news : List Saw) × (v.saw ≡ news ++ u.saw) × HasEntry news (SawEnd (name_code m))

-- the parent of the name, if there is one, is known as bisected
abbrev pub ParentKnown : Sight → Name → Type 0
ParentKnown v m = (b : Bool) (w : List Bool) → m.1 ≡ b ∷ w → HasEntry v.work.known (name_code (m.0, w))

-- a needed name that was found not bisected, whose parent and whose partner's parent are known as bisected
pub record IsTop (across : Across) (Needed : Name → Type 0) (u v : Sight) (m : Name) : Type 0 where
  pub needed : Needed m
  pub ended : EndedIn u v m
  pub parent : ParentKnown v m
  pub partner_parent : (o : Name) (t : Bool) → partner across m.0 m.1 ≡ Some (o, t) → ParentKnown v o
