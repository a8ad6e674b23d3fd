-- Rounds under a renaming: rows whose places are renamed, and what the rounds make.
use Rattle.std.specs.Prelude.{◌≡◌, ◌<◌, List, [], ◌∷◌}
use Rattle.mesh_names.specs.Names.{Name}
use Rattle.mesh_names.specs.Triangles.{Shape, size}
use Rattle.mesh_names.specs.Forests.{Names, Within, IsForest}
use Rattle.mesh_names.specs.Conformity.{HoldsPartners}
use Rattle.mesh_names.specs.Partners.{Across}
use Rattle.mesh_names.specs.declared.rows.MarkRow.{MarkRow}
use Rattle.mesh_names.specs.declared.rows.Place.{Place}
use Rattle.mesh_names.specs.declared.rows.Place.TheVariants.{EveryLeaf, Elem, Corner}
use Rattle.forest_plain.specs.Rounds.{IsRound, IsRoundRefusal, Room}
use Rattle.forest_plain.specs.declared.refusal.RoundRefusal.{RoundRefusal}
use Rattle.forest_plain.specs.declared.refusal.RoundRefusal.TheVariants.{Memory}
use Rattle.written_meshes.specs.ForestRenaming.{IsRenaming, StandsFor}

-- a name of the other mesh, and the name that it stands for
abbrev pub IsNameFor : Shape → (Name → Name) → Name → Name → Type 0
IsNameFor other rename m n = (m.0 < size other) × (rename m ≡ n)

-- a place, named anew
abbrev pub IsPlaceFor : Shape → (Name → Name) → Place → Place → Type 0
IsPlaceFor other rename EveryLeaf EveryLeaf = Unit {0}
IsPlaceFor other rename (Elem m) (Elem n) = IsNameFor other rename m n
IsPlaceFor other rename (Corner m j) (Corner n k) = IsNameFor other rename m n × (j ≡ k)
IsPlaceFor other rename new old = ⊥

-- a row with its place named anew; it may stand at another place of its file
pub record IsRowFor (other : Shape) (rename : Name → Name) (new old : MarkRow) : Type 0 where
  pub what : new.what ≡ old.what
  pub place : IsPlaceFor other rename new.place old.place
  pub number : new.number ≡ old.number

-- such rows, one by one
abbrev pub AreRowsFor : Shape → (Name → Name) → List MarkRow → List MarkRow → Type 0
AreRowsFor other rename [] [] = Unit {0}
AreRowsFor other rename (new ∷ news) (old ∷ olds) = IsRowFor other rename new old × AreRowsFor other rename news olds
AreRowsFor other rename news olds = ⊥

-- a round on a conforming forest that holds the written one; and its rows with their places named anew, on the forest that stands for it
pub record IsRoundFor (mesh other : Shape) (x y : Across) (members : Names) (rename : Name → Name) (room : Room)
    (old new_old : Names) (rows new_rows : List MarkRow) (new : Names) : Type 0 where
  pub forest : IsForest mesh old
  pub partners : HoldsPartners x old
  pub within : Within members old
  pub stands : StandsFor other rename new_old old
  pub rows_for : AreRowsFor other rename new_rows rows
  pub round : IsRound mesh x room old rows new

-- the law that these rows, with the same pool, are refused only where memory runs out
abbrev pub NoRefusal : Type 0
NoRefusal = (mesh other : Shape) (x y : Across) (members : Names) (rename : Name → Name) → IsRenaming mesh other x y members rename →
    (room : Room) (old new_old : Names) (rows new_rows : List MarkRow) (new : Names) →
    IsRoundFor mesh other x y members rename room old new_old rows new_rows new →
    (refusal : RoundRefusal) → IsRoundRefusal other y room new_old new_rows refusal → refusal ≡ Memory

-- the law that their round leads to the forest of the names that stand for the new members, where these hold the written forest
abbrev pub RoundStandsFor : Type 0
RoundStandsFor = (mesh other : Shape) (x y : Across) (members : Names) (rename : Name → Name) → IsRenaming mesh other x y members rename →
    (room : Room) (old new_old : Names) (rows new_rows : List MarkRow) (new new_new : Names) →
    IsRoundFor mesh other x y members rename room old new_old rows new_rows new → Within members new →
    IsRound other y room new_old new_rows new_new → StandsFor other rename new_new new
