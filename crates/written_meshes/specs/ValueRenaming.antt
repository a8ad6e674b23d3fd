-- Values of leaves, under a renaming.
use Rattle.std.specs.Prelude.{◌≡◌, ◌<◌, List}
use Rattle.mesh_names.specs.Names.{Name}
use Rattle.mesh_names.specs.Triangles.{Shape, size}
use Rattle.mesh_names.specs.Forests.{Names, Within, IsForest, IsLeaf}
use Rattle.mesh_names.specs.Conformity.{HoldsPartners}
use Rattle.mesh_names.specs.Partners.{Across}
use Rattle.mesh_names.specs.declared.rows.MarkRow.{MarkRow}
use Rattle.dof_transfer.specs.ByName.{AreElementValues}
use Rattle.dof_transfer.specs.Changes.{AreOfForest}
use Rattle.dof_transfer.specs.Held.{Held, value_of}
use Rattle.mesh_rounds.specs.Setting.{AreSet, SetsLeaf, leaf_holding}
use Rattle.written_meshes.specs.ForestRenaming.{IsRenaming, StandsFor}
use Rattle.written_meshes.specs.RoundRenaming.{AreRowsFor}

-- each name has the value of the name that it stands for
abbrev pub ValuesStandFor : Shape → (Name → Name) → Held → Held → Type 0
ValuesStandFor other rename new old = (n : Name) → n.0 < size other → value_of new n ≡ value_of old (rename n)

-- a forest that stands for another, which holds the forest that was written
pub record ForestStandsFor (mesh other : Shape) (x : Across) (members : Names) (rename : Name → Name) (new old : Names) : Type 0 where
  pub forest : IsForest mesh old
  pub partners : HoldsPartners x old
  pub within : Within members old
  pub stands : StandsFor other rename new old

-- the law that where leaves have the values of those that they stand for, they have them too after both were handed on by name
abbrev pub ElementValuesStand : Type 0
ElementValuesStand = (mesh other : Shape) (x y : Across) (members : Names) (rename : Name → Name) → IsRenaming mesh other x y members rename →
    (before after new_before new_after : Names) (old end new_old new_end : Held) →
    ForestStandsFor mesh other x members rename new_before before → ForestStandsFor mesh other x members rename new_after after →
    AreOfForest mesh before old → ValuesStandFor other rename new_old old →
    AreElementValues mesh after old end → AreElementValues other new_after new_old new_end → ValuesStandFor other rename new_end end

-- the leaves of the forest take what the rows set
abbrev pub LeavesAreSet : Shape → Names → List MarkRow → Held → Held → Type 0
LeavesAreSet mesh members = AreSet leaf_holding (IsLeaf mesh members) SetsLeaf

-- the law that where leaves have the values of those that they stand for, they have them too after rows, with their places named anew, have set them
abbrev pub SetValuesStand : Type 0
SetValuesStand = (mesh other : Shape) (x y : Across) (members : Names) (rename : Name → Name) → IsRenaming mesh other x y members rename →
    (before new_before : Names) (rows new_rows : List MarkRow) (old set new_old new_set : Held) →
    ForestStandsFor mesh other x members rename new_before before →
    AreOfForest mesh before old → ValuesStandFor other rename new_old old → AreRowsFor other rename new_rows rows →
    LeavesAreSet mesh before rows old set → LeavesAreSet other new_before new_rows new_old new_set → ValuesStandFor other rename new_set set
