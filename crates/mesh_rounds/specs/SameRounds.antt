-- A round leads to one forest, wherever its rows stand in a file.
use Rattle.std.specs.Prelude.{◌≡◌, List, [], ◌∷◌}
use Rattle.mesh_names.specs.Triangles.{Shape}
use Rattle.mesh_names.specs.Partners.{Across, Tells}
use Rattle.mesh_names.specs.Forests.{Names}
use Rattle.mesh_names.specs.declared.patch.RoundDelta.{RoundDelta}
use Rattle.mesh_names.specs.declared.rows.MarkRow.{MarkRow}
use Rattle.forest_plain.specs.Rounds.{IsRoundBy, Room}

-- two rows that say the same; they may stand at different places of their files
pub record IsSameRow (a b : MarkRow) : Type 0 where
  pub what : a.what ≡ b.what
  pub place : a.place ≡ b.place
  pub number : a.number ≡ b.number

-- rows that say the same, one by one
abbrev pub AreSameRows : List MarkRow → List MarkRow → Type 0
AreSameRows [] [] = Unit {0}
AreSameRows (a ∷ rows) (b ∷ others) = IsSameRow a b × AreSameRows rows others
AreSameRows _ _ = ⊥

-- the law that rounds whose rows say the same lead from one forest to one forest
abbrev pub RoundsEndAtOne : Type 0
RoundsEndAtOne = (mesh : Shape) (x : Across) → Tells mesh x → (room other : Room) (old : Names) (rows same : List MarkRow) →
    (new end : Names) (delta change : RoundDelta) →
    AreSameRows rows same → IsRoundBy mesh x room old rows new delta → IsRoundBy mesh x other old same end change → new ≡ end

-- the same patches, in the same order
pub record IsSameDelta (a b : RoundDelta) : Type 0 where
  pub born : a.born.items ≡ b.born.items
  pub died : a.died.items ≡ b.died.items

-- the law that rounds whose rows say the same change a forest alike: they lead to one forest, by the same patches in the same order
abbrev pub RoundsChangeAlike : Type 0
RoundsChangeAlike = (mesh : Shape) (x : Across) → Tells mesh x → (room other : Room) (old : Names) (rows same : List MarkRow) →
    (new end : Names) (delta change : RoundDelta) →
    AreSameRows rows same → IsRoundBy mesh x room old rows new delta → IsRoundBy mesh x other old same end change →
    (new ≡ end) × IsSameDelta delta change
