-- The passes of a round: how they are made, and what the owner has once they are joined.
use Rattle.std.specs.Prelude.{◌≡◌, ℕ, zero, suc, List, [], ◌∷◌}
use Rattle.mesh_table.specs.Passes.{joined, left_by_split}
use Rattle.mesh_table.specs.Sights.{Sight}

-- the owner's view with so many workers' passes of the first half more out
abbrev pub left_by : ℕ → Sight → Sight
left_by zero v = v
left_by (suc n) v = left_by_split (left_by n v)

-- the owner's view once these passes are joined, the last of the list first
abbrev pub joined_all : Sight → List Sight → Sight
joined_all v [] = v
joined_all v (w ∷ ws) = joined (joined_all v ws) w
