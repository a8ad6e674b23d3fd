-- The merge of two lists in order.
use Rattle.std.specs.Prelude.{◌≡◌, ◌⊎◌, List, [], ◌∷◌}
use Rattle.std.specs.declared.cmp.Ordering.TheVariants.{Less}
use Rattle.mesh_names.specs.Names.{Name, name_cmp}

-- the name comes before the first of the list, if there is one
abbrev pub IsBeforeFirst : Name → List Name → Type 0
IsBeforeFirst n [] = Unit {0}
IsBeforeFirst n (m ∷ ms) = name_cmp n m ≡ Less

-- the name is the first of these, and these follow it
abbrev pub Begins : Name → List Name → List Name → Type 0
Begins n names rest = names ≡ n ∷ rest

-- each name of the merge is the first of one list and before the other, or is the first of both, and is taken off
abbrev pub IsMerge : List Name → List Name → List Name → Type 0
IsMerge [] first second = (first ≡ []) × (second ≡ [])
IsMerge (n ∷ ns) first second =
    ((rest : List Name) × Begins n first rest × IsBeforeFirst n second × IsMerge ns rest second)
    ⊎ ((rest : List Name) × Begins n second rest × IsBeforeFirst n first × IsMerge ns first rest)
    ⊎ ((rest : List Name) × (others : List Name) × Begins n first rest × Begins n second others × IsMerge ns rest others)
