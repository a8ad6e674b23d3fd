-- Slots by the names of owners: a list in the order of names, and a map of the names that came late.
use Rattle.std.specs.Prelude.{◌≡◌, ℕ, Bool, true, cond, Option, Some, None, All}
use Rattle.std.specs.BTreeMap.{get, is_at}
use Rattle.std.specs.List.Sorted.{IsStrictlySortedBy}
use Rattle.std.specs.Map.{keys_of, lookup}
use Rattle.std.specs.Ordering.{eq_by_cmp}
use Rattle.std.specs.declared.cmp.Ordering.TheVariants.{Less}
use Rattle.mesh_names.specs.Names.{Name, name_cmp}
use Rattle.mesh_writer.specs.declared.owners.Owners.{Owners}

-- the first of two answers that is there
abbrev pub first_of : Option ℕ → Option ℕ → Option ℕ
first_of (Some k) o = Some k
first_of None o = o

-- the slot of a name, in the list or else in the map
abbrev pub told_by : Owners → Name → Option ℕ
told_by owners n = first_of (lookup (is_at (name_cmp n)) owners.in_order.items) (get name_cmp owners.late n)

-- the names of the list stand in order
abbrev pub AreRising : Owners → Type 0
AreRising owners = IsStrictlySortedBy name_cmp (keys_of owners.in_order.items)

-- where the answer is true, each name of the list comes before this one
abbrev pub IsNewest : Owners → Name → Bool → Type 0
IsNewest owners n answer = AreRising owners → answer ≡ true → All (λ k. name_cmp k n ≡ Less) (keys_of owners.in_order.items)

-- the name has this slot now, and each other what it had
abbrev pub Puts : Name → ℕ → Owners → Owners → Type 0
Puts n slot old new = (m : Name) → told_by new m ≡ cond (eq_by_cmp name_cmp n m) (Some slot) (told_by old m)
