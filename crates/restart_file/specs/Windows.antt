-- Where a name can stand in a list of names in order.
use Rattle.std.specs.Prelude.{◌≡◌, ℕ, ◌<◌, ◌≤◌, List, length, get_or}
use Rattle.std.specs.declared.cmp.Ordering.TheVariants.{Less, Greater}
use Rattle.mesh_names.specs.Names.{Name, name_cmp}

-- the names that stand before the place are less than the name
abbrev pub AreLessBefore : ℕ → List Name → Name → Type 0
AreLessBefore place names n = (k : ℕ) → k < place → name_cmp (get_or names k n) n ≡ Less

-- the names that stand at the place or after it are greater than the name
abbrev pub AreGreaterFrom : ℕ → List Name → Name → Type 0
AreGreaterFrom place names n = (k : ℕ) → place ≤ k → k < length names → name_cmp (get_or names k n) n ≡ Greater
