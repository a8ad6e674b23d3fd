-- The first letters of names.
use Rattle.std.specs.Prelude.{ℕ, ◌-◌, drop}
use Rattle.mesh_names.specs.Names.{Name, depth}

-- the name of the element above, or the same, that has this many letters
abbrev pub first_letters : Name → ℕ → Name
first_letters n k = (n.0, drop (depth n - k) n.1)
