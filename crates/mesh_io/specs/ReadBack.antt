-- The law that writing and reading a decimal agree.
use Rattle.std.specs.Prelude.{◌≡◌, ℤ, nat_abs, ◌≤◌, Ok}
use Rattle.mesh_io.specs.Decimals.{fine_units, written_units, greatest_units}

-- fine units in the range are read again from their written decimal
abbrev pub DecimalsReadBack : Type 0
DecimalsReadBack = (c : ℤ) → nat_abs c ≤ greatest_units → fine_units (written_units c) ≡ Ok c
