-- What the bytes of a points file mean: a point for each line that has words, or the refusal of the first refused line.
use Rattle.std.specs.Prelude.{ℕ, ◌+◌, ℤ, List, [], ◌∷◌, Option, Some, None, Result, Ok, Err}
use Rattle.mesh_io.specs.Decimals.{fine_units}
use Rattle.mesh_io.specs.declared.decimal.DecimalRefusal.{DecimalRefusal}
use Rattle.mesh_io.specs.declared.decimal.DecimalRefusal.TheVariants.{NotANumber, CoordRange}
use Rattle.macro_file.specs.Lines.{lines, words}
use Rattle.compat_check.specs.Points.{Point}
use Rattle.locate_point.specs.declared.refusal.PointRefusal.{PointRefusal}
use Rattle.locate_point.specs.declared.refusal.PointRefusal.TheVariants.{BadPoint, PointRange}

-- the refusal of a line by one of its two words
abbrev pub refused : ℕ → DecimalRefusal → PointRefusal
refused line NotANumber = BadPoint line
refused line CoordRange = PointRange line

-- the point of two numbers; a word that is no number comes before one that is out of range
abbrev pub point_by : ℕ → Result ℤ DecimalRefusal → Result ℤ DecimalRefusal → Result Point PointRefusal
point_by line (Ok x) (Ok y) = Ok (x, y)
point_by line (Ok x) (Err r) = Err (refused line r)
point_by line (Err NotANumber) y = Err (BadPoint line)
point_by line (Err CoordRange) (Ok y) = Err (PointRange line)
point_by line (Err CoordRange) (Err r) = Err (refused line r)

abbrev pub some_point : Result Point PointRefusal → Result (Option Point) PointRefusal
some_point (Ok p) = Ok (Some p)
some_point (Err r) = Err r

-- what the words of a line say: nothing where there is none, and the point of two
abbrev pub line_point : ℕ → List (List ℕ) → Result (Option Point) PointRefusal
line_point line [] = Ok None
line_point line (a ∷ []) = Err (BadPoint line)
line_point line (a ∷ b ∷ []) = some_point (point_by line (fine_units a) (fine_units b))
line_point line (a ∷ b ∷ c ∷ more) = Err (BadPoint line)

-- what a line says and then what the lines after it say, up to the first refusal
abbrev pub onto : Result (Option Point) PointRefusal → Result (List Point) PointRefusal → Result (List Point) PointRefusal
onto (Err r) rest = Err r
onto (Ok None) rest = rest
onto (Ok (Some p)) (Ok ps) = Ok (p ∷ ps)
onto (Ok (Some p)) (Err r) = Err r

-- the points of these lines, of which the first has this number
abbrev pub points_of_lines : ℕ → List (List ℕ) → Result (List Point) PointRefusal
points_of_lines line [] = Ok []
points_of_lines line (l ∷ ls) = onto (line_point line (words l)) (points_of_lines (line + 1) ls)

-- the points of a file, or why it has none
abbrev pub points_in : List ℕ → Result (List Point) PointRefusal
points_in bytes = points_of_lines 1 (lines bytes)
