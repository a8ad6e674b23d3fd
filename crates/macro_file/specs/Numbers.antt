-- The number that a word gives to the section of a key, or why it gives none.
use Rattle.std.specs.Prelude.{ℕ, ℤ, pos, neg_ℤ, List, length, cond, ◌==◌, ◌&&◌, nat_le, ◌^◌, int_lt, Option, Some, None, Result, Ok, Err}
use Rattle.mesh_io.specs.Decimals.{is_minus, unsigned, after_digits, number, with_sign, fine_units}
use Rattle.mesh_io.specs.declared.decimal.DecimalRefusal.{DecimalRefusal}
use Rattle.mesh_io.specs.declared.decimal.DecimalRefusal.TheVariants.{NotANumber as not_a_number, CoordRange as out_of_range}
use Rattle.macro_file.specs.declared.keyword.Keyword.{Keyword}
use Rattle.macro_file.specs.declared.keyword.Keyword.TheVariants.{Dim, DimOfWorld, VertexCount, ElementCount, Coordinates, Triples, Labels, Neighbours, VertexValues, ElementValues}
use Rattle.macro_file.specs.declared.refusal.MacroRefusal.{MacroRefusal}
use Rattle.macro_file.specs.declared.refusal.MacroRefusal.TheVariants.{BadNumber, TooMany, CoordRange, ValueRange}
use Rattle.macro_file.specs.Sections.{Token}

-- a whole number: an optional sign, and one or more digits
abbrev pub whole : List ℕ → Option ℤ
whole word = let digits = unsigned word in cond (nat_le 1 (length digits) && length (after_digits digits) == 0) (Some (with_sign (is_minus word) (number 0 digits))) None

-- a whole number between two bounds, with the refusals below the one and above the other
abbrev pub bounded : ℤ → ℤ → (ℕ → MacroRefusal) → (ℕ → MacroRefusal) → ℕ → Option ℤ → Result ℤ MacroRefusal
bounded least greatest below above line None = Err (BadNumber line)
bounded least greatest below above line (Some z) = cond (int_lt z least) (Err (below line)) (cond (int_lt greatest z) (Err (above line)) (Ok z))

-- a coordinate
abbrev pub coordinate : ℕ → Result ℤ DecimalRefusal → Result ℤ MacroRefusal
coordinate line (Ok units) = Ok units
coordinate line (Err not_a_number) = Err (BadNumber line)
coordinate line (Err out_of_range) = Err (CoordRange line)

abbrev pub value : Keyword → Token → Result ℤ MacroRefusal
value Dim t = bounded (pos 2) (pos 2) BadNumber BadNumber t.0 (whole t.1)
value DimOfWorld t = bounded (pos 2) (pos 2) BadNumber BadNumber t.0 (whole t.1)
value VertexCount t = bounded (pos 1) (pos 65535) BadNumber TooMany t.0 (whole t.1)
value ElementCount t = bounded (pos 1) (pos 65535) BadNumber TooMany t.0 (whole t.1)
value Coordinates t = coordinate t.0 (fine_units t.1)
value Triples t = bounded (pos 0) (pos 65535) BadNumber BadNumber t.0 (whole t.1)
value Labels t = bounded (neg_ℤ (pos 128)) (pos 127) BadNumber BadNumber t.0 (whole t.1)
value Neighbours t = bounded (neg_ℤ (pos 1)) (pos 65535) BadNumber BadNumber t.0 (whole t.1)
value VertexValues t = bounded (neg_ℤ (pos (2 ^ 31))) (pos (2 ^ 31)) ValueRange ValueRange t.0 (whole t.1)
value ElementValues t = bounded (neg_ℤ (pos (2 ^ 55))) (pos (2 ^ 55)) ValueRange ValueRange t.0 (whole t.1)
