-- What the bytes of a decimal mean: an optional sign, digits with at most one point among them, and an optional exponent.
use Rattle.std.specs.Prelude.{ℕ, ℤ, pos, neg_ℤ, Bool, false, List, [], ◌∷◌, length, cond, ◌==◌, ◌&&◌, ◌||◌, nat_le, ◌+◌, ◌-◌, ◌*◌, ◌/◌, ◌^◌, Option, Some, None, Result, Ok, Err}
use Rattle.mesh_io.specs.declared.decimal.DecimalRefusal.{DecimalRefusal}
use Rattle.mesh_io.specs.declared.decimal.DecimalRefusal.TheVariants.{NotANumber, CoordRange}
pub use Rattle.mesh_io.specs.Written.{written_units}

-- the number mantissa * 10 ^ up / 10 ^ (places + down), below 0 where minus; one of up and down is 0
pub record Decimal : Type 0 where
  pub minus : Bool
  pub mantissa : ℕ
  pub places : ℕ
  pub up : ℕ
  pub down : ℕ

-- whether a byte is one of 0 to 9
abbrev pub is_digit : ℕ → Bool
is_digit c = nat_le 48 c && nat_le c 57

-- the digits at the front
abbrev pub digits_at : List ℕ → List ℕ
digits_at [] = []
digits_at (c ∷ cs) = cond (is_digit c) (c ∷ digits_at cs) []

-- what stands after the digits at the front
abbrev pub after_digits : List ℕ → List ℕ
after_digits [] = []
after_digits (c ∷ cs) = cond (is_digit c) (after_digits cs) (c ∷ cs)

-- the number whose digits are those of m and then these
abbrev pub number : ℕ → List ℕ → ℕ
number m [] = m
number m (d ∷ ds) = number (10 * m + (d - 48)) ds

-- whether a - stands at the front
abbrev pub is_minus : List ℕ → Bool
is_minus [] = false
is_minus (c ∷ cs) = c == 45

-- what stands after an optional + or -
abbrev pub unsigned : List ℕ → List ℕ
unsigned [] = []
unsigned (c ∷ cs) = cond (c == 45 || c == 43) cs (c ∷ cs)

-- the digits after a point at the front; none where no point stands there
abbrev pub places_at : List ℕ → List ℕ
places_at [] = []
places_at (c ∷ cs) = cond (c == 46) (digits_at cs) []

-- what stands after an optional point and its digits
abbrev pub after_places : List ℕ → List ℕ
after_places [] = []
after_places (c ∷ cs) = cond (c == 46) (after_digits cs) (c ∷ cs)

-- whether these are one to six digits and nothing else
abbrev pub is_exponent : List ℕ → Bool
is_exponent ds = length (after_digits ds) == 0 && nat_le 1 (length ds) && nat_le (length ds) 6

-- whether an exponent is below 0, and its size, from what stands after its letter
abbrev pub signed_digits : List ℕ → Option (Bool × ℕ)
signed_digits cs = cond (is_exponent (unsigned cs)) (Some (is_minus cs, number 0 (digits_at (unsigned cs)))) None

-- the same from e or E on; 0 where nothing stands
abbrev pub exponent : List ℕ → Option (Bool × ℕ)
exponent [] = Some (false, 0)
exponent (c ∷ cs) = cond (c == 101 || c == 69) (signed_digits cs) None

-- a decimal of these parts, where there is an exponent
abbrev pub decimal_from : Bool → ℕ → ℕ → Option (Bool × ℕ) → Option Decimal
decimal_from minus mantissa places None = None
decimal_from minus mantissa places (Some e) = Some (record { minus = minus; mantissa = mantissa; places = places; up = cond e.0 0 e.1; down = cond e.0 e.1 0 })

-- what the bytes after the sign say; None where they are outside the grammar
abbrev pub bare_decimal : Bool → List ℕ → Option Decimal
bare_decimal minus bare = let after = after_digits bare in cond (length (digits_at bare) + length (places_at after) == 0) None
    (decimal_from minus (number (number 0 (digits_at bare)) (places_at after)) (length (places_at after)) (exponent (after_places after)))

-- what a token says; None where it is outside the grammar
abbrev pub decimal_of : List ℕ → Option Decimal
decimal_of token = bare_decimal (is_minus token) (unsigned token)

-- the whole part of its size times 10 ^ 22
abbrev pub cut : Decimal → ℕ
cut x = x.mantissa * 10 ^ (22 + x.up) / 10 ^ (x.places + x.down)

-- its size in fine units, without the fraction: a fine unit is 10 ^ -10 / 4096, which is 244140625 * 10 ^ -22
abbrev pub units : Decimal → ℕ
units x = cut x / 244140625

-- the fine units of 100000, the greatest size of a coordinate
abbrev pub greatest_units : ℕ
greatest_units = 100000 * 10 ^ 10 * 4096

-- the greatest cut in the range, one less than that of the next fine unit
abbrev pub greatest_cut : ℕ
greatest_cut = greatest_units * 244140625 + 244140624

-- n, or -n where minus
abbrev pub with_sign : Bool → ℕ → ℤ
with_sign minus n = cond minus (neg_ℤ (pos n)) (pos n)

-- the fine units of a decimal, or why it has none
abbrev pub measured : Option Decimal → Result ℤ DecimalRefusal
measured None = Err NotANumber
measured (Some x) = cond (nat_le (units x) greatest_units) (Ok (with_sign x.minus (units x))) (Err CoordRange)

-- the fine units of a token, or why it has none
abbrev pub fine_units : List ℕ → Result ℤ DecimalRefusal
fine_units token = measured (decimal_of token)
