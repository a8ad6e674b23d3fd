-- The written decimal of a number of fine units: its exact value, with no zero that says nothing.
use Rattle.std.specs.Prelude.{ℕ, ℤ, nat_abs, zero, suc, Bool, List, [], ◌∷◌, ◌++◌, cond, ◌==◌, ◌+◌, ◌*◌, ◌/◌, ◌%◌, ◌^◌}
use Rattle.std.specs.Fmt.{decimal, sign_text}
use lib.Signed.{lt_z}
use lib.IntN.{pos}

-- the last k digits of n, zeros in front
abbrev pub padded : ℕ → ℕ → List ℕ
padded zero n = []
padded (suc k) n = padded k (n / 10) ++ (48 + n % 10) ∷ []

-- a digit and those after it; no digit where it is a 0 with none after it
abbrev pub before_trimmed : ℕ → List ℕ → List ℕ
before_trimmed d [] = cond (d == 48) [] (d ∷ [])
before_trimmed d (e ∷ es) = d ∷ e ∷ es

-- the digits without the zeros at the end
abbrev pub trimmed : List ℕ → List ℕ
trimmed [] = []
trimmed (d ∷ ds) = before_trimmed d (trimmed ds)

-- the point and the digits of f * 10 ^ -22; nothing where f is 0
abbrev pub fraction : ℕ → List ℕ
fraction f = cond (f == 0) [] (46 ∷ trimmed (padded 22 f))

-- the decimal of parts * 10 ^ -22, with a - where minus
abbrev pub written : Bool → ℕ → List ℕ
written minus parts = sign_text minus ++ decimal (parts / 10 ^ 22) ++ fraction (parts % 10 ^ 22)

-- the exact decimal of c fine units
abbrev pub written_units : ℤ → List ℕ
written_units c = written (lt_z c (pos 0)) (nat_abs c * 244140625)
