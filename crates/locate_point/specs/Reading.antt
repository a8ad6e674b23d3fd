-- The steps of reading a points file.
use Rattle.std.specs.Prelude.{◌≡◌, ℕ, ◌+◌, length, ◌==◌, List, [], ◌∷◌, ◌++◌, cond, Option, Some, None, Result, Ok, Err}
use denote.Ref.{Bor}
use Rattle.macro_file.specs.Lines.{lines}
use Rattle.compat_check.specs.Points.{Point}
use Rattle.locate_point.specs.declared.refusal.PointRefusal.{PointRefusal}

-- a text without a carriage return at its end
abbrev pub without_return : List ℕ → List ℕ
without_return [] = []
without_return (b ∷ []) = cond (b == 13) [] (b ∷ [])
without_return (b ∷ c ∷ cs) = b ∷ without_return (c ∷ cs)

-- the lines of the bytes after a newline
abbrev pub lines_after : Option (Bor (List ℕ)) → List (List ℕ)
lines_after None = []
lines_after (Some rest) = lines rest.now

-- the points so far, and what a line adds to them
abbrev pub Continues : List Point → Result (Option Point) PointRefusal → List Point → Type 0
Continues old (Ok None) new = new ≡ old
Continues old (Ok (Some p)) new = new ≡ old ++ p ∷ []
Continues old (Err r) new = ⊥

-- these points, and then those of the rest
abbrev pub points_then : List Point → Result (List Point) PointRefusal → Result (List Point) PointRefusal
points_then ps (Ok qs) = Ok (ps ++ qs)
points_then ps (Err r) = Err r

-- how many bytes are left, and one more
abbrev pub left_size : Option (Bor (List ℕ)) → ℕ
left_size None = 0
left_size (Some rest) = 1 + length rest.now
