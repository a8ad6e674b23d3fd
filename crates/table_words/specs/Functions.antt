-- Functions of numbers, changed at one place.
use Rattle.std.specs.Prelude.{ℕ, ◌==◌, cond}

-- f, with a at i
abbrev pub update : {A : Type 0} → (ℕ → A) → ℕ → A → ℕ → A
update f i a j = cond (j == i) a (f j)
