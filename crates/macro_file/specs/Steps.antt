-- Steps that may be refused: the first refusal is the answer.
use Rattle.std.specs.Prelude.{List, [], ◌∷◌, Result, Ok, Err}

-- a step, and one that goes on with what it gives
abbrev pub then : {A B R : Type 0} → Result A R → (A → Result B R) → Result B R
then (Ok a) next = next a
then (Err r) next = Err r

-- what a step gives of each, in order
abbrev pub each : {A B R : Type 0} → (A → Result B R) → List A → Result (List B) R
each step [] = Ok []
each step (x ∷ xs) = then (step x) (λ y. then (each step xs) (λ ys. Ok (y ∷ ys)))
