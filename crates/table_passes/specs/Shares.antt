-- Names dealt out among workers.
use Rattle.std.specs.Prelude.{◌≡◌, ℕ, zero, suc, ◌-◌, ◌<◌, List, [], ◌∷◌}

-- the item at the place `at`, and then every step-th
abbrev pub every : {A : Type 0} → ℕ → ℕ → List A → List A
every step at [] = []
every step zero (x ∷ xs) = x ∷ every step (step - 1) xs
every step (suc k) (x ∷ xs) = every step k xs
