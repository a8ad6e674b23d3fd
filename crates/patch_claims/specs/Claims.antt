-- Which claims of a pass have their living blocks.
use Rattle.std.specs.Prelude.{◌≡◌, ℕ, List, [], ◌∷◌, ◌⊎◌}
use Rattle.table_words.specs.Claims.{Claim, Living}
use Rattle.table_words.specs.Entries.{HasEntry}

-- each but that of the place x has
abbrev pub AllLivingBut : ℕ → List Claim → Type 0
AllLivingBut x cs = (c : Claim) → HasEntry cs c → (c.place ≡ x) ⊎ ((b : ℕ) × (c.progress ≡ Living b))

-- no claim of the list is of the place
abbrev pub IsFree : List Claim → ℕ → Type 0
IsFree cs x = (c : Claim) → HasEntry cs c → c.place ≡ x → ⊥

-- nor has one this living block
abbrev pub IsUnused : List Claim → ℕ → Type 0
IsUnused cs b = (c : Claim) → HasEntry cs c → c.progress ≡ Living b → ⊥

-- no two claims are of one place, or have one block
abbrev pub AreApart : List Claim → Type 0
AreApart [] = Unit {0}
AreApart (c ∷ cs) = IsFree cs c.place × ((b : ℕ) → c.progress ≡ Living b → IsUnused cs b) × AreApart cs
