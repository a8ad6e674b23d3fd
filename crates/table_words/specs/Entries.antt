-- Lists of what a seat has noted.
use Rattle.std.specs.Prelude.{◌≡◌, ℕ, zero, suc, List, [], ◌∷◌, ◌⊎◌}

-- a is one of the entries
abbrev pub HasEntry : {A : Type 0} → List A → A → Type 0
HasEntry [] a = ⊥
HasEntry (x ∷ xs) a = (a ≡ x) ⊎ HasEntry xs a

-- the newest entry at i is a
abbrev pub Noted : {A : Type 0} → List (ℕ × A) → ℕ → A → Type 0
Noted [] i a = ⊥
Noted (x ∷ xs) i a = ((x.0 ≡ i) × (x.1 ≡ a)) ⊎ (((x.0 ≡ i) → ⊥) × Noted xs i a)

-- the entry of this number, from 0 on, is a
abbrev pub EntryAt : {A : Type 0} → List A → ℕ → A → Type 0
EntryAt [] i a = ⊥
EntryAt (x ∷ xs) zero a = a ≡ x
EntryAt (x ∷ xs) (suc i) a = EntryAt xs i a
