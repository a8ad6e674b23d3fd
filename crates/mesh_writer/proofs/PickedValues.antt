-- Values that are there, and values at slots.
use Rattle.std.proofs.Common.{◌≡◌, ℕ, ℤ, pos, true≢false, List, [], ◌∷◌, map, length, refl, sym}
use Rattle.std.specs.Prelude.{All, Option, Some, None, IsSome, unwrap_or}
use Rattle.std.proofs.lemmas.List.{get_or-map}
use Rattle.std.proofs.lemmas.List.Elements.{All-head, All-tail}
use Rattle.mesh_names.specs.declared.patch.VertexKey.{VertexKey}
use Rattle.mesh_names.specs.declared.patch.VertexKey.TheVariants.{Macro}
use Rattle.mesh_writer.specs.Picks.{IsBelow, key_in, value_in}

-- a value that is there is what it counts as
some_worth : (o : Option ℤ) → IsSome o → Some (unwrap_or o (pos 0)) ≡ o
some_worth (Some v) h = refl
some_worth None h = absurd (true≢false (sym h))

pub all_worth : {A : Type 0} (value : A → Option ℤ) (xs : List A) → All (λ x. IsSome (value x)) xs → map {B = Option ℤ} Some (map (λ x. unwrap_or (value x) (pos 0)) xs) ≡ map value xs
all_worth value [] have = refl
all_worth value (x ∷ xs) have = λ i. some_worth (value x) (All-head (λ x. IsSome (value x)) x xs have) i ∷ all_worth value xs (All-tail (λ x. IsSome (value x)) x xs have) i

-- the values of keys at slots are values at slots
pub picked_values : (worth : VertexKey → ℤ) (keys : List VertexKey) (slots : List ℕ) → All (IsBelow (length keys)) slots → map (value_in (map worth keys)) slots ≡ map worth (map (key_in keys) slots)
picked_values worth keys [] below = refl
picked_values worth keys (s ∷ slots) below = λ i. get_or-map worth keys s (Macro 0) (pos 0) (All-head (IsBelow (length keys)) s slots below) i ∷ picked_values worth keys slots (All-tail (IsBelow (length keys)) s slots below) i
