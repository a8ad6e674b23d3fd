-- For each edge of a list of triples the first other place with the same edge.
use Rattle.std.specs.Prelude.{◌≡◌, ℕ, ℤ, ◌*◌, ◌/◌, ◌<◌, List, [], ◌∷◌, ◌++◌, length, Option, Some, None, map, option_map, slice_index_or, slice_set}
use Rattle.std.specs.Simd.{first_chunks}
use Rattle.mesh_names.specs.Triangles.{Triple}
use Rattle.compat_check.specs.Places.{Meets}
use Rattle.mesh_writer.specs.Neighbours.{number_or_none}

-- the first of n places, other than i, with the edge of i
abbrev pub IsFirstOtherBelow : List Triple → ℕ → ℕ → Option ℕ → Type 0
IsFirstOtherBelow triples n i None = (j : ℕ) → j < n → (j ≡ i → ⊥) → Meets triples j i → ⊥
IsFirstOtherBelow triples n i (Some j) = (j < n) × (j ≡ i → ⊥) × Meets triples j i × ((k : ℕ) → k < j → (k ≡ i → ⊥) → Meets triples k i → ⊥)

-- of the first n places each has its first other
pub record AreOthersBelow (triples : List Triple) (n : ℕ) (others : List (Option ℕ)) : Type 0 where
  pub each : length others ≡ n
  pub first : (i : ℕ) → i < n → IsFirstOtherBelow triples n i (slice_index_or others i None)

-- the first place other than i with the edge of i
abbrev pub IsFirstOther : List Triple → ℕ → Option ℕ → Type 0
IsFirstOther triples = IsFirstOtherBelow triples (length triples * 3)

abbrev pub AreOthers : List Triple → List (Option ℕ) → Type 0
AreOthers triples = AreOthersBelow triples (length triples * 3)

-- a place with this earlier one, which has this other one
abbrev pub then_adds : List (Option ℕ) → ℕ → Option ℕ → List (Option ℕ) → Type 0
then_adds old q (Some f) new = new ≡ old ++ Some f ∷ []
then_adds old q None new = new ≡ slice_set old q (Some (length old)) ++ Some q ∷ []

-- a place with this earlier one is added
abbrev pub AddsPlace : List (Option ℕ) → Option ℕ → List (Option ℕ) → Type 0
AddsPlace old None new = new ≡ old ++ None ∷ []
AddsPlace old (Some q) new = then_adds old q (slice_index_or old q None) new

-- the number of the leaf with the edge at a place, or -1
abbrev pub leaf_at : Option ℕ → ℤ
leaf_at place = number_or_none (option_map (λ q. q / 3) place)

-- the neighbours of so many leaves, from the first other places of their edges, three by three
abbrev pub rows_by : List (Option ℕ) → ℕ → List (List ℤ)
rows_by others count = map (map leaf_at) (first_chunks 3 count others)
