-- What shared edges ask of grades.
use Rattle.std.specs.Prelude.{◌≡◌, ℕ, zero, suc, ◌/◌, ◌%◌, ◌<◌, ℤ, pos, ◌-ℤ◌, ◌≤ℤ◌, cond, eqb, List, [], ◌∷◌, length, Option, Some, None, slice_index_or}
use Rattle.compat_check.specs.Parts.{Rule, Satisfies, Hangs}
use Rattle.compat_check.specs.declared.mesh.Side.{Side}

-- 1 at the refinement edge, and 0 at the others
abbrev pub weight : ℕ → ℕ
weight edge = cond (eqb edge 2) 1 0

-- how much the grade of the element at a place is above that across its edge
abbrev pub rise_at : ℕ → Side → ℤ
rise_at place s = pos (weight (place % 3)) -ℤ pos (weight s.edge)

-- what the edge at a place asks of the grades
abbrev pub rule_at : ℕ → Option Side → List Rule → List Rule
rule_at place None rules = rules
rule_at place (Some s) rules = (place / 3, s.element, rise_at place s) ∷ rules

-- what the edges at the first places ask
abbrev pub rules_before : List (Option Side) → ℕ → List Rule
rules_before sides zero = []
rules_before sides (suc n) = rule_at n (slice_index_or sides n None) (rules_before sides n)

-- the sides lead to elements and edges
abbrev pub AreFit : ℕ → List (Option Side) → Type 0
AreFit n sides = (k : ℕ) (s : Side) → slice_index_or sides k None ≡ Some s → (s.element < n) × (s.edge < 3)

abbrev pub low_of : List ℤ → ℕ → ℤ
low_of lows h = slice_index_or lows h (pos 0)

-- for each head the lowest height among the first k elements of its part, and of the head itself
pub record AreLows (n k : ℕ) (head : ℕ → ℕ) (height : ℕ → ℤ) (lows : List ℤ) : Type 0 where
  pub each : length lows ≡ n
  pub below : (x : ℕ) → x < k → low_of lows (head x) ≤ℤ height x
  pub hit : (x : ℕ) → x < n → (y : ℕ) × (y < n) × (head y ≡ head x) × (height y ≡ low_of lows (head x))

-- the grades that some heights give: over the lowest of their part
pub record AreGrades (n : ℕ) (rules : List Rule) (grades : List ℕ) : Type 0 where
  pub each : length grades ≡ n
  pub meets : Satisfies (λ x. pos (slice_index_or grades x 0)) rules
  pub least : (x : ℕ) → x < n → (y : ℕ) × (y < n) × Hangs rules x y × (slice_index_or grades y 0 ≡ 0)
