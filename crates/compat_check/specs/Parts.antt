-- Rules on grades, and elements in parts whose grades they tie together.
use Rattle.std.specs.Prelude.{◌≡◌, ℕ, zero, suc, ◌+◌, ◌<◌, ℤ, pos, ◌+ℤ◌, ◌≤ℤ◌, cond, eqb, ◌⊎◌, List, [], ◌∷◌, length, max, slice_index_or, slice_set}
use Rattle.compat_check.specs.declared.parts.Parts.{Parts}

-- the grade of the first element is that of the second and a rise
abbrev pub Rule : Type 0
Rule = ℕ × ℕ × ℤ

-- the grades meet the rules
abbrev pub Satisfies : (ℕ → ℤ) → List Rule → Type 0
Satisfies g [] = Unit {0}
Satisfies g (rule ∷ rules) = (g rule.0 ≡ g rule.1 +ℤ rule.2) × Satisfies g rules

-- the two elements of each rule have one head, and the heights that it wants
abbrev pub Ties : (ℕ → ℕ) → (ℕ → ℤ) → List Rule → Type 0
Ties head height [] = Unit {0}
Ties head height (rule ∷ rules) = (head rule.0 ≡ head rule.1) × (height rule.0 ≡ height rule.1 +ℤ rule.2) × Ties head height rules

-- a rule ties the two elements
abbrev pub Touches : List Rule → ℕ → ℕ → Type 0
Touches [] x y = ⊥
Touches (rule ∷ rules) x y = ((rule.0 ≡ x) × (rule.1 ≡ y)) ⊎ ((rule.0 ≡ y) × (rule.1 ≡ x)) ⊎ Touches rules x y

-- the rules speak of the first n elements
abbrev pub InRange : ℕ → List Rule → Type 0
InRange n [] = Unit {0}
InRange n (rule ∷ rules) = (rule.0 < n) × (rule.1 < n) × InRange n rules

-- from element to element over rules
abbrev pub IsPath : List Rule → ℕ → List ℕ → ℕ → Type 0
IsPath rules x [] y = x ≡ y
IsPath rules x (q ∷ qs) y = Touches rules x q × IsPath rules q qs y

abbrev pub Hangs : List Rule → ℕ → ℕ → Type 0
Hangs rules x y = (qs : List ℕ) × IsPath rules x qs y

-- how many of the first n elements have this head
abbrev pub count : (ℕ → ℕ) → ℕ → ℕ → ℕ
count head zero h = 0
count head (suc n) h = cond (eqb (head n) h) 1 0 + count head n h

-- the number of elements
abbrev pub size : Parts → ℕ
size parts = length parts.parents.items

abbrev pub parent_of : Parts → ℕ → ℕ
parent_of parts x = slice_index_or parts.parents.items x 0

abbrev pub rise_of : Parts → ℕ → ℤ
rise_of parts x = slice_index_or parts.rises.items x (pos 0)

abbrev pub rank_of : Parts → ℕ → ℕ
rank_of parts x = slice_index_or parts.ranks.items x 0

-- each element leads over its parents to a head, and stands at a height above it
pub record Leads (n : ℕ) (parts : Parts) (head : ℕ → ℕ) (height : ℕ → ℤ) : Type 0 where
  pub each : length parts.parents.items ≡ n
  pub rises : length parts.rises.items ≡ n
  pub ranks : length parts.ranks.items ≡ n
  pub tops : (x : ℕ) → x < n → (head x < n) × (parent_of parts (head x) ≡ head x)
  pub top : (x : ℕ) → x < n → parent_of parts x ≡ x → (head x ≡ x) × (height x ≡ pos 0)
  pub below : (x : ℕ) → x < n → (parent_of parts x ≡ x → ⊥) → (parent_of parts x < n) × (head x ≡ head (parent_of parts x)) × (height x ≡ rise_of parts x +ℤ height (parent_of parts x)) × (rank_of parts x < rank_of parts (parent_of parts x))
  pub spread : (x y : ℕ) → x < n → y < n → head x ≡ head y → (height x +ℤ pos 1) ≤ℤ (height y +ℤ pos (count head n (head y)))
  pub ranked : (x : ℕ) → x < n → rank_of parts x < n
  pub low : (x : ℕ) → x < n → rank_of parts (head x) < count head n (head x)

-- every part is tied by the rules, and no more than that
pub record Settles (n : ℕ) (rules : List Rule) (head : ℕ → ℕ) (height : ℕ → ℤ) : Type 0 where
  pub met : Ties head height rules
  pub forced : (g : ℕ → ℤ) → Satisfies g rules → (x : ℕ) → x < n → g x ≡ g (head x) +ℤ height x
  pub hangs : (x : ℕ) → x < n → Hangs rules x (head x)

-- one head is put under another
pub record Links (old new : Parts) (child top : ℕ) (rise : ℤ) : Type 0 where
  pub parents : new.parents.items ≡ slice_set old.parents.items child top
  pub rises : new.rises.items ≡ slice_set old.rises.items child rise
  pub ranks : new.ranks.items ≡ slice_set old.ranks.items top (max (rank_of old top) (rank_of old child + 1))

abbrev pub AreParts : ℕ → Parts → Type 0
AreParts n parts = (head : ℕ → ℕ) × ((height : ℕ → ℤ) × Leads n parts head height)

abbrev pub AreSettled : ℕ → List Rule → Parts → Type 0
AreSettled n rules parts = (head : ℕ → ℕ) × ((height : ℕ → ℤ) × Leads n parts head height × Settles n rules head height)
