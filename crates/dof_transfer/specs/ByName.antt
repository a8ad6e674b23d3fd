-- The values of elements after a round, by name.
use Rattle.std.specs.Prelude.{◌≡◌, ℤ, ◌+ℤ◌, Bool, false, true, List, [], ◌∷◌, ◌++◌, Some, None}
use Rattle.mesh_names.specs.Names.{Name}
use Rattle.mesh_names.specs.Triangles.{Shape}
use Rattle.mesh_names.specs.Forests.{Names, IsLeaf}
use Rattle.dof_transfer.specs.Held.{Held, value_of}
use Rattle.dof_transfer.specs.Exchanges.{child, part}

-- a value, split letter by letter; the last letter stands first
abbrev pub split_value : ℤ → List Bool → ℤ
split_value v [] = v
split_value v (b ∷ w) = part b (split_value v w)

-- the name lies at or below an old leaf, whose value is split down to it
pub record IsSplit (old : Held) (n : Name) (v : ℤ) : Type 0 where
  pub word : List Bool
  pub leaf : List Bool
  pub value : ℤ
  pub below : n.1 ≡ word ++ leaf
  pub held : value_of old (n.0, leaf) ≡ Some value
  pub is : v ≡ split_value value word

-- the value of a name after a round: split from the old leaf at or above it, or the sum of its children's values
pub data HasValue (old : Held) : Name → ℤ → Type 0 where
  split : (n : Name) (v : ℤ) → IsSplit old n v → HasValue old n v
  sum : (n : Name) (a b : ℤ) → HasValue old (child false n) a → HasValue old (child true n) b → HasValue old n (a +ℤ b)

-- the leaves of the forest have such values, and no other name has one
pub record LeavesHave (mesh : Shape) (members : Names) (held : Held) (is : Name → ℤ → Type 0) : Type 0 where
  pub leaves : (n : Name) → IsLeaf mesh members n → (v : ℤ) × (value_of held n ≡ Some v) × is n v
  pub none : (n : Name) → (IsLeaf mesh members n → ⊥) → value_of held n ≡ None

-- the leaves of the forest have their values by name, and no other name has one
abbrev pub AreElementValues : Shape → Names → Held → Held → Type 0
AreElementValues mesh members old new = LeavesHave mesh members new (HasValue old)
