-- Words that one seat alone may change, and which it owns.
use Rattle.std.specs.Prelude.{◌≡◌, ℕ, ◌+◌, Bool, ◌⊎◌}
use Rattle.table_words.specs.Claims.{Drawn, Half}
use Rattle.table_words.specs.Entries.{Noted}
use Rattle.table_words.specs.Places.{member_of, child_place}
use Rattle.table_words.specs.Views.{Owned}
use Rattle.table_words.specs.Words.{Node}
use Rattle.table_state.specs.Ghosts.{Stage, Held}

-- the seat alone changes the words of the block: the owner's while no worker's pass is out,
-- or that of the claim for which the block was drawn, until it is linked whole
abbrev pub GuardsBlock : ℕ → (ℕ → Stage) → ℕ → ℕ → Type 0
GuardsBlock workers stage j b = ((j ≡ 0) × (workers ≡ 0)) ⊎ ((x : ℕ) × (m : ℕ) × ((stage x ≡ Held j m (Drawn b)) ⊎ (stage x ≡ Held j m (Half b))))

-- the seat alone changes the LINK of the place: the owner's while no worker's pass is out, or that
-- of a claim, at its members until they are linked and at the children of its drawn block
abbrev pub GuardsHead : ℕ → ℕ → (ℕ → Stage) → ℕ → ℕ → Type 0
GuardsHead e workers stage j z = ((j ≡ 0) × (workers ≡ 0))
    ⊎ ((x : ℕ) × (m : ℕ) × (b : ℕ)
    × (((stage x ≡ Held j m (Drawn b)) × ((z ≡ x) ⊎ (m ≡ z + 1) ⊎ ((t : Bool) × (c : Bool) × (z ≡ child_place e b t c))))
    ⊎ ((stage x ≡ Held j m (Half b)) × (m ≡ z + 1))))

-- what a seat noted of a word that it guards is the word's content
pub record OwnedRule (e workers : ℕ) (head history : ℕ → Node) (born died name row : ℕ → ℕ) (stage : ℕ → Stage) (j : ℕ) (v : Owned) : Type 0 where
  pub head_is : (z : ℕ) (l : Node) → Noted v.head z l → GuardsHead e workers stage j z → head z ≡ l
  pub history_is : (b : ℕ) (t : Bool) (l : Node) → Noted v.history (member_of b t) l → GuardsBlock workers stage j b → history (member_of b t) ≡ l
  pub died_is : (b n : ℕ) → Noted v.died b n → GuardsBlock workers stage j b → died b ≡ n
  pub name_is : (b : ℕ) (t : Bool) (n : ℕ) → Noted v.name (member_of b t) n → GuardsBlock workers stage j b → name (member_of b t) ≡ n
  -- the owner alone changes BORN of a block that has been born, and the rows
  pub born_is : (b n : ℕ) → Noted v.born b n → j ≡ 0 → workers ≡ 0 → born b ≡ n
  pub row_is : (i b : ℕ) → Noted v.row i b → j ≡ 0 → workers ≡ 0 → row i ≡ b
