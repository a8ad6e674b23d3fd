-- What the readers' passes know.
use Rattle.std.specs.Prelude.{◌≡◌, ℕ, ◌+◌, ◌<◌, ◌≤◌, Bool, true, false, List, ◌⊎◌}
use Rattle.table_words.specs.Entries.{HasEntry}
use Rattle.table_words.specs.Places.{member_of}
use Rattle.table_words.specs.Setup.{Setup}
use Rattle.table_words.specs.Views.{Walk, Still, At, Past, Read}
use Rattle.table_words.specs.Words.{Node}
use Rattle.table_state.specs.Ghosts.{Life, stands}
use Rattle.table_state.specs.Chains.{Covers, Reaches}
use Rattle.table_state.specs.Bisections.{IsPlaceOf}

-- Where a walk at q is: it is idle; or it has gone to a block's member from the place of a name,
-- whose block, if there is one, is this or is found behind it; or it has passed that block by
abbrev pub Walks : Setup → (ℕ → ℕ) → (ℕ → Node) → (ℕ → ℕ) → (ℕ → ℕ) → (ℕ → Life) → (ℕ → ℕ) → ℕ → List ℕ → Walk → Type 0
Walks s name history born died life who q went Still = Unit {0}
Walks s name history born died life who q went (At x n b t) = HasEntry went b × (stands (life b) t ≡ x + 1) × IsPlaceOf s name who x n
    × ((c : ℕ) → who n ≡ c + 1 → ((b ≡ c) × Covers born died q c) ⊎ Reaches history born died life q x c (history (member_of b t)))
Walks s name history born died life who q went (Past x n b t) = HasEntry went b × (stands (life b) t ≡ x + 1) × IsPlaceOf s name who x n
    × ((c : ℕ) → who n ≡ c + 1 → Reaches history born died life q x c (history (member_of b t)))

pub record ReaderRule (s : Setup) (round : ℕ) (name : ℕ → ℕ) (history : ℕ → Node) (born died : ℕ → ℕ) (life : ℕ → Life) (who : ℕ → ℕ
    → ℕ) (v : Read) : Type 0 where
  -- a block to which the pass went since its pin of q stands somewhere, and was not retired by q
  pub went : (q b : ℕ) → v.pin ≡ q + 1 → HasEntry v.went b → ((t : Bool) × (x : ℕ) × (stands (life b) t ≡ x + 1)) × ((died b ≡ 0) ⊎ (q < died b))
  pub walk : (q : ℕ) → v.pin ≡ q + 1 → Walks s name history born died life (who q) q v.went v.walk
  -- the member to which a walk has gone has the element's name
  pub sided : (q x n b : ℕ) (t : Bool) → v.pin ≡ q + 1 → (v.walk ≡ At x n b t) ⊎ (v.walk ≡ Past x n b t) → name (member_of b t) ≡ n
  -- retired rounds fall along a walk: the next word's is below the one by which the walk came
  pub dated : (q x n b : ℕ) (t : Bool) → v.pin ≡ q + 1 → (v.walk ≡ At x n b t) ⊎ (v.walk ≡ Past x n b t) → 0 < v.back → (history (member_of b t)).died < v.back
  pub places : (q x n : ℕ) → v.pin ≡ q + 1 → HasEntry v.places (x, n) → IsPlaceOf s name (who q) x n
  -- its notes are of finished rounds, and right
  pub yes_notes : (n q : ℕ) → HasEntry v.notes record { round = q; name = n; bisected = true } → (q ≤ round) × ((b : ℕ) × (who q n ≡ b + 1))
  pub no_notes : (n q : ℕ) → HasEntry v.notes record { round = q; name = n; bisected = false } → (q ≤ round) × (who q n ≡ 0)
