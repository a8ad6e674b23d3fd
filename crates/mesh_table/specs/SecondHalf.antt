-- What a worker's pass finds and does in the second half of a round.
use Rattle.std.specs.Prelude.{◌≡◌, ℕ, zero, suc, ◌+◌, ◌<◌, Bool, false, true, List, ◌∷◌, cond, ◌==◌, ltb, ◌⊎◌}
use Rattle.table_words.specs.Entries.{HasEntry, EntryAt}
use Rattle.table_words.specs.Places.{child_place}
use Rattle.table_words.specs.Setup.{Setup}
use Rattle.table_words.specs.Views.{Worker, SecondHalf, Still, Past}
use Rattle.table_state.specs.Lists.{IsClosed}
use Rattle.mesh_table.specs.Saw.{SawDied, SawHad, SawRetire}
use Rattle.mesh_table.specs.Sights.{Sight}
use Rattle.mesh_table.specs.Holds.{Sat}
use Rattle.mesh_table.specs.Told.{passed}

-- the pass is a worker's of the second half
abbrev pub WorksLate : Sight → Type 0
WorksLate v = (v.kind ≡ Worker) × (v.work.half ≡ SecondHalf)

-- the places of the two children of the member t of the block, which bisects the name k, before others
abbrev pub with_children : Setup → ℕ → ℕ → Bool → List (ℕ × ℕ) → List (ℕ × ℕ)
with_children s b k t places = (child_place s.elements b t false, s.child k false) ∷ (child_place s.elements b t true, s.child k true) ∷ places

-- the last finished round has the name by this block, at which its children stand
abbrev pub having : Setup → Sight → ℕ → ℕ → Bool → Sight
having s v k b t = record v {
  work = record v.work { walk = Still; stood = with_children s b k t v.work.stood; had = (b, k) ∷ v.work.had };
  saw = SawHad k ∷ v.saw;
}

-- the block was born in the current round, and is passed by
abbrev pub passed_grown : Setup → Sight → ℕ → ℕ → ℕ → Bool → Sight
passed_grown s v x k b t = record v { work = record v.work { walk = Past x k b t; grown = with_children s b k t v.work.grown } }

-- what BORN shows in the second half
abbrev pub arriving_late : Setup → ℕ → ℕ → ℕ → Bool → ℕ → Sight → Sight
arriving_late s x k b t n v = cond (n == 0) (passed v x k b t) (cond (ltb n v.work.round) (having s v k b t) (passed_grown s v x k b t))

-- what the second NAME word shows of a block that the last finished round has for a first member: the other
-- member, if there is one, is bisected by the block too
abbrev pub with_mate : Setup → ℕ → ℕ → Sight → Sight
with_mate s b n v = cond (n == 0) v (record v { work = record v.work { stood = with_children s b n true v.work.stood; had = (b, n) ∷ v.work.had } })

abbrev pub mate_told : Setup → ℕ → ℕ → Sat → ℕ → Sat → Type 0
mate_told s b k m n m' = (m'.1 ≡ m.1) × (m'.0 ≡ with_mate s b n m.0) × (n ≡ s.mate k)

-- the name is known as not bisected in the current round
abbrev pub opened : ℕ → Sight → Sight
opened k v = record v { work = record v.work { open_ = k ∷ v.work.open_ } }

-- the account says that a load of the block's DIED found n
abbrev pub saw_died : ℕ → ℕ → Sight → Sight
saw_died b n v = record v { saw = SawDied b n ∷ v.saw }

-- what DIED shows of a block that the last finished round has for the name
abbrev pub dying : ℕ → ℕ → ℕ → Sight → Sight
dying b k n v = saw_died b n (cond (n == 0) v (opened k v))

-- and what it tells: the name is of the target, and was not known as not bisected where DIED is 0
abbrev pub dying_told : ℕ → ℕ → Sat → ℕ → Sat → Type 0
dying_told b k m n m' = (m'.1 ≡ m.1) × (m'.0 ≡ dying b k n m.0) × HasEntry m.0.work.plan.target k × (n ≡ 0 → HasEntry m.0.work.open_ k → ⊥)

-- a name that is not of the target stands at the place, at the last finished round
pub record MayOpen (v : Sight) (x k : ℕ) : Type 0 where
  pub works : WorksLate v
  pub stood : HasEntry v.work.stood (x, k)
  pub outside : HasEntry v.work.plan.target k → ⊥

-- the block of a patch of the retire list, of which no child is bisected
pub record MayRetire (s : Setup) (v : Sight) (b k : ℕ) : Type 0 where
  pub works : WorksLate v
  pub leads : s.leads k ≡ true
  pub listed : HasEntry v.work.plan.retire k
  pub had : HasEntry v.work.had (b, k)
  pub first : (c : Bool) → HasEntry v.work.open_ (s.child k c)
  pub second : (i : ℕ) → s.mate k ≡ i + 1 → (c : Bool) → HasEntry v.work.open_ (s.child (i + 1) c)

-- the members of a patch, of which the second is m, or none where that is 0, before other names
abbrev pub members_before : ℕ → ℕ → List ℕ → List ℕ
members_before k zero names = k ∷ names
members_before k (suc m) names = k ∷ suc m ∷ names

-- the view after a retirement that found DIED to be n: the block is this pass's to retire where that was 0
abbrev pub retiring : Setup → ℕ → ℕ → ℕ → Sight → Sight
retiring s b k n v = record v {
  work = record v.work {
    given = (b, k) ∷ v.work.given;
    open_ = members_before k (s.mate k) v.work.open_;
    retired = cond (n == 0) (b ∷ v.work.retired) v.work.retired;
  };
  saw = SawRetire b n ∷ v.saw;
}

-- the pass was told that the last finished round has the name
abbrev pub IsOld : Sight → ℕ → Type 0
IsOld v k = (q : ℕ) × (names : List ℕ) × (q + 1 ≡ v.work.round) × EntryAt v.read.told q names × HasEntry names k

-- such a name was not found absent; and with each the parent is there, and the other member of its patch
abbrev pub old_told : Setup → Sat → ℕ → Sat → Type 0
old_told s m n m' = (m' ≡ m) × ((k : ℕ) → IsOld m.0 k → HasEntry m.0.work.absent k → ⊥) × IsClosed s (IsOld m.0)
