-- The owner's view as a round begins, and as passes are made and joined.
use Rattle.std.specs.Prelude.{◌≡◌, ℕ, ◌+◌, ◌-◌, ◌<◌, List, [], ◌++◌, cond, ltb, ◌⊎◌, ◌∷◌, Bool, true, false}
use Rattle.table_words.specs.Entries.{HasEntry, EntryAt, Noted}
use Rattle.table_words.specs.Setup.{Setup}
use Rattle.table_words.specs.Words.{Node, node}
use Rattle.table_words.specs.Views.{Closing, Resting, FirstHalf, Owner, Worker, Reader, owns_nothing, Plan}
use Rattle.table_state.specs.Fresh.{idle, blank}
use Rattle.table_words.specs.Claims.{Progress, claim}
use Rattle.table_state.specs.Ghosts.{Placed, chained}
use Rattle.table_state.specs.Lists.{IsTarget, IsListed}
use Rattle.table_steps.specs.OwnerSteps.{joined_work}
use Rattle.mesh_table.specs.Sights.{Sight, no_ruling}

-- the owner may begin a round with these lists
pub record MayBegin (s : Setup) (v : Sight) (p : Plan) : Type 0 where
  pub rules : v.kind ≡ Owner
  pub names : List ℕ
  pub last : EntryAt v.ruling.history v.ruling.finished names
  pub target : IsTarget s (HasEntry names) p
  pub room : v.ruling.finished < s.rounds
  pub rests : v.ruling.phase ≡ Resting
  pub cursor : v.ruling.cursor ≡ 1

abbrev pub begun : Sight → Plan → Sight
begun v p = record v { work = idle; ruling = record v.ruling { phase = FirstHalf; cursor = 0; plan = p } }

abbrev pub left_by_split : Sight → Sight
left_by_split v = record v { owned = owns_nothing; ruling = record v.ruling { workers = v.ruling.workers + 1; lone = false } }

abbrev pub made_worker : Sight → ℕ → Sight
made_worker v number = record {
  kind = Worker;
  claims = [];
  work = record idle { half = v.ruling.phase; round = v.ruling.finished + 1; number = number; plan = v.ruling.plan };
  owned = owns_nothing;
  read = record (blank []) { told = v.ruling.history; seen = v.ruling.finished; made = v.ruling.finished };
  ruling = no_ruling;
  saw = [];
}

-- the owner's view with what a worker's pass knew
abbrev pub joined : Sight → Sight → Sight
joined v w = record v {
  claims = v.claims ++ w.claims;
  work = joined_work v.work w.work;
  owned = owns_nothing;
  ruling = record v.ruling { workers = v.ruling.workers - 1; lone = false };
}

abbrev pub left_by_reader : Sight → Sight
left_by_reader v = record v { ruling = record v.ruling { readers = v.ruling.readers + 1 } }

-- a reader's pass, which has the owner's notes and was told the history
abbrev pub made_reader : Sight → Sight
made_reader v = record {
  kind = Reader;
  claims = [];
  work = record idle { half = v.ruling.phase; round = v.ruling.finished + 1; number = 0; plan = v.ruling.plan };
  owned = owns_nothing;
  read = record (blank v.read.notes) { told = v.ruling.history; seen = v.ruling.finished; made = v.ruling.finished };
  ruling = no_ruling;
  saw = [];
}

-- the owner's view with a reader's notes
abbrev pub joined_reader : Sight → Sight → Sight
joined_reader v w = record v {
  read = record v.read { notes = v.read.notes ++ w.read.notes };
  ruling = record v.ruling { readers = v.ruling.readers - 1; early = cond (ltb w.read.made v.ruling.finished) (v.ruling.early - 1) v.ruling.early };
}

-- the owner owns the place's LINK, which names another block than b or has a retired round
abbrev pub IsStampedIn : Sight → ℕ → ℕ → Type 0
IsStampedIn v x b = (l : Node) × Noted v.owned.head x l × ((l.block ≡ b + 1 → ⊥) ⊎ (0 < l.died))

-- the owner may finish the closed round: no claim is left, and the LINK words of retired blocks are stamped
pub record MayAdvance (s : Setup) (v : Sight) (forest : List ℕ) : Type 0 where
  pub rules : v.kind ≡ Owner
  pub of : (i : ℕ) → HasEntry forest i → HasEntry v.ruling.plan.target i × (IsListed s v.ruling.plan.retire i → ⊥)
  pub all : (i : ℕ) → HasEntry v.ruling.plan.target i → (IsListed s v.ruling.plan.retire i → ⊥) → HasEntry forest i
  pub closed : v.ruling.phase ≡ Closing
  pub none : v.claims ≡ []
  pub stamped : (b : ℕ) → HasEntry (v.work.retired ++ v.ruling.retired) b → (x : ℕ) × (m : ℕ) × HasEntry v.ruling.placed (b, x, m) × IsStampedIn v x b
      × ((y : ℕ) → m ≡ y + 1 → IsStampedIn v y b)

-- the owner's view after it, where ROUND showed how many pins were taken
abbrev pub advanced : Sight → List ℕ → ℕ → Sight
advanced v forest taken = record v {
  work = idle;
  ruling = record v.ruling {
    phase = Resting;
    finished = v.ruling.finished + 1;
    early = v.ruling.readers;
    history = v.ruling.history ++ forest ∷ [];
    left = (v.ruling.finished, taken) ∷ v.ruling.left;
    retired = [];
    kept = (v.work.retired ++ v.ruling.retired) ++ v.ruling.kept;
    seen = 0;
    quiet = false;
  };
}

-- whether the view has a claim of the place
abbrev pub IsClaimed : Sight → ℕ → Bool → Type 0
IsClaimed v x true = (m : ℕ) × (p : Progress) × HasEntry v.claims (claim x m p)
IsClaimed v x false = (m : ℕ) (p : Progress) → HasEntry v.claims (claim x m p) → ⊥

-- the owner may write the current round into the LINK word of the place, which names the block that was retired in it
pub record MayStamp (v : Sight) (x b : ℕ) (bit : Bool) : Type 0 where
  pub rules : v.kind ≡ Owner
  pub closed : v.ruling.phase ≡ Closing
  pub first : ℕ
  pub second : ℕ
  pub side : Bool
  pub placed : HasEntry v.ruling.placed (b, first, second)
  pub fair : HasEntry v.ruling.rolled_back b → ⊥
  pub at : chained (Placed first second) side ≡ x + 1
  pub head : Noted v.owned.head x (node (b + 1) 0)
  pub died : Noted v.owned.died b (v.ruling.finished + 1)
  pub claimed : IsClaimed v x bit
