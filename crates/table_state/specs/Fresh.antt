-- The fresh table: round 0 is finished with the empty forest, and free row i names block i.
use Rattle.std.specs.Prelude.{◌≡◌, ℕ, ◌+◌, zero, suc, cond, ltb, List, [], ◌∷◌, false}
use Rattle.mesh_names.specs.Triangles.{Shape}
use Rattle.mesh_names.specs.Partners.{Across, Tells}
use Rattle.table_words.specs.declared.layout.Layout.{Layout}
use Rattle.table_words.specs.Setup.{setup_of}
use Rattle.table_words.specs.Views.{no_plan, Still, Note, Work, Read, Owned, owns_nothing, Views, Kind, Vacant, Owner, Resting}
use Rattle.table_words.specs.FreshWords.{AreFresh}
use Rattle.table_words.specs.Words.{Words, node, words_at}
use Rattle.table_state.specs.Ghosts.{Open, Free, Ghost}
use Rattle.table_state.specs.Rule.{Rule}

-- each number below n with what f gives for it
abbrev pub noted_below : ℕ → (ℕ → ℕ) → List (ℕ × ℕ)
noted_below zero f = []
noted_below (suc n) f = (n, f n) ∷ noted_below n f

-- a pass that knows nothing of the work
abbrev pub idle : Work
idle = record {
  half = Resting;
  round = 0;
  number = 0;
  plan = no_plan;
  drawn = [];
  found = [];
  known = [];
  open_ = [];
  given = [];
  absent = [];
  stood = [];
  had = [];
  grown = [];
  retired = [];
  went = [];
  walk = Still;
}

-- a pass without a pin
abbrev pub blank : List Note → Read
blank notes = record { pin = 0; ready = false; went = []; walk = Still; notes = notes; places = []; told = []; seen = 0; made = 0; back = 0 }

abbrev pub fresh_words : ℕ → Words
fresh_words pool = record {
  round = 0;
  taken = 0;
  cursor = 0;
  free = pool;
  released = λ _. 0;
  row = λ i. cond (ltb i pool) i 0;
  claimed = λ _. 0;
  head = λ _. node 0 0;
  history = λ _. node 0 0;
  born = λ _. 0;
  died = λ _. 0;
  name = λ _. 0;
}

-- the owner has the first seat
abbrev pub fresh_kind : ℕ → Kind
fresh_kind zero = Owner
fresh_kind (suc j) = Vacant

-- the owner owns each row, and that no block is born
abbrev pub fresh_owned : ℕ → ℕ → Owned
fresh_owned pool zero = record owns_nothing { born = noted_below pool (λ _. 0); row = noted_below pool (λ i. i) }
fresh_owned pool (suc j) = owns_nothing

abbrev pub fresh_views : ℕ → Views
fresh_views pool = record {
  kind = fresh_kind;
  claims = λ _. [];
  work = λ _. idle;
  owned = fresh_owned pool;
  read = λ _. blank [];
  ruling = record {
    phase = Resting;
    finished = 0;
    history = [] ∷ [];
    plan = no_plan;
    workers = 0;
    readers = 0;
    early = 0;
    lone = false;
    left = [];
    drained = [];
    hand = [];
    cursor = 1;
    free = pool + 1;
    low = 0;
    high = 0;
    retired = [];
    kept = [];
    placed = [];
    rolled_back = [];
    seen = 0;
    quiet = false;
  };
}

abbrev pub fresh_ghost : Ghost
fresh_ghost = record { stage = λ _. Open; life = λ _. Free; who = λ _ _. 0; pins = λ _. 0 }

-- the law that these are the words of the list of a fresh table
abbrev pub FreshFromList : Type 0
FreshFromList = (l : Layout) (words : List ℕ) → AreFresh l words → words_at l words ≡ fresh_words l.pool

-- the law that the fresh table over a mesh meets the rule
abbrev pub FreshIsLawful : Type 0
FreshIsLawful = (mesh : Shape) (across : Across) → Tells mesh across → (l : Layout) (passes : ℕ)
    → Rule (setup_of mesh across l passes) (fresh_words l.pool) 1 (fresh_views l.pool) fresh_ghost
