-- A run on the square: its two elements are one patch, and the table has one block. Each line changes one word.
use Rattle.std.specs.Prelude.{◌≡◌, ℕ, ◌+◌, List, [], ◌∷◌, ◌⊎◌, ◌↔◌}
use Rattle.mesh_names.specs.Squares.{square}
use Rattle.mesh_names.specs.Validity.{across_of}
use Rattle.table_words.specs.Functions.{update}
use Rattle.table_words.specs.Setup.{Setup, setup_of}
use Rattle.table_words.specs.Views.{Views}
use Rattle.table_words.specs.Words.{Words, node}
use Rattle.table_state.specs.Ghosts.{Ghost}
use Rattle.table_state.specs.Bisections.{MayRead}
use Rattle.table_state.specs.Fresh.{fresh_words, fresh_views}
use Rattle.table_reading.specs.Reading.{StandsAt, Bisects}
use Rattle.table_state.specs.Rule.{Rule}
use Rattle.table_runs.specs.PatchWords as root
use Rattle.table_runs.specs.PatchWords.{name0, name1}
use Rattle.table_steps.specs.States.{State, state}
use Rattle.table_steps.specs.Steps.{Run}

-- a table over the square with one block, for four rounds and one reader's pass
abbrev pub square_setup : Setup
square_setup = setup_of square (across_of square) (record { rounds = 4; elements = 2; pool = 1 }) 1

-- a worker bisects the patch by block 0, from its claim to the links
abbrev pub claimed : Words
claimed = root.claimed (fresh_words 1)

abbrev pub drawn : Words
drawn = root.drawn (fresh_words 1)

abbrev pub history0 : Words
history0 = root.history0 (fresh_words 1)

abbrev pub history1 : Words
history1 = root.history1 (fresh_words 1)

abbrev pub undead : Words
undead = root.undead (fresh_words 1)

abbrev pub named0 : Words
named0 = root.named0 (fresh_words 1)

abbrev pub named1 : Words
named1 = root.named1 (fresh_words 1)

abbrev pub child0 : Words
child0 = root.child0 (fresh_words 1)

abbrev pub child1 : Words
child1 = root.child1 (fresh_words 1)

abbrev pub child2 : Words
child2 = root.child2 (fresh_words 1)

abbrev pub child3 : Words
child3 = root.child3 (fresh_words 1)

abbrev pub linked0 : Words
linked0 = root.linked0 (fresh_words 1)

abbrev pub linked1 : Words
linked1 = root.linked1 (fresh_words 1)

-- and publishes it
abbrev pub published : Words
published = let w = linked1 in record w { born = update w.born 0 1 }

-- the owner ends the claim and the round
abbrev pub unclaimed : Words
unclaimed = let w = published in record w { claimed = update w.claimed 0 0 }

abbrev pub finished1 : Words
finished1 = let w = unclaimed in record w { round = 1; taken = 0 }

-- before the next round FREE and CURSOR become 0
abbrev pub stopped : Words
stopped = let w = finished1 in record w { free = 0 }

abbrev pub rewound : Words
rewound = let w = stopped in record w { cursor = 0 }

-- a reader pins round 1
abbrev pub pinned : Words
pinned = let w = rewound in record w { taken = w.taken + 1 }

-- in round 2 a worker retires the block, the owner stamps both links and ends the round
abbrev pub retired : Words
retired = let w = pinned in record w { died = update w.died 0 2 }

abbrev pub stamped0 : Words
stamped0 = let w = retired in record w { head = update w.head 0 (node 1 2) }

abbrev pub stamped1 : Words
stamped1 = let w = stamped0 in record w { head = update w.head 1 (node 1 2) }

abbrev pub finished2 : Words
finished2 = let w = stamped1 in record w { round = 2; taken = 0 }

-- the reader gives its pin back, and the owner cuts the block out of both chains
abbrev pub unpinned : Words
unpinned = let w = finished2 in record w { released = update w.released 1 (w.released 1 + 1) }

abbrev pub cut0 : Words
cut0 = let w = unpinned in record w { head = update w.head 0 (node 0 0) }

abbrev pub cut1 : Words
cut1 = let w = cut0 in record w { head = update w.head 1 (node 0 0) }

-- the block is put into a free row again
abbrev pub unborn : Words
unborn = let w = cut1 in record w { born = update w.born 0 0 }

abbrev pub laid : Words
laid = let w = unborn in record w { row = update w.row 0 0 }

abbrev pub opened : Words
opened = let w = laid in record w { free = 1 }

-- and a worker of round 3 claims the patch and draws the block
abbrev pub claimed_again : Words
claimed_again = let w = opened in record w { claimed = update w.claimed 0 1 }

abbrev pub drawn_again : Words
drawn_again = let w = claimed_again in record w { cursor = w.cursor + 1 }

-- In another run the round is refused: after the block was published, its BORN becomes 0 again, the links get back what they had, and DIED becomes the round
abbrev pub unpublished : Words
unpublished = let w = published in record w { born = update w.born 0 0 }

abbrev pub unlinked1 : Words
unlinked1 = let w = unpublished in record w { head = update w.head 1 (node 0 0) }

abbrev pub unlinked0 : Words
unlinked0 = let w = unlinked1 in record w { head = update w.head 0 (node 0 0); claimed = update w.claimed 0 0 }

abbrev pub buried : Words
buried = let w = unlinked0 in record w { died = update w.died 0 1 }

-- in a third the reader gives its pin back before the second round
abbrev pub given_back : Words
given_back = let w = pinned in record w { released = update w.released 1 (w.released 1 + 1) }

-- the words of the run, in order
abbrev pub run_words : List Words
run_words = fresh_words 1 ∷ claimed ∷ drawn ∷ history0 ∷ history1 ∷ undead ∷ named0 ∷ named1 ∷ child0 ∷ child1 ∷ child2 ∷ child3 ∷ linked0 ∷ linked1
    ∷ published ∷ unclaimed ∷ finished1 ∷ stopped ∷ rewound ∷ pinned ∷ retired ∷ stamped0 ∷ stamped1 ∷ finished2 ∷ unpinned ∷ cut0 ∷ cut1 ∷ unborn ∷ laid
    ∷ opened ∷ claimed_again ∷ drawn_again ∷ []

-- the states have the listed words, one after the other, each for one state or more: a load, a split or a phase changes no word
abbrev pub Along : List State → List Words → Type 0
Along [] ws = ws ≡ []
Along (a ∷ rest) [] = ⊥
Along (a ∷ rest) (w ∷ ws) = (a.words ≡ w) × (Along rest ws ⊎ Along rest (w ∷ ws))

-- the law that the run is one: its states come from the fresh one, each by a step from the one before, and have these words
abbrev pub SquareFollows : Type 0
SquareFollows = (states : List State) × Run square_setup (state (fresh_words 1) 1 (fresh_views 1)) states
    × Along (state (fresh_words 1) 1 (fresh_views 1) ∷ states) run_words

-- the law that the other is one too, in which the pass is worker 0's: it is rolled back, and a load shows that no pin is out
abbrev pub SquareRefused : Type 0
SquareRefused = (states : List State) × Run square_setup (state (fresh_words 1) 1 (fresh_views 1)) states
    × Along (state (fresh_words 1) 1 (fresh_views 1) ∷ states) (fresh_words 1 ∷ claimed ∷ drawn ∷ history0 ∷ history1 ∷ undead ∷ named0 ∷ named1 ∷ child0
    ∷ child1 ∷ child2 ∷ child3 ∷ linked0 ∷ linked1 ∷ published ∷ unpublished ∷ unlinked1 ∷ unlinked0 ∷ buried ∷ [])

-- the law that the third is one too: the reader goes to the block, finds element 0 bisected and its first child not, gives the pin back and is joined
abbrev pub SquareVisits : Type 0
SquareVisits = (states : List State) × Run square_setup (state (fresh_words 1) 1 (fresh_views 1)) states
    × Along (state (fresh_words 1) 1 (fresh_views 1) ∷ states) (fresh_words 1 ∷ claimed ∷ drawn ∷ history0 ∷ history1 ∷ undead ∷ named0 ∷ named1 ∷ child0
    ∷ child1 ∷ child2 ∷ child3 ∷ linked0 ∷ linked1 ∷ published ∷ unclaimed ∷ finished1 ∷ stopped ∷ rewound ∷ pinned ∷ given_back ∷ [])

-- the words are those of a lawful state that may be read at the round q, at which both
-- elements are bisected by the block of number k - 1, or neither is, where k is 0
abbrev pub Reads : Words → ℕ → ℕ → Type 0
Reads w q k = (n : ℕ) × (v : Views) × (g : Ghost) × Rule square_setup w n v g × MayRead w.round v.ruling.phase v.read q × (g.who q name0 ≡ k)
    × (g.who q name1 ≡ k)

-- the law that each state of the run is lawful, and what is read in it
pub record SquareRuns : Type 0 where
  pub fresh : Reads (fresh_words 1) 0 0
  pub claimed : Reads claimed 1 0
  pub drawn : Reads drawn 1 0
  pub filled : Reads history0 1 0 × Reads history1 1 0 × Reads undead 1 0 × Reads named0 1 0 × Reads named1 1 0 × Reads child0 1 0 × Reads child1 1 0
      × Reads child2 1 0 × Reads child3 1 0
  pub linked : Reads linked0 1 0 × Reads linked1 1 0
  pub published : Reads published 0 0 × Reads published 1 1
  pub unclaimed : Reads unclaimed 1 1
  pub finished : Reads finished1 1 1 × Reads stopped 1 1 × Reads rewound 1 1
  pub pinned : Reads pinned 1 1 × Reads pinned 2 1
  pub retired : Reads retired 1 1 × Reads retired 2 0
  pub stamped : Reads stamped0 1 1 × Reads stamped1 1 1 × Reads stamped1 2 0
  pub finished_again : Reads finished2 1 1 × Reads finished2 2 0
  pub unpinned : Reads unpinned 2 0
  pub cut : Reads cut0 2 0 × Reads cut1 2 0
  pub freed : Reads unborn 2 0 × Reads laid 2 0 × Reads opened 2 0
  pub reused : Reads claimed_again 3 0 × Reads drawn_again 3 0

-- the law that what the run's states read is read from their words: by the block of number k - 1 the two elements are bisected, and by no other
abbrev pub SquareReads : Type 0
SquareReads = (w : Words) (q k : ℕ) → Reads w q k → (b : ℕ) → (((x : ℕ) × StandsAt w 2 q 0 [] x × Bisects w q x name0 b) ↔ (k ≡ b + 1))
    × (((x : ℕ) × StandsAt w 2 q 1 [] x × Bisects w q x name1 b) ↔ (k ≡ b + 1))
