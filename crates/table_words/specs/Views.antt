-- What the seats of a table know: the parts of a view, each a function of the seat.
use Rattle.std.specs.Prelude.{ℕ, ◌<◌, Bool, true, false, List, []}
use Rattle.table_words.specs.Words.{Node}
use Rattle.table_words.specs.Claims.{Claim}

-- The kinds of seat: a worker's, a reader's and the owner's, which is the seat 0; one that was never made, or that was joined, is vacant
pub data Kind : Type 0 where
  Vacant : Kind
  Worker : Kind
  Reader : Kind
  Owner : Kind

-- a worker's seat
abbrev pub is_worker : Kind → Bool
is_worker Vacant = false
is_worker Worker = true
is_worker Reader = false
is_worker Owner = false

-- a reader's seat
abbrev pub is_reader : Kind → Bool
is_reader Vacant = false
is_reader Worker = false
is_reader Reader = true
is_reader Owner = false

-- The phases of a round: at rest before its first pass, its two halves, while it is closed, and while it is rolled back
pub data Phase : Type 0 where
  Resting : Phase
  FirstHalf : Phase
  SecondHalf : Phase
  Closing : Phase
  RollingBack : Phase

-- where a phase stands in the order in which they are listed
abbrev pub order : Phase → ℕ
order Resting = 0
order FirstHalf = 1
order SecondHalf = 2
order Closing = 3
order RollingBack = 4

-- the phase p stands before q in that order
abbrev pub Precedes : Phase → Phase → Type 0
Precedes p q = order p < order q

-- a walk is idle, has gone to a block's member from the place of an element with this name, or has passed the block by
pub data Walk : Type 0 where
  Still : Walk
  At : ℕ → ℕ → ℕ → Bool → Walk
  Past : ℕ → ℕ → ℕ → Bool → Walk

-- the lists of a round, of names: those that it needs, the least forest that holds them and the last
-- finished round's, and the first members of the patches that the second half is to retire
pub record Plan : Type 0 where
  pub needs : List ℕ
  pub target : List ℕ
  pub retire : List ℕ

-- no lists
abbrev pub no_plan : Plan
no_plan = record { needs = []; target = []; retire = [] }

-- what a worker's pass knows of the current round
pub record Work : Type 0 where
  -- the half of the round in which it works
  pub half : Phase
  -- the current round
  pub round : ℕ
  -- its number among the workers
  pub number : ℕ
  pub plan : Plan
  -- the numbers that its draws found, each with one more than the block, or 0
  pub drawn : List (ℕ × ℕ)
  -- places where it found elements, each with the element's name
  pub found : List (ℕ × ℕ)
  -- names that are bisected, and names that are not
  pub known : List ℕ
  pub open_ : List ℕ
  -- blocks of patches that are to be retired, each with its first member's name
  pub given : List (ℕ × ℕ)
  -- names that the last finished round has not, and places of elements at that round
  pub absent : List ℕ
  pub stood : List (ℕ × ℕ)
  -- blocks that bisect a name at the last finished round, each with the name
  pub had : List (ℕ × ℕ)
  -- in the second half, places of children of blocks that were born in the current round, each with the element's name
  pub grown : List (ℕ × ℕ)
  -- the blocks that it retired
  pub retired : List ℕ
  -- the blocks to which it has gone, and where its walk is
  pub went : List ℕ
  pub walk : Walk

-- contents of words that no other seat changes: by place, by member, by block, by row
pub record Owned : Type 0 where
  pub head : List (ℕ × Node)
  pub history : List (ℕ × Node)
  pub born : List (ℕ × ℕ)
  pub died : List (ℕ × ℕ)
  pub name : List (ℕ × ℕ)
  pub row : List (ℕ × ℕ)

-- no content
abbrev pub owns_nothing : Owned
owns_nothing = record { head = []; history = []; born = []; died = []; name = []; row = [] }

-- whether a name is bisected at a round
pub record Note : Type 0 where
  pub round : ℕ
  pub name : ℕ
  pub bisected : Bool

-- what a reader's pass knows
pub record Read : Type 0 where
  -- one more than the pinned round, or 0
  pub pin : ℕ
  -- the last step on ROUND was a load that showed fewer pins than the limit
  pub ready : Bool
  -- the blocks to which it has gone since it took the pin
  pub went : List ℕ
  pub walk : Walk
  pub notes : List Note
  -- places of elements at the pinned round, each with the element's name
  pub places : List (ℕ × ℕ)
  -- the forests of the finished rounds that the pass was told, from round 0 on
  pub told : List (List ℕ)
  -- the last round that it saw finished, and the last finished round when it was made
  pub seen : ℕ
  pub made : ℕ
  -- the retired round with which the word of the walk named its block, or 0
  pub back : ℕ

-- a pass that has read nothing
abbrev pub unread : Read
unread = record { pin = 0; ready = false; went = []; walk = Still; notes = []; places = []; told = []; seen = 0; made = 0; back = 0 }

-- what the owner knows
pub record Ruling : Type 0 where
  pub phase : Phase
  -- the last finished round
  pub finished : ℕ
  -- the forests of the finished rounds, from round 0 on, as lists of names
  pub history : List (List ℕ)
  -- the lists of the current round
  pub plan : Plan
  -- how many workers' and readers' passes are out
  pub workers : ℕ
  pub readers : ℕ
  -- how many of the readers' passes were made before the last finished round was
  pub early : ℕ
  -- a pass of worker 0 may be out in the first half
  pub lone : Bool
  -- left rounds with the pins that were taken in them, and left rounds of which no pin is out
  pub left : List (ℕ × ℕ)
  pub drained : List ℕ
  -- free blocks that are in no row from CURSOR on and below FREE, and not in the stock
  pub hand : List ℕ
  -- one more than CURSOR and than FREE, or 0 where they are not known
  pub cursor : ℕ
  pub free : ℕ
  -- its stock: the rows from `low` on and below `high`, which name free blocks while FREE is 0
  pub low : ℕ
  pub high : ℕ
  -- the blocks that were retired in the round, once the second half has ended
  pub retired : List ℕ
  -- blocks of finished rounds that are retired and not free yet
  pub kept : List ℕ
  -- blocks with their places: that of the first member, and one more than that of the second (or 0)
  pub placed : List (ℕ × ℕ × ℕ)
  -- blocks that were rolled back and are not free yet
  pub rolled_back : List ℕ
  -- one more than what was found in RELEASED of the last finished round, or 0; and whether no pass with a pin of that round has gone to one of those blocks
  pub seen : ℕ
  pub quiet : Bool

-- the views
pub record Views : Type 0 where
  pub kind : ℕ → Kind
  pub claims : ℕ → List Claim
  pub work : ℕ → Work
  pub owned : ℕ → Owned
  pub read : ℕ → Read
  pub ruling : Ruling
