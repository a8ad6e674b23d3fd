-- The rule of a shared table: there are a stage of each place, a life of each block, and a block
-- for each round and name, of which the words and the views are what the parts say.
use Rattle.std.specs.Prelude.{◌≡◌, ℕ, ◌+◌, List, ◌⊎◌, false, true}
use Rattle.table_words.specs.Claims.{Progress}
use Rattle.table_words.specs.Entries.{HasEntry}
use Rattle.table_words.specs.Places.{member_of}
use Rattle.table_words.specs.Setup.{Setup, NamesApart}
use Rattle.table_words.specs.Views.{FirstHalf, Worker, Views, Phase}
use Rattle.table_words.specs.Words.{Words}
use Rattle.table_state.specs.Ghosts.{Stage, Held, Free, Ghost}
use Rattle.table_state.specs.Chains.{ChainsRule}
use Rattle.table_state.specs.Claims.{linked, ClaimsRule}
use Rattle.table_state.specs.Bisections.{NamesRule, IsPlaceOf}
use Rattle.table_state.specs.Pins.{PinsRule}
use Rattle.table_state.specs.Work.{WorkRule, WalkRule, RetiredKnown, RetiredRight, GrownRule}
use Rattle.table_state.specs.Owned.{OwnedRule}
use Rattle.table_state.specs.Readers.{ReaderRule}
use Rattle.table_state.specs.Lists.{PlanRule, HistoryRule, DrawnRule, DrawnFor, CrewRule}
use Rattle.table_state.specs.Inside.{InsideRule, LabelRule, ListedOnce}
use Rattle.table_state.specs.Owner.{OwnerRule, StockRule, NoteRule, FreeRule, KnownRule, KeptRule, EarlyRule}

-- the patch that n leads has no second member, or it stands at the place m - 1, and is not bisected at the last finished round
abbrev pub SecondLabel : Setup → ℕ → (ℕ → ℕ) → (ℕ → ℕ → ℕ) → ℕ → ℕ → Type 0
SecondLabel s round name who m n = ((m ≡ 0) × (s.mate n ≡ 0))
    ⊎ ((y : ℕ) × (k : ℕ) × (m ≡ y + 1) × (s.mate n ≡ k + 1) × IsPlaceOf s name (who (round + 1)) y (k + 1) × (who round (k + 1) ≡ 0))

-- in the first half the members of a claim's patch stand at its places, are not bisected at the last finished round, and the first is of the round's target
abbrev pub Labels : Setup → ℕ → Phase → (ℕ → ℕ) → (ℕ → Stage) → (ℕ → ℕ → ℕ) → List ℕ → Type 0
Labels s round phase name stage who target = (x j m : ℕ) (p : Progress) → stage x ≡ Held j m p → phase ≡ FirstHalf → (n : ℕ) × (s.leads n ≡ true)
    × IsPlaceOf s name (who (round + 1)) x n × (who round n ≡ 0) × ((b : ℕ) → linked p ≡ b + 1 → name (member_of b false) ≡ n)
    × SecondLabel s round name who m n × HasEntry target n

-- n is the number of seats that were ever made
pub record Rule (s : Setup) (w : Words) (n : ℕ) (v : Views) (g : Ghost) : Type 0 where
  pub names_apart : NamesApart s
  pub claims : ClaimsRule s w.round w.cursor w.free v.ruling.phase w.row w.claimed w.head w.born g.life g.stage v.claims
  pub labels : Labels s w.round v.ruling.phase w.name g.stage g.who v.ruling.plan.target
  pub chains : ChainsRule s.elements w.round w.head w.history w.born w.died g.life
  pub names : NamesRule s w.round v.ruling.phase w.name w.head w.history w.born w.died g.life g.who v.read
  pub pins : PinsRule s w.round w.taken w.released n v.kind v.read g.pins
  pub works : (j : ℕ) → WorkRule s w.round v.ruling.phase w.name w.born w.died g.life (g.who (w.round + 1)) (v.kind j) j (v.work j)
  pub walks : (j : ℕ) → WalkRule s w.round v.ruling.phase w.name w.history w.born w.died g.life g.who (v.kind j) j (v.work j)
  pub owned : (j : ℕ) → OwnedRule s.elements v.ruling.workers w.head w.history w.born w.died w.name w.row g.stage j (v.owned j)
  pub goes : (j : ℕ) → ReaderRule s w.round w.name w.history w.born w.died g.life g.who (v.read j)
  pub rules : OwnerRule s.passes w.round w.released g.pins n v.kind v.ruling
  pub stock : StockRule w.round w.cursor w.free g.pins v.ruling
  pub note : NoteRule w.round w.taken g.life v.read v.ruling
  pub retired : RetiredKnown w.round w.died g.life v.work v.ruling.retired
  pub grows : (j : ℕ) → GrownRule s w.round v.ruling.phase w.name w.born (g.who (w.round + 1)) (v.kind j) j (v.work j)
  pub retireds : RetiredRight w.round w.died g.life v.work v.ruling.retired
  pub plan : PlanRule s w.round v.ruling.phase g.who v.kind v.work v.ruling.plan
  pub history : HistoryRule w.round g.who v.read v.ruling.history
  pub drawn : DrawnRule v.ruling.phase w.cursor w.free w.row v.kind v.work
  pub draws : DrawnFor v.ruling.phase v.work g.stage
  pub crew : CrewRule s w.round v.ruling.phase v.kind v.work g.stage v.ruling.lone
  pub inside : InsideRule s w.free w.row g.life g.stage v.ruling.hand v.ruling.retired
  pub named : LabelRule s w.name w.head w.history g.life
  pub once : (j : ℕ) → ListedOnce (v.claims j)
  -- a claim is the owner's or a worker's
  pub holders : (x j m : ℕ) (p : Progress) → g.stage x ≡ Held j m p → (j ≡ 0) ⊎ (v.kind j ≡ Worker)
  -- blocks in the owner's hand are free, and each free block is in it, in a row or in the stock
  pub hand : (b : ℕ) → HasEntry v.ruling.hand b → g.life b ≡ Free
  pub frees : FreeRule s.pool w.cursor w.free w.row w.born g.life v.ruling.hand v.ruling.low v.ruling.high
  -- each other block has a claim, or is noted with its places; and one that is retired is noted as such
  pub known : KnownRule g.life g.stage v.ruling.placed
  pub kept : KeptRule w.round w.died g.life v.ruling.kept
  -- it counts the readers' passes that were made before the last finished round was
  pub early : EarlyRule w.round n v.kind v.read v.ruling.early

-- Words and views are lawful where there are ghost parts with which the rule holds
abbrev pub Lawful : Setup → Words → ℕ → Views → Type 0
Lawful s w n v = (g : Ghost) × Rule s w n v g
