-- Which steps there are from a lawful state, so that walks, passes and claims go on, and what the seat knows after them.
use Rattle.std.specs.Prelude.{◌≡◌, ℕ, ◌+◌, ◌^◌, ◌<◌, ◌≤◌, Bool, true, false, List, ◌⊎◌}
use Rattle.mesh_names.specs.Triangles.{Shape}
use Rattle.mesh_names.specs.Partners.{Across}
use Rattle.table_words.specs.declared.layout.Layout.{Layout}
use Rattle.table_words.specs.Claims.{Progress, Claimed, Failed, Drawn, Half, Whole, Living, Claim, claim}
use Rattle.table_words.specs.Entries.{HasEntry, Noted}
use Rattle.table_words.specs.Places.{member_of, child_place}
use Rattle.table_words.specs.Setup.{Setup, setup_of}
use Rattle.table_words.specs.Views.{FirstHalf, SecondHalf, RollingBack, Worker, Reader, Note, Still, At, Past, unread, owns_nothing, Views, Vacant}
use Rattle.table_words.specs.Words.{Node, node, Words}
use Rattle.table_state.specs.Laws.{Always}
use Rattle.table_state.specs.Rule.{Lawful}
use Rattle.table_steps.specs.States.{State, state}
use Rattle.table_steps.specs.Steps.{Step}
use Rattle.table_steps.specs.OwnerSteps.{AllLiving}
use Rattle.table_steps.specs.PinSteps.{LoadRound}
use Rattle.table_steps.specs.WalkSteps.{WorkNext, ReadNext}

-- a step leads from here to a state of which P holds
abbrev pub Onward : Setup → Words → ℕ → Views → (State → Type 0) → Type 0
Onward s w n v P = (b : State) × Step s (state w n v) b × P b

-- a list of places has those of the children of the name k, which stand at the member t of the block c
abbrev pub HasChildren : Setup → List (ℕ × ℕ) → ℕ → ℕ → Bool → Type 0
HasChildren s places k c t = (u : Bool) → HasEntry places (child_place s.elements c t u, s.child k u)

-- the law that a worker's walk goes on: from its next word to a block that the word names, or it ends with the
-- note that the last finished round has not the name; and from the block it passes by, where BORN is 0 or, in
-- the second half, of the current round, or it finds the name bisected and where its children stand
abbrev pub WorkersGoOn : Type 0
WorkersGoOn = Always (λ s w n v g. (j x k : ℕ) → v.kind j ≡ Worker →
    ((l : Node) → WorkNext s w (v.work j) x k l → Onward s w n v (λ b. ((b.views.work j).walk ≡ Still) × HasEntry (b.views.work j).absent k)
    ⊎ ((c : ℕ) × (t : Bool) × (l.block ≡ c + 1) × Onward s w n v (λ b. (b.views.work j).walk ≡ At x k c t)))
    × ((c : ℕ) (t : Bool) → (v.work j).walk ≡ At x k c t →
    (((w.born c ≡ 0) ⊎ (((v.work j).half ≡ SecondHalf) × (w.born c ≡ w.round + 1))) × Onward s w n v (λ b. (b.views.work j).walk ≡ Past x k c t))
    ⊎ (((v.work j).half ≡ FirstHalf)
    × Onward s w n v (λ b. ((b.views.work j).walk ≡ Still) × HasEntry (b.views.work j).known k × HasChildren s (b.views.work j).found k c t))
    ⊎ Onward s w n v (λ b. ((b.views.work j).walk ≡ Still) × HasEntry (b.views.work j).had (c, k) × HasChildren s (b.views.work j).stood k c t)))

-- the law that a reader's walk does: it ends with the note that the name is not bisected at the pinned round, or goes to the
-- block, and there finds the name bisected, or passes by; and it keeps the retired round of the word by which it came
abbrev pub ReadersGoOn : Type 0
ReadersGoOn = Always (λ s w n v g. (j q x k : ℕ) → v.kind j ≡ Reader → (v.read j).pin ≡ q + 1 →
    ((l : Node) → ReadNext s w (v.read j) x k l
    → Onward s w n v (λ b. ((b.views.read j).walk ≡ Still) × HasEntry (b.views.read j).notes record { round = q; name = k; bisected = false })
    ⊎ ((c : ℕ) × (t : Bool) × (l.block ≡ c + 1) × Onward s w n v (λ b. ((b.views.read j).walk ≡ At x k c t) × ((b.views.read j).back ≡ l.died))))
    × ((c : ℕ) (t : Bool) → (v.read j).walk ≡ At x k c t →
    Onward s w n v (λ b. ((b.views.read j).walk ≡ Past x k c t) × ((b.views.read j).back ≡ (v.read j).back))
    ⊎ Onward s w n v (λ b. ((b.views.read j).walk ≡ Still) × HasEntry (b.views.read j).notes record { round = q; name = k; bisected = true }
    × HasChildren s (b.views.read j).places k c t)))

-- the law that a reader's pass can see the round, be ready where fewer pins than the
-- limit are taken, then pin the round that ROUND shows, and give its pin back
abbrev pub PinsGoOn : Type 0
PinsGoOn = Always (λ s w n v g. (j : ℕ) → v.kind j ≡ Reader
    → (w.taken < s.limit → Onward s w n v (λ b. ((b.views.read j).ready ≡ true) × ((b.views.read j).seen ≡ w.round)))
    × ((v.read j).pin ≡ 0 → (v.read j).ready ≡ true → Onward s w n v (λ b. ((b.views.read j).pin ≡ w.round + 1) × ((b.views.read j).seen ≡ w.round)))
    × ((q : ℕ) → (v.read j).pin ≡ q + 1 → Onward s w n v (λ b. ((b.views.read j).pin ≡ 0) × (b.words.released q ≡ w.released q + 1))))

-- the law that a load of ROUND makes a pass ready only where it shows fewer pins than the limit
abbrev pub ReadyBelow : Type 0
ReadyBelow = (s : Setup) (w : Words) (n : ℕ) (v : Views) (b : State) (j : ℕ) → LoadRound s w n v b → (b.views.read j).ready ≡ true → ((v.read j).ready ≡ true)
    ⊎ (w.taken < s.limit)

-- the law of the limit of a table over a mesh: a reader's pass can be ready where fewer than 1048576 pins are taken, and pins fit the lower half of ROUND
abbrev pub PinsFit : Type 0
PinsFit = (mesh : Shape) (across : Across) (l : Layout) (passes : ℕ) (w : Words) (n : ℕ) (v : Views) → Lawful (setup_of mesh across l passes) w n v →
    ((j : ℕ) → v.kind j ≡ Reader → w.taken < 1048576 → Onward (setup_of mesh across l passes) w n v (λ b. (b.views.read j).ready ≡ true))
    × (passes < 2 ^ 31 → w.taken < 2 ^ 32)

-- the law that passes are made: a reader's beside as many as the table is for, and a worker's in both halves beside any
-- others but worker 0's in the first half; worker 0's there where no other is out and each claim has its living block
abbrev pub PassesMade : Type 0
PassesMade = Always (λ s w n v g. (v.ruling.readers ≤ s.passes
    → Onward s w n v (λ b. (b.views.kind n ≡ Reader) × ((b.views.read n).told ≡ v.ruling.history) × ((b.views.read n).seen ≡ w.round)))
    × ((number : ℕ) → (v.ruling.phase ≡ SecondHalf)
    ⊎ ((v.ruling.phase ≡ FirstHalf) × (((0 < number) × (v.ruling.lone ≡ false)) ⊎ ((number ≡ 0) × (v.ruling.workers ≡ 0) × AllLiving v)))
    → Onward s w n v (λ b. (b.views.kind n ≡ Worker) × ((b.views.work n).number ≡ number) × ((b.views.work n).plan ≡ v.ruling.plan)
    × ((b.views.read n).told ≡ v.ruling.history))))

-- the seat is of no kind, has read nothing and owns no word
abbrev pub IsSpent : Views → ℕ → Type 0
IsSpent v j = (v.kind j ≡ Vacant) × (v.read j ≡ unread) × (v.owned j ≡ owns_nothing)

-- the law that each worker's pass, and each reader's without a pin, can be joined: the owner has what it
-- knew, and knows that no worker 0 is out; the seat has read nothing and owns no word
abbrev pub PassesJoined : Type 0
PassesJoined = Always (λ s w n v g. (j : ℕ)
    → (v.kind j ≡ Reader → (v.read j).pin ≡ 0
    → Onward s w n v (λ b. IsSpent b.views j × ((k : Note) → HasEntry (v.read j).notes k → HasEntry (b.views.read 0).notes k)))
    × (v.kind j ≡ Worker → Onward s w n v (λ b. IsSpent b.views j × (b.views.ruling.lone ≡ false)
    × ((c : Claim) → HasEntry (v.claims j) c → HasEntry (b.views.claims 0) c)
    × ((k : ℕ) → (HasEntry (v.work j).known k → HasEntry (b.views.work 0).known k) × (HasEntry (v.work j).open_ k → HasEntry (b.views.work 0).open_ k)
    × (HasEntry (v.work j).retired k → HasEntry (b.views.work 0).retired k)))))

-- the place has no claim of the owner's
abbrev pub IsEnded : State → ℕ → Type 0
IsEnded b x = (m : ℕ) (p : Progress) → HasEntry (b.views.claims 0) (claim x m p) → ⊥

-- the law that a draw gets a block or none, and that a whole linked block is published, with which its names are known as bisected
abbrev pub ClaimsGoOn : Type 0
ClaimsGoOn = Always (λ s w n v g. (j x m : ℕ) → v.kind j ≡ Worker
    → (HasEntry (v.claims j) (claim x m Claimed)
    → Onward s w n v (λ b. (b.words.cursor ≡ w.cursor + 1)
    × (HasEntry (b.views.claims j) (claim x m Failed) ⊎ ((c : ℕ) × HasEntry (b.views.claims j) (claim x m (Drawn c))))))
    × ((c k : ℕ) → HasEntry (v.claims j) (claim x m (Whole c)) → HasEntry (v.work j).found (x, k)
    → Onward s w n v (λ b. (b.words.born c ≡ w.round + 1) × HasEntry (b.views.claims j) (claim x m (Living c)) × HasEntry (b.views.work j).known k)))

-- the law that a patch of one member is claimed, and its drawn and filled block linked whole by one link
abbrev pub SinglesGoOn : Type 0
SinglesGoOn = Always (λ s w n v g. (j x k : ℕ) → v.kind j ≡ Worker → (s.leads k ≡ true) × (s.mate k ≡ 0) → HasEntry (v.work j).found (x, k) →
    (w.claimed x ≡ 0 → HasEntry (v.work j).absent k → HasEntry v.ruling.plan.target k → Onward s w n v (λ b. HasEntry (b.views.claims j) (claim x 0 Claimed)))
    × ((c : ℕ) (l : Node) → HasEntry (v.claims j) (claim x 0 (Drawn c)) → Noted (v.owned j).died c 0 → Noted (v.owned j).name (member_of c false) k
    → Noted (v.owned j).name (member_of c true) 0 → ((t u : Bool) → Noted (v.owned j).head (child_place s.elements c t u) (node 0 0))
    → Noted (v.owned j).head x l → Noted (v.owned j).history (member_of c false) l → Onward s w n v (λ b. HasEntry (b.views.claims j) (claim x 0 (Whole c)))))

-- the law that a refused round can be rolled back: each claim of the owner goes back by one
-- stage, or ends, and then its block is in the owner's hand or among those rolled back
abbrev pub ClaimsGoBack : Type 0
ClaimsGoBack = Always (λ s w n v g. (x m c : ℕ) → v.ruling.phase ≡ RollingBack → let has : Progress
    → Type 0 = (λ (p : Progress). HasEntry (v.claims 0) (claim x m p)) in
    (has Claimed ⊎ has Failed → Onward s w n v (λ b. IsEnded b x))
    × (has (Drawn c) → Onward s w n v (λ b. IsEnded b x × HasEntry b.views.ruling.hand c))
    × ((l : Node) → has (Half c) ⊎ (has (Whole c) × (m ≡ 0)) → Noted (v.owned 0).history (member_of c false) l
    → Onward s w n v (λ b. IsEnded b x × HasEntry b.views.ruling.rolled_back c))
    × ((l : Node) (y : ℕ) → m ≡ y + 1 → has (Whole c) → Noted (v.owned 0).history (member_of c true) l
    → Onward s w n v (λ b. HasEntry (b.views.claims 0) (claim x m (Half c))))
    × (has (Living c) → Onward s w n v (λ b. HasEntry (b.views.claims 0) (claim x m (Whole c)))))
