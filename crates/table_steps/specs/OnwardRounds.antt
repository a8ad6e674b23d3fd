-- Which steps a worker's pass has for its block and in the second half, and which the owner has, so that rounds go on.
use Rattle.std.specs.Prelude.{◌≡◌, ℕ, ◌+◌, ◌<◌, ◌≤◌, Bool, true, List, [], ◌⊎◌}
use Rattle.table_words.specs.Claims.{Drawn, Half, Whole, Living, claim}
use Rattle.table_words.specs.Entries.{HasEntry, EntryAt, Noted}
use Rattle.table_words.specs.Places.{member_of, child_place}
use Rattle.table_words.specs.Views.{Resting, FirstHalf, SecondHalf, Closing, RollingBack, Worker, Plan, At, Past}
use Rattle.table_words.specs.Words.{Node}
use Rattle.table_state.specs.Laws.{Always}
use Rattle.table_state.specs.Lists.{IsTarget, IsMember, IsListed}
use Rattle.table_steps.specs.Onward.{Onward, IsEnded, HasChildren}
use Rattle.table_steps.specs.OwnerSteps.{AllLiving}
use Rattle.table_steps.specs.SweepSteps.{AllLaid, LaidOnce, HandKeeps}

-- the law that each seat can note a word that it loads
abbrev pub LoadsGoOn : Type 0
LoadsGoOn = Always (λ s w n v g. (j x : ℕ) → Onward s w n v (λ b. Noted (b.views.owned j).head x (w.head x))
    × Onward s w n v (λ b. Noted (b.views.owned j).history x (w.history x)) × Onward s w n v (λ b. Noted (b.views.owned j).born x (w.born x))
    × Onward s w n v (λ b. Noted (b.views.owned j).died x (w.died x)) × Onward s w n v (λ b. Noted (b.views.owned j).name x (w.name x))
    × Onward s w n v (λ b. Noted (b.views.owned j).row x (w.row x)))

-- the law that a block which was drawn for a claim can be filled with any words, and that the second
-- member is linked once the first is and the second's HISTORY word has the content of its LINK word
abbrev pub FillsGoOn : Type 0
FillsGoOn = Always (λ s w n v g. (j x m c : ℕ) → v.kind j ≡ Worker
    → (HasEntry (v.claims j) (claim x m (Drawn c)) → (t : Bool)
    → ((l : Node) → Onward s w n v (λ b. (b.words.history (member_of c t) ≡ l) × Noted (b.views.owned j).history (member_of c t) l))
    × ((k : ℕ) → Onward s w n v (λ b. (b.words.name (member_of c t) ≡ k) × Noted (b.views.owned j).name (member_of c t) k)
    × Onward s w n v (λ b. (b.words.died c ≡ k) × Noted (b.views.owned j).died c k))
    × ((u : Bool) (l : Node) → Onward s w n v (λ b. (b.words.head (child_place s.elements c t u) ≡ l)
    × Noted (b.views.owned j).head (child_place s.elements c t u) l)))
    × ((y : ℕ) (l : Node) → m ≡ y + 1 → HasEntry (v.claims j) (claim x m (Half c)) → Noted (v.owned j).head y l → Noted (v.owned j).history (member_of c true) l
    → Onward s w n v (λ b. HasEntry (b.views.claims j) (claim x m (Whole c)))))

-- the law of the second half: a pass finds the block of a patch, and that a name is not bisected, where its
-- block is retired or the LINK of its place names none or a retired one; and it retires a patch of the retire
-- list where no child of it is bisected, or finds it retired, and knows its members as not bisected
abbrev pub RetiringGoesOn : Type 0
RetiringGoesOn = Always (λ s w n v g. (j c k : ℕ) → v.kind j ≡ Worker → v.ruling.phase ≡ SecondHalf →
    (HasEntry (v.work j).had (c, k) → (s.leads k ≡ true → Onward s w n v (λ b. HasEntry (b.views.work j).given (c, k)))
    × (0 < w.died c → Onward s w n v (λ b. HasEntry (b.views.work j).open_ k)))
    × ((x : ℕ) → HasEntry (v.work j).stood (x, k) → ((w.head x).block ≡ 0) ⊎ (0 < (w.head x).died) → Onward s w n v (λ b. HasEntry (b.views.work j).open_ k))
    × (HasEntry (v.work j).given (c, k) → (0 < w.died c → Onward s w n v (λ b. (i : ℕ) → IsMember s k i → HasEntry (b.views.work j).open_ i))
    × (w.died c ≡ 0 → HasEntry v.ruling.plan.retire k → ((i : ℕ) (u : Bool) → IsMember s k i → HasEntry (v.work j).open_ (s.child i u))
    → Onward s w n v (λ b. (b.words.died c ≡ w.round + 1) × HasEntry (b.views.work j).retired c
    × ((i : ℕ) → IsMember s k i → HasEntry (b.views.work j).open_ i)))))

-- the law of blocks that were born in the round: where a walk of the second half has come to one, the places of the name's
-- children are known; and from the place of such a child the name is known as not bisected, or where its children are
abbrev pub GrownGoesOn : Type 0
GrownGoesOn = Always (λ s w n v g. (j x k : ℕ) → v.kind j ≡ Worker → v.ruling.phase ≡ SecondHalf →
    ((c : ℕ) (t : Bool) → (v.work j).walk ≡ At x k c t → w.born c ≡ w.round + 1
    → Onward s w n v (λ b. ((b.views.work j).walk ≡ Past x k c t) × HasChildren s (b.views.work j).grown k c t))
    × (HasEntry (v.work j).grown (x, k) → Onward s w n v (λ b. HasEntry (b.views.work j).open_ k)
    ⊎ ((c : ℕ) × (t : Bool) × ((w.head x).block ≡ c + 1) × Onward s w n v (λ b. HasChildren s (b.views.work j).grown k c t))))

-- the law of the phases: a round begins with a target; while no worker's pass is out it is planned with any retire list, or refused, or closed, each
-- where the owner knows what it asks for; while it is closed a claim with a living block ends; and one that was rolled back begins anew
abbrev pub RoundsGoOn : Type 0
RoundsGoOn = Always (λ s w n v g. ((p : Plan) (names : List ℕ) → v.ruling.phase ≡ Resting → v.ruling.cursor ≡ 1 → w.round < s.rounds
    → EntryAt v.ruling.history w.round names → IsTarget s (HasEntry names) p
    → Onward s w n v (λ b. (b.views.ruling.phase ≡ FirstHalf) × (b.views.ruling.plan ≡ p)))
    × (v.ruling.workers ≡ 0 → v.ruling.phase ≡ FirstHalf → Onward s w n v (λ b. b.views.ruling.phase ≡ RollingBack)
    × ((retire : List ℕ) → ((i : ℕ) → HasEntry v.ruling.plan.needs i → HasEntry (v.work 0).known i) → AllLiving v
    → Onward s w n v (λ b. (b.views.ruling.phase ≡ SecondHalf) × (b.views.ruling.plan.retire ≡ retire))))
    × (v.ruling.workers ≡ 0 → v.ruling.phase ≡ SecondHalf → ((i : ℕ) → IsListed s v.ruling.plan.retire i → HasEntry (v.work 0).open_ i)
    → Onward s w n v (λ b. b.views.ruling.phase ≡ Closing))
    × ((x m c : ℕ) → v.ruling.phase ≡ Closing → HasEntry (v.claims 0) (claim x m (Living c)) → Onward s w n v (λ b. IsEnded b x))
    × (v.ruling.phase ≡ RollingBack → v.claims 0 ≡ [] → Onward s w n v (λ b. b.views.ruling.phase ≡ Resting)))

-- the law of what the owner can note: that a round is drained, that the last one is quiet, the
-- places of a living block, and that the last row of the stock names a free block
abbrev pub NotesGoOn : Type 0
NotesGoOn = Always (λ s w n v g. ((q k : ℕ) → HasEntry v.ruling.left (q, k) → w.released q ≡ k → Onward s w n v (λ b. HasEntry b.views.ruling.drained q))
    × Onward s w n v (λ b. b.views.ruling.seen ≡ w.released w.round + 1) × (v.ruling.seen ≡ w.taken + 1 → Onward s w n v (λ b. b.views.ruling.quiet ≡ true))
    × ((c x m : ℕ) → HasEntry (v.claims 0) (claim x m (Living c)) → Onward s w n v (λ b. HasEntry b.views.ruling.placed (c, x, m)))
    × ((i a : ℕ) → v.ruling.workers ≡ 0 → v.ruling.low ≤ i → v.ruling.high ≡ i + 1 → Noted (v.owned 0).row i a
    → Onward s w n v (λ b. HasEntry b.views.ruling.hand a)))

-- the law of the free rows: BORN of a block in the owner's hand becomes 0, and while FREE is 0 CURSOR becomes 0, each row that is not of
-- the stock can be written, and FREE becomes the number of rows, of which each is of the stock or names another such block
abbrev pub RowsGoOn : Type 0
RowsGoOn = Always (λ s w n v g. v.ruling.phase ≡ Resting
    → ((c : ℕ) → HasEntry v.ruling.hand c → Onward s w n v (λ b. (b.words.born c ≡ 0) × Noted (b.views.owned 0).born c 0))
    × (v.ruling.free ≡ 1 → Onward s w n v (λ b. (b.words.cursor ≡ 0) × (b.views.ruling.cursor ≡ 1))
    × ((i c : ℕ) → (i < v.ruling.low) ⊎ (v.ruling.high ≤ i) → Onward s w n v (λ b. (b.words.row i ≡ c) × Noted (b.views.owned 0).row i c))
    × ((k : ℕ) (hand : List ℕ) → v.ruling.cursor ≡ 1 → (v.ruling.low < v.ruling.high → v.ruling.high ≤ k) → AllLaid v k
    → LaidOnce v k → HandKeeps v k hand
    → Onward s w n v (λ b. (b.words.free ≡ k) × (b.views.ruling.hand ≡ hand)))))
